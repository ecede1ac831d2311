-- The loop over names.
use Rattle.std.proofs.Common.{◌≡◌, List, []}
use Rattle.schema_dm.specs.Naming.{Name}
use Rattle.grammar_dm.proofs.Choices.{token_repeatable}
use Rattle.grammar_dm.proofs.Laws.{no}
use Rattle.grammar_dm.proofs.Walks.{IsStrict, ListWalk, is_strict, list_begins, list_fails, list_less, list_on, list_stops}
use Rattle.query_tokens_dm.specs.declared.token.Placed.{Placed}
use Rattle.query_text_dm.specs.Grammar.{name}
use Rattle.query_text_dm.specs.Reading.{is_name, name_at, names_at}
use Rattle.query_text_dm.specs.Words.{name_of}

pub names_strict : IsStrict is_name name_at
names_strict = is_strict name is_name no is_name name_at (token_repeatable (λ (t : Placed). name_of t.token))

pub names_begin : (none : List Name) (tokens : List Placed) → none ≡ [] → ListWalk is_name name_at none tokens (names_at tokens)
unfolding names_at
names_begin none tokens e = list_begins is_name name_at none tokens names_strict e

pub ruleset names_loop = (names_begin, list_on, list_less, list_stops, list_fails)
