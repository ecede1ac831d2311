-- The loop over variables.
use Rattle.std.proofs.Common.{◌≡◌, ℕ, List, []}
use Rattle.grammar_dm.proofs.Choices.{token_repeatable}
use Rattle.grammar_dm.proofs.Laws.{no}
use Rattle.grammar_dm.proofs.Walks.{IsStrict, ListWalk, is_strict, list_begins, list_fails, list_less, list_on, list_stops}
use Rattle.sparql_tokens_dm.specs.declared.token.Placed.{Placed}
use Rattle.sparql_text_dm.specs.Grammar.{variable}
use Rattle.sparql_text_dm.specs.Reading.{variable_at, variables_at}
use Rattle.sparql_text_dm.specs.Words.{is_variable_token, variable_of}

pub variables_strict : IsStrict is_variable_token variable_at
variables_strict = is_strict variable is_variable_token no is_variable_token variable_at (token_repeatable (λ (t : Placed). variable_of t.token))

pub variables_begin : (none : List (List ℕ)) (tokens : List Placed) → none ≡ [] → ListWalk is_variable_token variable_at none tokens (variables_at tokens)
unfolding variables_at
variables_begin none tokens e = list_begins is_variable_token variable_at none tokens variables_strict e

pub ruleset variables_loop = (variables_begin, list_on, list_less, list_stops, list_fails)
