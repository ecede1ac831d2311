-- The loops: what holds before the first turn, and the rules of their steps.
use Rattle.std.proofs.Common.{◌≡◌, ◌<◌, List, [], ◌∷◌, ◌++◌, length, Option, Some, None, Ok, true, false, refl, sym, ap, ◌∙◌}
use Rattle.grammar_dm.specs.Reading.{starts}
use Rattle.grammar_dm.specs.Exits.{Fails}
use Rattle.grammar_dm.specs.declared.read_error.ReadError.{ReadError}
use Rattle.grammar_dm.proofs.Walks.{Walk, walk_behind, walk_on, walk_less, walk_stops, walk_fails, ListWalk, list_behind, list_begins, lists, SkipWalk, skip_begins, skips}
use Rattle.ddl_syntax_dm.specs.declared.token.Keyword.TheVariants as keywords
use Rattle.ddl_tokens_dm.specs.declared.token.Sign.TheVariants as signs
use Rattle.ddl_tokens_dm.specs.declared.token.Placed.{Placed}
use Rattle.ddl_syntax_dm.specs.Words.{Name}
use Rattle.ddl_syntax_dm.specs.Reading.{is_sign, is_word, name_at, next_name_at, names_at, rule_at, rules_at, begins_constraint, constraint_at, constraints_at, item_at, next_item_at, items_at, Read, optional_statement_at, next_statement_at, file_at}
use Rattle.ddl_syntax_dm.specs.Grammar.{present}
use Rattle.ddl_syntax_dm.specs.declared.syntax.Constraint.{Constraint}
use Rattle.ddl_syntax_dm.specs.declared.syntax.Item.{Item}
use Rattle.ddl_syntax_dm.specs.declared.syntax.Statement.{Statement}
use Rattle.ddl_syntax_dm.proofs.Readers.{names_strict, rules_strict}
use Rattle.ddl_syntax_dm.proofs.ColumnReaders.{constraints_strict}
use Rattle.ddl_syntax_dm.proofs.StatementReaders.{items_strict, statements_strict}

pub names_begin : (tokens rest : List Placed) (v : Name) (none new : List Name) → name_at tokens ≡ Ok (v, rest) → none ≡ [] → new ≡ none ++ v ∷ []
    → ListWalk (is_sign signs.Comma) next_name_at new rest (names_at tokens)
unfolding names_at
names_begin tokens rest v none new read empty made = list_behind (is_sign signs.Comma) name_at next_name_at tokens rest v none new names_strict read empty made

pub rules_begin : (rest : List Placed) → SkipWalk (is_word keywords.On) rule_at rest (rules_at rest)
unfolding rules_at
rules_begin rest = skip_begins (is_word keywords.On) rule_at rest rules_strict

pub constraints_begin : (none : List Constraint) (rest : List Placed) → none ≡ [] → ListWalk begins_constraint constraint_at none rest (constraints_at rest)
unfolding constraints_at
constraints_begin none rest e = list_begins begins_constraint constraint_at none rest constraints_strict e

pub items_begin : (tokens rest : List Placed) (v : Item) (none new : List Item) → item_at tokens ≡ Ok (v, rest) → none ≡ [] → new ≡ none ++ v ∷ []
    → ListWalk (is_sign signs.Comma) next_item_at new rest (items_at tokens)
unfolding items_at
items_begin tokens rest v none new read empty made = list_behind (is_sign signs.Comma) item_at next_item_at tokens rest v none new items_strict read empty made

-- ---- the statements that are there, of all that may be

present_append : {A : Type 0} (xs ys : List (Option A)) → present (xs ++ ys) ≡ present xs ++ present ys
present_append [] ys = refl
present_append (Some x ∷ xs) ys = ap (λ zs. x ∷ zs) (present_append xs ys)
present_append (None ∷ xs) ys = present_append xs ys

pub record FileWalk (found : List Statement) (rest : List Placed) (total : Read (List Statement)) : Type 0 where
  pub front : List (Option Statement)
  pub kept : found ≡ present front
  pub walk : Walk (is_sign signs.Semicolon) next_statement_at present front rest total

pub file_begin : (tokens rest : List Placed) (v : Option Statement) (none new : List Statement) → optional_statement_at tokens ≡ Ok (v, rest) → none ≡ [] → new ≡ none ++ present (v ∷ []) → FileWalk new rest (file_at tokens)
unfolding file_at
file_begin tokens rest v none new read empty made = record {
  front = v ∷ [];
  kept = made ∙ ap (λ us. us ++ present (v ∷ [])) empty;
  walk = walk_behind (is_sign signs.Semicolon) optional_statement_at next_statement_at present tokens rest v [] (v ∷ []) statements_strict read refl refl;
}

pub file_on : (found new : List Statement) (rest after : List Placed) (v : Option Statement) (total : Read (List Statement))
    → FileWalk found rest total → starts (is_sign signs.Semicolon) rest ≡ true → next_statement_at rest ≡ Ok (v, after) → new ≡ found ++ present (v ∷ []) → FileWalk new after total
file_on found new rest after v total w s e made = record {
  front = w.front ++ v ∷ [];
  kept = made ∙ ap (λ us. us ++ present (v ∷ [])) w.kept ∙ sym (present_append w.front (v ∷ []));
  walk = walk_on (is_sign signs.Semicolon) next_statement_at present w.front (w.front ++ v ∷ []) rest after v total w.walk s e refl;
}

pub file_less : (found : List Statement) (rest after : List Placed) (v : Option Statement) (total : Read (List Statement))
    → FileWalk found rest total → starts (is_sign signs.Semicolon) rest ≡ true → next_statement_at rest ≡ Ok (v, after) → length after < length rest
file_less found rest after v total w s e = walk_less (is_sign signs.Semicolon) next_statement_at present w.front rest after v total w.walk s e

abbrev read_as : List Placed → List Statement → Read (List Statement)
read_as rest found = Ok (found, rest)

pub file_stops : (found : List Statement) (rest : List Placed) (total : Read (List Statement)) → FileWalk found rest total → starts (is_sign signs.Semicolon) rest ≡ false → total ≡ Ok (found, rest)
file_stops found rest total w s = walk_stops (is_sign signs.Semicolon) next_statement_at present w.front rest total w.walk s ∙ ap (read_as rest) (sym w.kept)

pub file_fails : (found : List Statement) (rest : List Placed) (total : Read (List Statement)) (e : ReadError Placed) → FileWalk found rest total → starts (is_sign signs.Semicolon) rest ≡ true → Fails e (next_statement_at rest) → Fails e total
file_fails found rest total e w s h = walk_fails (is_sign signs.Semicolon) next_statement_at present w.front rest total e w.walk s h

pub ruleset names_loop = (names_begin, lists)

pub ruleset rules_loop = (rules_begin, skips)

pub ruleset constraints_loop = (constraints_begin, lists)

pub ruleset items_loop = (items_begin, lists)

pub ruleset file_loop = (file_begin, file_on, file_less, file_stops, file_fails)
