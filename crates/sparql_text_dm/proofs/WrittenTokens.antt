-- The tokens of a query's text.
use Rattle.std.proofs.Common.{◌≡◌, ◌≢◌, ◌∙◌, ℕ, List, [], ◌∷◌, ◌++◌, length, map, Bool, true, false, Option, None, refl, sym, ap, subst, inl, bytes_eq, codes, if◌then◌else◌}
use Rattle.std.proofs.lemmas.List.{append-nil}
use Rattle.solutions_dm.specs.declared.selects.Rename.{Rename}
use Rattle.pattern_dm.specs.declared.pattern.Operand.{Operand}
use Rattle.pattern_dm.specs.declared.pattern.Operand.TheVariants as operands
use Rattle.pattern_dm.specs.declared.pattern.Condition.{Condition, end_of-Condition, more_of-Condition}
use Rattle.pattern_dm.specs.declared.pattern.Condition.TheVariants as conditions
use Rattle.pattern_dm.specs.declared.pattern.Pattern.{Pattern, end_of-Pattern, more_of-Pattern}
use Rattle.pattern_dm.specs.declared.pattern.Pattern.TheVariants as patterns
use Rattle.pattern_dm.specs.Formed.{IsWellFormed}
use Rattle.pattern_dm.specs.Texts.{condition_text, filter_text, filter_unless_true, operand_text, pattern_text, query_text, rename_text, spaced, variable_text}
use Rattle.sparql_tokens_dm.specs.declared.token.Keyword.TheVariants.{Select, Distinct, Where, As, Union, Minus, Optional, Filter, True, Bound, SameTerm}
use Rattle.sparql_tokens_dm.specs.declared.token.Sign.TheVariants.{OpenBrace, CloseBrace, OpenParenthesis, CloseParenthesis, Dot, Comma, Not, And, Or}
use Rattle.sparql_tokens_dm.specs.declared.token.Token.{Token}
use Rattle.sparql_tokens_dm.specs.declared.token.Token.TheVariants.{Sign, Word, Var, Iri, Literal}
use Rattle.sparql_tokens_dm.specs.declared.token.Placed.{Placed}
use Rattle.sparql_tokens_dm.specs.Tokens.{AreTokens}
use Rattle.sparql_tokens_dm.proofs.Phrases.{as_phrase, between_spaces, closing_phrase, distinct_phrase, dot_phrase, empty_phrase, filter_phrase, minus_phrase, not_phrase, open_phrase, optional_phrase, select_phrase, sign_space, spaced_sign, union_phrase, where_phrase, word_parenthesis}
use Rattle.sparql_tokens_dm.proofs.Pieces.{Ending, Ends, Free, empty_written, ends_ends, ends_free, free_ends, free_free, iri_written, is_ends, literal_written, nothing_written, sign_written, space_written, tokens_in, variable_written, word_written}
use Rattle.sparql_text_dm.specs.Written.{AreLawfulRenames, AreNames, IsLawfulCondition, IsLawfulOperand, IsLawfulPattern, IsName, IsQuery}

-- ---- the tokens, in front of more

abbrev pub operand_token : Operand → Token
operand_token (operands.Var x) = Var x
operand_token (operands.Iri i) = Iri i
operand_token (operands.Literal l) = Literal l

abbrev pub condition_tokens : Condition → List Token → List Token
condition_tokens conditions.True more = Word True ∷ more
condition_tokens (conditions.Bound x) more = Word Bound ∷ Sign OpenParenthesis ∷ Var x ∷ Sign CloseParenthesis ∷ more
condition_tokens (conditions.SameTerm p q) more = Word SameTerm ∷ Sign OpenParenthesis ∷ operand_token p ∷ Sign Comma ∷ operand_token q ∷ Sign CloseParenthesis ∷ more
condition_tokens (conditions.Not' a (more_of-Condition f end_of-Condition)) more = Sign OpenParenthesis ∷ Sign Not ∷ condition_tokens f (Sign CloseParenthesis ∷ more)
condition_tokens (conditions.And' a (more_of-Condition f end_of-Condition) b (more_of-Condition g end_of-Condition)) more = Sign OpenParenthesis ∷ condition_tokens f (Sign And ∷ condition_tokens g (Sign CloseParenthesis ∷ more))
condition_tokens (conditions.Or' a (more_of-Condition f end_of-Condition) b (more_of-Condition g end_of-Condition)) more = Sign OpenParenthesis ∷ condition_tokens f (Sign Or ∷ condition_tokens g (Sign CloseParenthesis ∷ more))

abbrev pub filter_tokens : Condition → List Token → List Token
filter_tokens f more = Word Filter ∷ Sign OpenParenthesis ∷ condition_tokens f (Sign CloseParenthesis ∷ more)

abbrev pub join_tokens : Condition → List Token → List Token
join_tokens conditions.True more = more
join_tokens f more = filter_tokens f more

abbrev pub other_tokens : Rename → List Token → List Token
other_tokens r more = Sign OpenParenthesis ∷ Var r.from ∷ Word As ∷ Var r.to ∷ Sign CloseParenthesis ∷ more

abbrev pub rename_tokens : Rename → List Token → List Token
rename_tokens r more = if bytes_eq r.from r.to then Var r.to ∷ more else other_tokens r more

abbrev pub renames_tokens : List Rename → List Token → List Token
renames_tokens [] more = more
renames_tokens (r ∷ rs) more = rename_tokens r (renames_tokens rs more)

abbrev pub names_tokens : List (List ℕ) → List Token → List Token
names_tokens [] more = more
names_tokens (x ∷ xs) more = Var x ∷ names_tokens xs more

abbrev pub pattern_tokens : Pattern → List Token → List Token
pattern_tokens patterns.Empty more = Sign OpenBrace ∷ Sign CloseBrace ∷ more
pattern_tokens (patterns.Triple s p o) more = Sign OpenBrace ∷ operand_token s ∷ operand_token p ∷ operand_token o ∷ Sign Dot ∷ Sign CloseBrace ∷ more
pattern_tokens (patterns.And' a (more_of-Pattern p end_of-Pattern) b (more_of-Pattern q end_of-Pattern)) more = Sign OpenBrace ∷ pattern_tokens p (pattern_tokens q (Sign CloseBrace ∷ more))
pattern_tokens (patterns.LeftJoin' a (more_of-Pattern p end_of-Pattern) b (more_of-Pattern q end_of-Pattern) f) more =
    Sign OpenBrace ∷ pattern_tokens p (Word Optional ∷ Sign OpenBrace ∷ pattern_tokens q (join_tokens f (Sign CloseBrace ∷ Sign CloseBrace ∷ more)))
pattern_tokens (patterns.Union' a (more_of-Pattern p end_of-Pattern) b (more_of-Pattern q end_of-Pattern)) more = Sign OpenBrace ∷ pattern_tokens p (Word Union ∷ pattern_tokens q (Sign CloseBrace ∷ more))
pattern_tokens (patterns.Minus' a (more_of-Pattern p end_of-Pattern) b (more_of-Pattern q end_of-Pattern)) more = Sign OpenBrace ∷ pattern_tokens p (Word Minus ∷ pattern_tokens q (Sign CloseBrace ∷ more))
pattern_tokens (patterns.Filter' a (more_of-Pattern p end_of-Pattern) f) more = Sign OpenBrace ∷ pattern_tokens p (filter_tokens f (Sign CloseBrace ∷ more))
pattern_tokens (patterns.Select' a (more_of-Pattern p end_of-Pattern) rs) more = Sign OpenBrace ∷ Word Select ∷ renames_tokens rs (Word Where ∷ pattern_tokens p (Sign CloseBrace ∷ more))

abbrev pub query_tokens : List (List ℕ) → Pattern → List Token → List Token
query_tokens header p more = Word Select ∷ Word Distinct ∷ names_tokens header (Word Where ∷ pattern_tokens p more)

-- ---- the text

module _ (total : ℕ) where
  operand_written : (p : Operand) → IsLawfulOperand p → Ends total (operand_text p) (λ more. operand_token p ∷ more)
  operand_written (operands.Var x) h = variable_written total x h
  operand_written (operands.Iri i) h = iri_written total i h
  operand_written (operands.Literal l) h = literal_written total l h

  condition_written : (f : Condition) → IsLawfulCondition f → Ends total (condition_text f) (condition_tokens f)
  condition_written conditions.True h = word_written total True
  condition_written (conditions.Bound x) h = is_ends total (ends_free total (free_ends total (word_parenthesis total Bound) (variable_written total x h)) (sign_written total CloseParenthesis) (λ rest. refl))
  condition_written (conditions.SameTerm p q) h =
      is_ends total (ends_free total
      (free_ends total (ends_free total (free_ends total (word_parenthesis total SameTerm) (operand_written p h.0)) (sign_space total Comma) (λ rest. refl)) (operand_written q h.1))
      (sign_written total CloseParenthesis) (λ rest. refl))
  condition_written (conditions.Not' a (more_of-Condition f end_of-Condition)) h = is_ends total (ends_free total (free_ends total (not_phrase total) (condition_written f h)) (spaced_sign total CloseParenthesis) (λ rest. refl))
  condition_written (conditions.And' a (more_of-Condition f end_of-Condition) b (more_of-Condition g end_of-Condition)) h =
      is_ends total (ends_free total
      (free_ends total (ends_free total (free_ends total (sign_space total OpenParenthesis) (condition_written f h.0)) (between_spaces total And) (λ rest. refl)) (condition_written g h.1))
      (spaced_sign total CloseParenthesis) (λ rest. refl))
  condition_written (conditions.Or' a (more_of-Condition f end_of-Condition) b (more_of-Condition g end_of-Condition)) h =
      is_ends total (ends_free total
      (free_ends total (ends_free total (free_ends total (sign_space total OpenParenthesis) (condition_written f h.0)) (between_spaces total Or) (λ rest. refl)) (condition_written g h.1))
      (spaced_sign total CloseParenthesis) (λ rest. refl))

  filter_written : (f : Condition) → IsLawfulCondition f → Free total (filter_text f) (filter_tokens f)
  filter_written f h = ends_free total (free_ends total (filter_phrase total) (condition_written f h)) (spaced_sign total CloseParenthesis) (λ rest. refl)

  join_written : (f : Condition) → IsLawfulCondition f → Free total (filter_unless_true f) (join_tokens f)
  join_written conditions.True h = empty_written total
  join_written (conditions.Bound x) h = filter_written (conditions.Bound x) h
  join_written (conditions.SameTerm p q) h = filter_written (conditions.SameTerm p q) h
  join_written (conditions.Not' a f) h = filter_written (conditions.Not' a f) h
  join_written (conditions.And' a f b g) h = filter_written (conditions.And' a f b g) h
  join_written (conditions.Or' a f b g) h = filter_written (conditions.Or' a f b g) h

  names_written : (x : List ℕ) (xs : List (List ℕ)) → AreNames (x ∷ xs) → Ends total (spaced (map variable_text (x ∷ xs))) (names_tokens (x ∷ xs))
  names_written x [] h = variable_written total x h.0
  names_written x (y ∷ ys) h = ends_ends total (variable_written total x h.0) (free_ends total (space_written total) (names_written y ys h.1)) (λ rest. refl)

  rename_written : (r : Rename) → IsName r.from → IsName r.to → Ends total (rename_text r) (rename_tokens r)
  rename_written r from to = by (bytes_eq r.from r.to)
    where
      other : Ends total (codes "(" ++ variable_text r.from ++ codes " AS " ++ variable_text r.to ++ codes ")") (other_tokens r)
      other =
          is_ends total (ends_free total
          (free_ends total (ends_free total (free_ends total (sign_written total OpenParenthesis) (variable_written total r.from from)) (as_phrase total) (λ rest. refl)) (variable_written total r.to to))
          (sign_written total CloseParenthesis) (λ rest. refl))

      by : (b : Bool) → Ends total (if b then variable_text r.to else codes "(" ++ variable_text r.from ++ codes " AS " ++ variable_text r.to ++ codes ")") (λ more. if b then Var r.to ∷ more else other_tokens r more)
      by true = variable_written total r.to to
      by false = other

  renames_written : (r : Rename) (rs : List Rename) → AreLawfulRenames (r ∷ rs) → Ends total (spaced (map rename_text (r ∷ rs))) (renames_tokens (r ∷ rs))
  renames_written r [] h = rename_written r h.0 h.1
  renames_written r (s ∷ rs) h = ends_ends total (rename_written r h.0 h.1) (free_ends total (space_written total) (renames_written s rs h.2)) (λ rest. refl)

  some_renames_written : (rs : List Rename) → rs ≢ [] → AreLawfulRenames rs → Ends total (spaced (map rename_text rs)) (renames_tokens rs)
  some_renames_written [] some h = absurd (some refl)
  some_renames_written (r ∷ rs) some h = renames_written r rs h

  -- two patterns with something between them
  abbrev around : {a b : List ℕ} {f g : List Token → List Token} → (m : List ℕ) (k : List Token → List Token) → Free total a f → Free total m k → Free total b g → Free total (codes "{ " ++ a ++ m ++ b ++ codes " }") (λ more. Sign OpenBrace ∷ f (k (g (Sign CloseBrace ∷ more))))
  around m k p between q = free_free total (free_free total (free_free total (free_free total (open_phrase total) p) between) q) (spaced_sign total CloseBrace)

  pattern_written : (p : Pattern) → IsWellFormed p → IsLawfulPattern p → Free total (pattern_text p) (pattern_tokens p)
  pattern_written patterns.Empty w h = empty_phrase total
  pattern_written (patterns.Triple s p o) w h =
      ends_free total
      (free_ends total (ends_free total
      (free_ends total (ends_free total (free_ends total (open_phrase total) (operand_written s h.0)) (space_written total) (λ rest. refl)) (operand_written p h.1))
      (space_written total) (λ rest. refl)) (operand_written o h.2))
      (dot_phrase total) (λ rest. refl)
  pattern_written (patterns.And' a (more_of-Pattern p end_of-Pattern) b (more_of-Pattern q end_of-Pattern)) w h = around (codes " ") (λ more. more) (pattern_written p w.0 h.0) (space_written total) (pattern_written q w.1 h.1)
  pattern_written (patterns.LeftJoin' a (more_of-Pattern p end_of-Pattern) b (more_of-Pattern q end_of-Pattern) f) w h =
      free_free total
      (free_free total (free_free total (free_free total (free_free total (open_phrase total) (pattern_written p w.0 h.0)) (optional_phrase total)) (pattern_written q w.1 h.1)) (join_written f h.2))
      (closing_phrase total)
  pattern_written (patterns.Union' a (more_of-Pattern p end_of-Pattern) b (more_of-Pattern q end_of-Pattern)) w h = around (codes " UNION ") (λ more. Word Union ∷ more) (pattern_written p w.0 h.0) (union_phrase total) (pattern_written q w.1 h.1)
  pattern_written (patterns.Minus' a (more_of-Pattern p end_of-Pattern) b (more_of-Pattern q end_of-Pattern)) w h = around (codes " MINUS ") (λ more. Word Minus ∷ more) (pattern_written p w.0 h.0) (minus_phrase total) (pattern_written q w.1 h.1)
  pattern_written (patterns.Filter' a (more_of-Pattern p end_of-Pattern) f) w h = free_free total (free_free total (free_free total (open_phrase total) (pattern_written p w h.0)) (filter_written f h.1)) (spaced_sign total CloseBrace)
  pattern_written (patterns.Select' a (more_of-Pattern p end_of-Pattern) rs) w h =
      free_free total
      (free_free total (ends_free total (free_ends total (select_phrase total) (some_renames_written rs w.1.0 h.1)) (where_phrase total) (λ rest. refl)) (pattern_written p w.0 h.0))
      (spaced_sign total CloseBrace)

  query_written : (header : List (List ℕ)) (p : Pattern) → header ≢ [] → AreNames header → IsWellFormed p → IsLawfulPattern p → Free total (query_text header p) (query_tokens header p)
  query_written [] p some names w h = absurd (some refl)
  query_written (x ∷ xs) p some names w h =
      free_free total (ends_free total (free_ends total (distinct_phrase total) (names_written x xs names)) (where_phrase total) (λ rest. refl)) (pattern_written p w h)

  text_ending : (header : List (List ℕ)) (p : Pattern) → IsQuery header p → Ending total (query_text header p) (query_tokens header p [])
  text_ending header p q =
      subst (λ (bs : List ℕ). Ending total bs (query_tokens header p [])) (append-nil (query_text header p))
      ((query_written header p q.some q.names q.formed q.lawful).on [] [] tt (nothing_written total))

-- the tokens of the text
pub text_tokens : (header : List (List ℕ)) (p : Pattern) → IsQuery header p → (us : List Placed) × AreTokens (query_text header p) us None × (tokens_in us ≡ query_tokens header p [])
text_tokens header p q =
    let text = text_ending (length (query_text header p)) header p q in
    (text.found, inl (text.utf8, text.consists), text.are)
