-- The grammar of the fragment of SPARQL in which patterns are written (SPARQL 1.1 Query Language, section 19.8).
--   query = SELECT DISTINCT var { var } WHERE pattern
--   pattern = "{" [ term term term "." | SELECT target { target } WHERE pattern | pattern operator ] "}"
--   operator = pattern | UNION pattern | MINUS pattern | OPTIONAL "{" pattern [ FILTER "(" proper ")" ] "}" | FILTER "(" condition ")"
--   target = var | "(" var AS var ")"
--   term = var | IRI | literal
--   condition = true | proper
--   proper = bound "(" var ")" | sameTerm "(" term "," term ")" | "(" ( "!" condition | condition ( "&&" | "||" ) condition ) ")"
-- In "(" var AS var ")" the variables differ. The new names of one list of targets differ.
use Rattle.std.specs.Prelude.{ℕ, zero, suc, List, [], ◌∷◌, ◌++◌}
use Rattle.solutions_dm.specs.declared.selects.Rename.{Rename}
use Rattle.grammar_dm.specs.Part.{Part, never}
use Rattle.grammar_dm.specs.Part.Part.{token, give, then, or, repeated, levels}
use Rattle.sparql_tokens_dm.specs.declared.token.Keyword.{Keyword}
use Rattle.sparql_tokens_dm.specs.declared.token.Keyword.TheVariants.{Select, Distinct, Where, As, Union, Minus, Optional, Filter, True, Bound, SameTerm}
use Rattle.sparql_tokens_dm.specs.declared.token.Sign.{Sign}
use Rattle.sparql_tokens_dm.specs.declared.token.Sign.TheVariants.{OpenBrace, CloseBrace, OpenParenthesis, CloseParenthesis, Dot, Comma, Not}
use Rattle.sparql_tokens_dm.specs.declared.token.Placed.{Placed}
use Rattle.pattern_dm.specs.declared.pattern.Condition.{Condition}
use Rattle.pattern_dm.specs.declared.pattern.Condition.TheVariants as conditions
use Rattle.pattern_dm.specs.declared.pattern.Operand.{Operand}
use Rattle.pattern_dm.specs.declared.pattern.Pattern.{Pattern}
use Rattle.pattern_dm.specs.declared.pattern.Pattern.TheVariants as patterns
use Rattle.sparql_text_dm.specs.declared.connective.Connective.{Connective}
use Rattle.sparql_text_dm.specs.declared.connective.Connective.TheVariants as connectives
use Rattle.sparql_text_dm.specs.Words.{Mark, connective_of, new_name_of, operand_of, other_name_of, sign_of, variable_of, word_of}

-- the variables of a header, and a pattern
abbrev pub Query : Type 0
Query = List (List ℕ) × Pattern

abbrev pub sign : Sign → Part Placed Mark
sign s = token (λ t. sign_of s t.token)

abbrev pub word : Keyword → Part Placed Mark
word w = token (λ t. word_of w t.token)

abbrev pub variable : Part Placed (List ℕ)
variable = token (λ t. variable_of t.token)

abbrev pub term : Part Placed Operand
term = token (λ t. operand_of t.token)

-- ---- conditions

unfoldable pub bound : Part Placed Condition
bound = then (word Bound) (λ _. then (sign OpenParenthesis) (λ _. then variable (λ x. then (sign CloseParenthesis) (λ _. give (conditions.Bound x)))))

-- two terms in parentheses
unfoldable pub terms : Part Placed (Operand × Operand)
terms = then (sign OpenParenthesis) (λ _. then term (λ x. then (sign Comma) (λ _. then term (λ y. then (sign CloseParenthesis) (λ _. give (x, y))))))

unfoldable pub same_term : Part Placed Condition
same_term = then (word SameTerm) (λ _. then terms (λ x. give (conditions.SameTerm x.0 x.1)))

abbrev pub true_or : Part Placed Condition → Part Placed Condition
true_or proper = or (then (word True) (λ _. give conditions.True)) proper

unfoldable pub negation : Part Placed Condition → Part Placed Condition
negation condition = then (sign Not) (λ _. then condition (λ f. give (conditions.Not f)))

abbrev pub connected : Connective → Condition → Condition → Condition
connected connectives.And f g = conditions.And f g
connected connectives.Or f g = conditions.Or f g

unfoldable pub connection : Part Placed Condition → Part Placed Condition
connection condition = then condition (λ f. then (token (λ t. connective_of t.token)) (λ m. then condition (λ g. give (connected m f g))))

unfoldable pub grouped : Part Placed Condition → Part Placed Condition
grouped condition = then (sign OpenParenthesis) (λ _. then (or (negation condition) (connection condition)) (λ f. then (sign CloseParenthesis) (λ _. give f)))

-- a condition that isn't `true`, of at most so many levels
unfoldable pub proper_within : ℕ → Part Placed Condition
proper_within zero = never
proper_within (suc n) = or bound (or same_term (grouped (true_or (proper_within n))))

abbrev pub proper : Part Placed Condition
proper = levels proper_within

abbrev pub condition : Part Placed Condition
condition = true_or proper

-- a condition behind FILTER, in parentheses
unfoldable pub filter : Part Placed Condition → Part Placed Condition
filter condition = then (word Filter) (λ _. then (sign OpenParenthesis) (λ _. then condition (λ f. then (sign CloseParenthesis) (λ _. give f))))

-- ---- targets

abbrev pub renamed : List ℕ → List ℕ → Rename
renamed from to = record { from = from; to = to }

unfoldable pub same_target : List Rename → Part Placed Rename
same_target taken = then (token (λ t. new_name_of taken t.token)) (λ x. give (renamed x x))

unfoldable pub other_target : List Rename → Part Placed Rename
other_target taken =
    then (sign OpenParenthesis) (λ _. then variable (λ x. then (word As) (λ _. then (token (λ t. other_name_of taken x t.token)) (λ y.
    then (sign CloseParenthesis) (λ _. give (renamed x y))))))

-- a target whose new name is none of those taken
unfoldable pub target : List Rename → Part Placed Rename
target taken = or (other_target taken) (same_target taken)

-- at most so many further targets
unfoldable pub targets_within : ℕ → List Rename → Part Placed (List Rename)
targets_within zero taken = give []
targets_within (suc n) taken =
    or (then (target taken) (λ r. then (targets_within n (taken ++ r ∷ [])) (λ rs. give (r ∷ rs)))) (give [])

unfoldable pub targets : Part Placed (List Rename)
targets = then (target []) (λ r. then (levels (λ n. targets_within n (r ∷ []))) (λ rs. give (r ∷ rs)))

-- ---- patterns

unfoldable pub triple : Part Placed Pattern
triple = then term (λ s. then term (λ p. then term (λ o. then (sign Dot) (λ _. give (patterns.Triple s p o)))))

unfoldable pub select : Part Placed Pattern → Part Placed Pattern
select pattern = then (word Select) (λ _. then targets (λ rs. then (word Where) (λ _. then pattern (λ p. give (patterns.Select p rs)))))

-- the condition of a left join, which is `true` where no filter stands
abbrev pub join_condition : Part Placed Condition
join_condition = or (filter proper) (give conditions.True)

-- the second part of a left join, and its condition
unfoldable pub optional_part : Part Placed Pattern → Part Placed (Pattern × Condition)
optional_part pattern =
    then (word Optional) (λ _. then (sign OpenBrace) (λ _. then pattern (λ q. then join_condition (λ f. then (sign CloseBrace) (λ _. give (q, f))))))

unfoldable pub left_join : Part Placed Pattern → Pattern → Part Placed Pattern
left_join pattern p = then (optional_part pattern) (λ x. give (patterns.LeftJoin p x.0 x.1))

-- what stands behind a pattern in braces
unfoldable pub operator : Part Placed Pattern → Pattern → Part Placed Pattern
operator pattern p =
    or (then (word Union) (λ _. then pattern (λ q. give (patterns.Union p q))))
    (or (then (word Minus) (λ _. then pattern (λ q. give (patterns.Minus p q))))
    (or (left_join pattern p)
    (or (then (filter condition) (λ f. give (patterns.Filter p f)))
    (then pattern (λ q. give (patterns.And p q))))))

-- what stands in braces
unfoldable pub content : Part Placed Pattern → Part Placed Pattern
content pattern = or triple (or (select pattern) (or (then pattern (λ p. operator pattern p)) (give patterns.Empty)))

-- a pattern of at most so many levels
unfoldable pub pattern_within : ℕ → Part Placed Pattern
pattern_within zero = never
pattern_within (suc n) = then (sign OpenBrace) (λ _. then (content (pattern_within n)) (λ p. then (sign CloseBrace) (λ _. give p)))

abbrev pub pattern : Part Placed Pattern
pattern = levels pattern_within

unfoldable pub header : Part Placed (List (List ℕ))
header = then variable (λ x. then (repeated variable) (λ xs. give (x ∷ xs)))

unfoldable pub query : Part Placed Query
query = then (word Select) (λ _. then (word Distinct) (λ _. then header (λ h. then (word Where) (λ _. then pattern (λ p. give (h, p))))))
