-- Reading from left to right.
use Rattle.std.specs.Prelude.{ℕ, zero, suc, List, [], ◌∷◌, ◌++◌, Bool, true, false, ◌||◌, Ok, length}
use Rattle.solutions_dm.specs.declared.selects.Rename.{Rename}
use Rattle.grammar_dm.specs.Reading.{◌>>=◌, Answer, fault_at, many_at, starts, token_at}
use Rattle.sparql_tokens_dm.specs.declared.token.Keyword.{Keyword}
use Rattle.sparql_tokens_dm.specs.declared.token.Keyword.TheVariants.{Select, Distinct, Where, As, Union, Minus, Optional, Filter, True, Bound, SameTerm}
use Rattle.sparql_tokens_dm.specs.declared.token.Sign.{Sign}
use Rattle.sparql_tokens_dm.specs.declared.token.Sign.TheVariants.{OpenBrace, CloseBrace, OpenParenthesis, CloseParenthesis, Dot, Comma, Not}
use Rattle.sparql_tokens_dm.specs.declared.token.Placed.{Placed}
use Rattle.pattern_dm.specs.declared.pattern.Condition.{Condition}
use Rattle.pattern_dm.specs.declared.pattern.Condition.TheVariants as conditions
use Rattle.pattern_dm.specs.declared.pattern.Operand.{Operand}
use Rattle.pattern_dm.specs.declared.pattern.Pattern.{Pattern}
use Rattle.pattern_dm.specs.declared.pattern.Pattern.TheVariants as patterns
use Rattle.sparql_text_dm.specs.declared.connective.Connective.{Connective}
use Rattle.sparql_text_dm.specs.Grammar.{Query, connected, renamed}
use Rattle.sparql_text_dm.specs.Words.{Mark, connective_of, is_operand, is_sign, is_variable_token, is_word, new_name_of, operand_of, other_name_of, sign_of, variable_of, word_of}

abbrev pub Read : Type 0 → Type 0
Read V = List Placed → Answer Placed V

abbrev pub sign_at : Sign → Read Mark
sign_at s = token_at (λ t. sign_of s t.token)

abbrev pub word_at : Keyword → Read Mark
word_at w = token_at (λ t. word_of w t.token)

abbrev pub variable_at : Read (List ℕ)
variable_at = token_at (λ t. variable_of t.token)

abbrev pub term_at : Read Operand
term_at = token_at (λ t. operand_of t.token)

abbrev pub new_name_at : List Rename → Read (List ℕ)
new_name_at taken = token_at (λ t. new_name_of taken t.token)

abbrev pub other_name_at : List Rename → List ℕ → Read (List ℕ)
other_name_at taken x = token_at (λ t. other_name_of taken x t.token)

-- ---- conditions

unfoldable pub bound_at : Read Condition
bound_at ts = word_at Bound ts >>= λ a. sign_at OpenParenthesis a.1 >>= λ b. variable_at b.1 >>= λ x. sign_at CloseParenthesis x.1 >>= λ c. Ok (conditions.Bound x.0, c.1)

-- two terms in parentheses
unfoldable pub terms_at : Read (Operand × Operand)
terms_at ts = sign_at OpenParenthesis ts >>= λ b. term_at b.1 >>= λ x. sign_at Comma x.1 >>= λ c. term_at c.1 >>= λ y. sign_at CloseParenthesis y.1 >>= λ d. Ok ((x.0, y.0), d.1)

unfoldable pub same_term_at : Read Condition
same_term_at ts = word_at SameTerm ts >>= λ a. terms_at a.1 >>= λ x. Ok (conditions.SameTerm x.0.0 x.0.1, x.1)

unfoldable pub true_at : Read Condition
true_at ts = word_at True ts >>= λ a. Ok (conditions.True, a.1)

abbrev pub true_or_at : Read Condition → Read Condition
true_or_at proper ts = elim (starts (is_word True) ts) [
  | true ↦ true_at ts
  | false ↦ proper ts
]

unfoldable pub negation_at : Read Condition → Read Condition
negation_at condition ts = sign_at Not ts >>= λ a. condition a.1 >>= λ f. Ok (conditions.Not f.0, f.1)

abbrev pub connective_at : Read Connective
connective_at = token_at (λ t. connective_of t.token)

unfoldable pub connected_at : Read Condition → Read Condition
connected_at condition ts = condition ts >>= λ f. connective_at f.1 >>= λ m. condition m.1 >>= λ g. Ok (connected m.0 f.0 g.0, g.1)

abbrev pub choice_at : Read Condition → Read Condition
choice_at condition ts = elim (starts (is_sign Not) ts) [
  | true ↦ negation_at condition ts
  | false ↦ connected_at condition ts
]

unfoldable pub grouped_at : Read Condition → Read Condition
grouped_at condition ts = sign_at OpenParenthesis ts >>= λ a. choice_at condition a.1 >>= λ f. sign_at CloseParenthesis f.1 >>= λ b. Ok (f.0, b.1)

-- a condition that isn't `true`, of at most so many levels
unfoldable pub proper_at : ℕ → Read Condition
proper_at zero ts = fault_at ts
proper_at (suc n) ts = elim (starts (is_word Bound) ts) [
  | true ↦ bound_at ts
  | false ↦ elim (starts (is_word SameTerm) ts) [
    | true ↦ same_term_at ts
    | false ↦ grouped_at (true_or_at (proper_at n)) ts
  ]
]

abbrev pub all_proper_at : Read Condition
all_proper_at ts = proper_at (length ts) ts

abbrev pub condition_at : Read Condition
condition_at = true_or_at all_proper_at

unfoldable pub filter_at : Read Condition → Read Condition
filter_at condition ts = word_at Filter ts >>= λ a. sign_at OpenParenthesis a.1 >>= λ b. condition b.1 >>= λ f. sign_at CloseParenthesis f.1 >>= λ c. Ok (f.0, c.1)

-- ---- targets

unfoldable pub same_target_at : List Rename → Read Rename
same_target_at taken ts = new_name_at taken ts >>= λ x. Ok (renamed x.0 x.0, x.1)

unfoldable pub other_target_at : List Rename → Read Rename
other_target_at taken ts =
    sign_at OpenParenthesis ts >>= λ a. variable_at a.1 >>= λ x. word_at As x.1 >>= λ b. other_name_at taken x.0 b.1 >>= λ y. sign_at CloseParenthesis y.1 >>= λ c. Ok (renamed x.0 y.0, c.1)

abbrev pub target_at : List Rename → Read Rename
target_at taken ts = elim (starts (is_sign OpenParenthesis) ts) [
  | true ↦ other_target_at taken ts
  | false ↦ same_target_at taken ts
]

abbrev pub begins_target : Placed → Bool
begins_target t = is_variable_token t || is_sign OpenParenthesis t

unfoldable pub targets_at : ℕ → List Rename → Read (List Rename)
targets_at zero taken ts = Ok ([], ts)
targets_at (suc n) taken ts = elim (starts begins_target ts) [
  | true ↦ (target_at taken ts >>= λ r. targets_at n (taken ++ r.0 ∷ []) r.1 >>= λ rs. Ok (r.0 ∷ rs.0, rs.1))
  | false ↦ Ok ([], ts)
]

unfoldable pub all_targets_at : Read (List Rename)
all_targets_at ts = target_at [] ts >>= λ r. targets_at (suc (length r.1)) (r.0 ∷ []) r.1 >>= λ rs. Ok (r.0 ∷ rs.0, rs.1)

-- ---- patterns

unfoldable pub triple_at : Read Pattern
triple_at ts = term_at ts >>= λ s. term_at s.1 >>= λ p. term_at p.1 >>= λ o. sign_at Dot o.1 >>= λ a. Ok (patterns.Triple s.0 p.0 o.0, a.1)

unfoldable pub select_at : Read Pattern → Read Pattern
select_at pattern ts = word_at Select ts >>= λ a. all_targets_at a.1 >>= λ rs. word_at Where rs.1 >>= λ b. pattern b.1 >>= λ p. Ok (patterns.Select p.0 rs.0, p.1)

-- the condition of a left join, which is `true` where no filter stands
unfoldable pub join_condition_at : Read Condition
join_condition_at ts = elim (starts (is_word Filter) ts) [
  | true ↦ filter_at all_proper_at ts
  | false ↦ Ok (conditions.True, ts)
]

unfoldable pub optional_part_at : Read Pattern → Read (Pattern × Condition)
optional_part_at pattern ts =
    word_at Optional ts >>= λ a. sign_at OpenBrace a.1 >>= λ b. pattern b.1 >>= λ q. join_condition_at q.1 >>= λ f. sign_at CloseBrace f.1 >>= λ c. Ok ((q.0, f.0), c.1)

unfoldable pub left_join_at : Read Pattern → Pattern → Read Pattern
left_join_at pattern p ts = optional_part_at pattern ts >>= λ x. Ok (patterns.LeftJoin p x.0.0 x.0.1, x.1)

unfoldable pub union_at : Read Pattern → Pattern → Read Pattern
union_at pattern p ts = word_at Union ts >>= λ a. pattern a.1 >>= λ q. Ok (patterns.Union p q.0, q.1)

unfoldable pub minus_at : Read Pattern → Pattern → Read Pattern
minus_at pattern p ts = word_at Minus ts >>= λ a. pattern a.1 >>= λ q. Ok (patterns.Minus p q.0, q.1)

unfoldable pub filtered_at : Pattern → Read Pattern
filtered_at p ts = filter_at condition_at ts >>= λ f. Ok (patterns.Filter p f.0, f.1)

unfoldable pub and_pattern_at : Read Pattern → Pattern → Read Pattern
and_pattern_at pattern p ts = pattern ts >>= λ q. Ok (patterns.And p q.0, q.1)

-- what stands behind a pattern in braces
unfoldable pub operator_at : Read Pattern → Pattern → Read Pattern
operator_at pattern p ts = elim (starts (is_word Union) ts) [
  | true ↦ union_at pattern p ts
  | false ↦ elim (starts (is_word Minus) ts) [
    | true ↦ minus_at pattern p ts
    | false ↦ elim (starts (is_word Optional) ts) [
      | true ↦ left_join_at pattern p ts
      | false ↦ elim (starts (is_word Filter) ts) [
        | true ↦ filtered_at p ts
        | false ↦ and_pattern_at pattern p ts
      ]
    ]
  ]
]

unfoldable pub operation_at : Read Pattern → Read Pattern
operation_at pattern ts = pattern ts >>= λ p. operator_at pattern p.0 p.1

-- what stands in braces
unfoldable pub content_at : Read Pattern → Read Pattern
content_at pattern ts = elim (starts is_operand ts) [
  | true ↦ triple_at ts
  | false ↦ elim (starts (is_word Select) ts) [
    | true ↦ select_at pattern ts
    | false ↦ elim (starts (is_sign OpenBrace) ts) [
      | true ↦ operation_at pattern ts
      | false ↦ Ok (patterns.Empty, ts)
    ]
  ]
]

-- a pattern of at most so many levels
unfoldable pub pattern_at : ℕ → Read Pattern
pattern_at zero ts = fault_at ts
pattern_at (suc n) ts = sign_at OpenBrace ts >>= λ a. content_at (pattern_at n) a.1 >>= λ p. sign_at CloseBrace p.1 >>= λ b. Ok (p.0, b.1)

unfoldable pub variables_at : Read (List (List ℕ))
variables_at = many_at is_variable_token variable_at

-- one variable at least
unfoldable pub header_at : Read (List (List ℕ))
header_at ts = elim (starts is_variable_token ts) [
  | true ↦ variables_at ts
  | false ↦ fault_at ts
]

unfoldable pub query_at : Read Query
query_at ts =
    word_at Select ts >>= λ a. word_at Distinct a.1 >>= λ b. header_at b.1 >>= λ h. word_at Where h.1 >>= λ c. pattern_at (length c.1) c.1 >>= λ p. Ok ((h.0, p.0), p.1)
