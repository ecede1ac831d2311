-- Each reader of a pattern reads its part.
use Rattle.std.proofs.Common.{◌≡◌, ℕ, zero, suc, ◌<◌, ◌≤◌, Bool, true, false, List, [], ◌∷◌, ◌++◌, length, Option, Some, None, Ok, refl, sym, subst, ap, arith, inl, inr}
use Rattle.std.specs.Prelude.{bytes_eq, is_some, ◌||◌}
use Rattle.solutions_dm.specs.declared.selects.Rename.{Rename}
use Rattle.grammar_dm.specs.Part.{Part, Spells}
use Rattle.grammar_dm.specs.Part.Part.{give, levels, or, repeated, then, token}
use Rattle.grammar_dm.specs.Reading.{◌>>=◌, Answer, fault_at, starts, took}
use Rattle.grammar_dm.proofs.Choices.{Sub, closed_reads, either, is_first, is_second, neither, widened, or_apart, or_by, parted, repeated_reads, token_repeatable}
use Rattle.grammar_dm.proofs.Equations.{or_sub, self_sub, then_sub}
use Rattle.grammar_dm.proofs.Laws.{Apart, Reads, closed_then, give_apart, give_reads, no, then_blocked, then_reads, token_blocked, token_takes, token_then, token_then_blocked}
use Rattle.grammar_dm.proofs.Nesting.{levels_reads, never_reads, never_sub, nil_sub}
use Rattle.grammar_dm.proofs.Fronts.{behind_whole, suffix_length}
use Rattle.sparql_tokens_dm.specs.Characters.{spelling}
use Rattle.sparql_tokens_dm.specs.declared.token.Keyword.{Keyword}
use Rattle.sparql_tokens_dm.specs.declared.token.Keyword.TheVariants.{Select, Where, As, Union, Minus, Optional, Filter}
use Rattle.sparql_tokens_dm.specs.declared.token.Sign.TheVariants.{OpenBrace, CloseBrace, OpenParenthesis, CloseParenthesis}
use Rattle.sparql_tokens_dm.specs.declared.token.Placed.{Placed}
use Rattle.sparql_tokens_dm.specs.declared.token.Token.{Token}
use Rattle.sparql_tokens_dm.specs.declared.token.Token.TheVariants as tokens
use Rattle.pattern_dm.specs.declared.pattern.Condition.{Condition}
use Rattle.pattern_dm.specs.declared.pattern.Pattern.{Pattern}
use Rattle.pattern_dm.specs.declared.pattern.Pattern.TheVariants as patterns
use Rattle.sparql_text_dm.specs.Grammar.{condition, content, filter, header, join_condition, left_join, operator, optional_part, other_target, pattern, pattern_within, proper, query, renamed, same_target, select, sign, target, targets, targets_within, triple, variable, word}
use Rattle.sparql_text_dm.specs.Reading.{Read, all_proper_at, all_targets_at, and_pattern_at, begins_target, condition_at, content_at, filter_at, filtered_at, header_at, join_condition_at, left_join_at, minus_at, operation_at, operator_at, optional_part_at, other_target_at, pattern_at, query_at, same_target_at, select_at, sign_at, target_at, targets_at, triple_at, union_at, variable_at, variables_at}
use Rattle.sparql_text_dm.specs.Words.{is_operand, is_sign, is_variable_token, is_word, new_name_of, other_name_of, sign_of, unless_target, variable_of}
use Rattle.sparql_text_dm.proofs.Firsts.{operand_sign, operand_word, sign_variable, sign_word, signs, variable_word, word_sign, words}
use Rattle.sparql_text_dm.proofs.ConditionReaders.{all_condition_reads, all_proper_reads}

-- ---- filters

filter_by : (c : Part Placed Condition) (read : Read Condition) → ((ts : List Placed) → Reads c no ts (read ts)) → (ts : List Placed) → Reads (filter c) no ts (filter_at read ts)
unfolding filter filter_at
filter_by c read reads ts = token_then _ _ no ts _ (λ _ a. token_then _ _ no a _ (λ _ b. closed_then c _ no b _ _ (reads b) (λ f d. token_then _ _ no d _ (λ _ e. give_reads _ no e))))

filter_apart : (c : Part Placed Condition) (more : Placed → Bool) (ts : List Placed) → starts (is_word Filter) ts ≡ false → Apart (filter c) more ts
unfolding filter
filter_apart c more ts e = token_then_blocked _ _ more ts e

condition_filter_reads : (ts : List Placed) → Reads (filter condition) no ts (filter_at condition_at ts)
condition_filter_reads ts = filter_by condition condition_at all_condition_reads ts

closed_filter_reads : (more : Placed → Bool) (ts : List Placed) → Reads (filter proper) more ts (filter_at all_proper_at ts)
closed_filter_reads more ts = closed_reads (filter proper) more ts _ (filter_by proper all_proper_at all_proper_reads ts)

join_condition_reads : (ts : List Placed) → Reads join_condition (is_word Filter) ts (join_condition_at ts)
unfolding join_condition_at
join_condition_reads ts =
    or_by (is_word Filter) (filter proper) (give _) (is_word Filter) ts _ _
    (λ e. (closed_filter_reads (is_word Filter) ts, give_apart _ (is_word Filter) ts e))
    (λ e. (filter_apart proper (is_word Filter) ts e, give_reads _ (is_word Filter) ts))

-- ---- targets

same_target_reads : (taken : List Rename) (ts : List Placed) → Reads (same_target taken) no ts (same_target_at taken ts)
unfolding same_target same_target_at
same_target_reads taken ts = token_then _ _ no ts _ (λ x a. give_reads _ no a)

other_target_reads : (taken : List Rename) (ts : List Placed) → Reads (other_target taken) no ts (other_target_at taken ts)
unfolding other_target other_target_at
other_target_reads taken ts =
    token_then _ _ no ts _ (λ _ a. token_then _ _ no a _ (λ x b. token_then _ _ no b _ (λ _ c. token_then _ _ no c _ (λ y d. token_then _ _ no d _ (λ _ e. give_reads _ no e)))))

-- no new name is there where no variable is
unless_none : (taken : List Rename) (o : Option (List ℕ)) → is_some o ≡ false → is_some (unless_target taken o) ≡ false
unless_none taken None e = refl
unless_none taken (Some x) e = absurd cc

no_new_name : (taken : List Rename) (ts : List Placed) → starts is_variable_token ts ≡ false → starts (λ t. is_some (new_name_of taken t.token)) ts ≡ false
no_new_name taken [] e = refl
no_new_name taken (t ∷ ts) e = unless_none taken (variable_of t.token) e

same_target_apart : (taken : List Rename) (ts : List Placed) → starts is_variable_token ts ≡ false → Apart (same_target taken) no ts
unfolding same_target
same_target_apart taken ts e = token_then_blocked _ _ no ts (no_new_name taken ts e)

other_target_apart : (taken : List Rename) (ts : List Placed) → starts (is_sign OpenParenthesis) ts ≡ false → Apart (other_target taken) no ts
unfolding other_target
other_target_apart taken ts e = token_then_blocked _ _ no ts e

pub target_reads : (taken : List Rename) (ts : List Placed) → Reads (target taken) no ts (target_at taken ts)
unfolding target
target_reads taken ts =
    or_by (is_sign OpenParenthesis) (other_target taken) (same_target taken) no ts (other_target_at taken ts) (same_target_at taken ts)
    (λ e. (other_target_reads taken ts, same_target_apart taken ts (parted (is_sign OpenParenthesis) is_variable_token (sign_variable OpenParenthesis) ts e)))
    (λ e. (other_target_apart taken ts e, same_target_reads taken ts))

target_apart : (taken : List Rename) (ts : List Placed) → starts begins_target ts ≡ false → Apart (target taken) no ts
unfolding target
target_apart taken ts e =
    let n = neither is_variable_token (is_sign OpenParenthesis) ts e in
    or_apart (other_target taken) (same_target taken) no ts ts (other_target_apart taken ts n.1) (same_target_apart taken ts n.0)

abbrev one_more : ℕ → List Rename → Part Placed (List Rename)
one_more n taken = then (target taken) (λ r. then (targets_within n (taken ++ r ∷ [])) (λ rs. give (r ∷ rs)))

one_more_apart : (n : ℕ) (taken : List Rename) (ts : List Placed) → starts begins_target ts ≡ false → Apart (one_more n taken) begins_target ts
one_more_apart n taken ts e = then_blocked (target taken) _ begins_target ts (target_apart taken ts e)

module _ (n : ℕ) (reads : (taken : List Rename) (ts : List Placed) → Reads (targets_within n taken) begins_target ts (targets_at n taken ts)) where
  one_more_reads : (taken : List Rename) (ts : List Placed) → Reads (one_more n taken) begins_target ts (target_at taken ts >>= λ r. targets_at n (taken ++ r.0 ∷ []) r.1 >>= λ rs. Ok (r.0 ∷ rs.0, rs.1))
  one_more_reads taken ts =
      closed_then (target taken) _ begins_target ts _ _ (target_reads taken ts) (λ r a.
      then_reads (targets_within n (taken ++ r ∷ [])) _ begins_target begins_target a _ _ (reads (taken ++ r ∷ []) a) (λ rs b _. give_reads _ begins_target b) (λ rs b g. give_apart _ begins_target b g))

targets_reads : (n : ℕ) (taken : List Rename) (ts : List Placed) → Reads (targets_within n taken) begins_target ts (targets_at n taken ts)
unfolding targets_within targets_at
targets_reads zero taken ts = give_reads [] begins_target ts
targets_reads (suc n) taken ts =
    or_by begins_target (one_more n taken) (give []) begins_target ts _ _ (λ e. (one_more_reads n (targets_reads n) taken ts, give_apart [] begins_target ts e)) (λ e. (one_more_apart n taken ts e, give_reads [] begins_target ts))

second_sub : {V : Type 0} (p q : Part Placed V) (ts : List Placed) → Sub q (or p q) ts
second_sub p q ts = record { spells = λ r v h. inr h; begins = λ r h. inr h; marks = λ r h. inr h }

-- a target takes a token
same_takes : (taken : List Rename) (ts mid : List Placed) (r : Rename) → Spells (same_target taken) ts mid r → length mid < length ts
unfolding same_target
same_takes taken ts mid r s = token_takes (λ (t : Placed). new_name_of taken t.token) (λ x. give (renamed x x)) ts mid r s

other_takes : (taken : List Rename) (ts mid : List Placed) (r : Rename) → Spells (other_target taken) ts mid r → length mid < length ts
unfolding other_target
other_takes taken ts mid r s =
    token_takes (λ (t : Placed). sign_of OpenParenthesis t.token) (λ _. then variable (λ x. then (word As) (λ _. then (token (λ t. other_name_of taken x t.token)) (λ y.
    then (sign CloseParenthesis) (λ _. give (renamed x y)))))) ts mid r s

pub target_takes : (taken : List Rename) (ts mid : List Placed) (r : Rename) → Spells (target taken) ts mid r → length mid < length ts
unfolding target
target_takes taken ts mid r s = elim s [ inl h ↦ other_takes taken ts mid r h | inr h ↦ same_takes taken ts mid r h ]

targets_sub : (m n : ℕ) (taken : List Rename) (ts : List Placed) → length ts < m → Sub (targets_within n taken) (targets_within m taken) ts
unfolding targets_within
targets_sub zero n taken ts le = absurd (omega (arith, le))
targets_sub (suc m) zero taken ts le = second_sub (one_more m taken) (give []) ts
targets_sub (suc m) (suc n) taken ts le =
    or_sub (one_more n taken) (give []) (one_more m taken) (give []) ts
    (then_sub (target taken) (target taken) _ _ ts (self_sub _ ts) (λ r a s.
    then_sub (targets_within n (taken ++ r ∷ [])) (targets_within m (taken ++ r ∷ [])) _ _ a (targets_sub m n (taken ++ r ∷ []) a (omega (arith, le, target_takes taken ts a r s))) (λ rs b u. self_sub _ b)))
    (self_sub _ ts)

pub all_targets_reads : (ts : List Placed) → Reads targets begins_target ts (all_targets_at ts)
unfolding targets all_targets_at
all_targets_reads ts =
    closed_then (target []) _ begins_target ts _ _ (target_reads [] ts) (λ r a.
    then_reads (levels (λ n. targets_within n (r ∷ []))) _ begins_target begins_target a _ _
    (levels_reads (λ n. targets_within n (r ∷ [])) begins_target (suc (length a)) a _ (λ m. targets_sub (suc (length a)) m (r ∷ []) a (omega arith)) (targets_reads (suc (length a)) (r ∷ []) a))
    (λ rs b _. give_reads _ begins_target b) (λ rs b g. give_apart _ begins_target b g))

-- ---- patterns

triple_reads : (ts : List Placed) → Reads triple no ts (triple_at ts)
unfolding triple triple_at
triple_reads ts = token_then _ _ no ts _ (λ s a. token_then _ _ no a _ (λ p b. token_then _ _ no b _ (λ o c. token_then _ _ no c _ (λ _ d. give_reads _ no d))))

triple_apart : (more : Placed → Bool) (ts : List Placed) → starts is_operand ts ≡ false → Apart triple more ts
unfolding triple
triple_apart more ts e = token_then_blocked _ _ more ts e

select_apart : (p : Part Placed Pattern) (more : Placed → Bool) (ts : List Placed) → starts (is_word Select) ts ≡ false → Apart (select p) more ts
unfolding select
select_apart p more ts e = token_then_blocked _ _ more ts e

left_join_apart : (q : Part Placed Pattern) (p : Pattern) (ts : List Placed) → starts (is_word Optional) ts ≡ false → Apart (left_join q p) no ts
unfolding left_join optional_part
left_join_apart q p ts e = then_blocked _ _ no ts (token_then_blocked _ _ no ts e)

begins_variable_or : (t : Placed) → begins_target t ≡ true → is_word Where t ≡ false
begins_variable_or t e = either is_variable_token (is_sign OpenParenthesis) t e (variable_word Where t) (sign_word OpenParenthesis Where t)

-- a pattern that is read, and begins with a brace
module _ (part : Part Placed Pattern) (read : Read Pattern) (reads : (ts : List Placed) → Reads part no ts (read ts)) (apart : (ts : List Placed) → starts (is_sign OpenBrace) ts ≡ false → Apart part no ts) where
  select_reads : (ts : List Placed) → Reads (select part) no ts (select_at read ts)
  unfolding select select_at
  select_reads ts =
      token_then _ _ no ts _ (λ _ a.
      then_reads targets _ begins_target no a _ _ (all_targets_reads a)
      (λ rs b _. token_then _ _ no b _ (λ _ c. closed_then part _ no c _ _ (reads c) (λ p d. give_reads _ no d)))
      (λ rs b g. token_then_blocked _ _ no b (parted begins_target (is_word Where) begins_variable_or b g)))

  optional_reads : (ts : List Placed) → Reads (optional_part part) no ts (optional_part_at read ts)
  unfolding optional_part optional_part_at
  optional_reads ts =
      token_then _ _ no ts _ (λ _ a. token_then _ _ no a _ (λ _ b.
      closed_then part _ no b _ _ (reads b) (λ q c.
      then_reads join_condition _ (is_word Filter) no c _ _ (join_condition_reads c)
      (λ f d _. token_then _ _ no d _ (λ _ e. give_reads _ no e))
      (λ f d g. token_then_blocked _ _ no d (parted (is_word Filter) (is_sign CloseBrace) (word_sign Filter CloseBrace) d g)))))

  left_join_reads : (p : Pattern) (ts : List Placed) → Reads (left_join part p) no ts (left_join_at read p ts)
  unfolding left_join left_join_at
  left_join_reads p ts = closed_then (optional_part part) _ no ts _ _ (optional_reads ts) (λ x a. give_reads _ no a)

  union_reads : (p : Pattern) (ts : List Placed) → Reads (then (word Union) (λ _. then part (λ q. give (patterns.Union p q)))) no ts (union_at read p ts)
  unfolding union_at
  union_reads p ts = token_then _ _ no ts _ (λ _ a. closed_then part _ no a _ _ (reads a) (λ q b. give_reads _ no b))

  minus_reads : (p : Pattern) (ts : List Placed) → Reads (then (word Minus) (λ _. then part (λ q. give (patterns.Minus p q)))) no ts (minus_at read p ts)
  unfolding minus_at
  minus_reads p ts = token_then _ _ no ts _ (λ _ a. closed_then part _ no a _ _ (reads a) (λ q b. give_reads _ no b))

  filtered_reads : (p : Pattern) (ts : List Placed) → Reads (then (filter condition) (λ f. give (patterns.Filter p f))) no ts (filtered_at p ts)
  unfolding filtered_at
  filtered_reads p ts = closed_then (filter condition) _ no ts _ _ (condition_filter_reads ts) (λ f a. give_reads _ no a)

  and_reads : (p : Pattern) (ts : List Placed) → Reads (then part (λ q. give (patterns.And p q))) no ts (and_pattern_at read p ts)
  unfolding and_pattern_at
  and_reads p ts = closed_then part _ no ts _ _ (reads ts) (λ q a. give_reads _ no a)

  abbrev united : Pattern → Part Placed Pattern
  united p = then (word Union) (λ _. then part (λ q. give (patterns.Union p q)))

  abbrev lessened : Pattern → Part Placed Pattern
  lessened p = then (word Minus) (λ _. then part (λ q. give (patterns.Minus p q)))

  abbrev kept : Pattern → Part Placed Pattern
  kept p = then (filter condition) (λ f. give (patterns.Filter p f))

  abbrev joined : Pattern → Part Placed Pattern
  joined p = then part (λ q. give (patterns.And p q))

  abbrev Lacks : List Placed → Keyword → Type 0
  Lacks ts w = starts (is_word w) ts ≡ false

  joined_apart : (p : Pattern) (ts : List Placed) → starts (is_sign OpenBrace) ts ≡ false → Apart (joined p) no ts
  joined_apart p ts b = then_blocked part _ no ts (apart ts b)

  kept_apart : (p : Pattern) (ts : List Placed) → Lacks ts Filter → starts (is_sign OpenBrace) ts ≡ false → Apart (or (kept p) (joined p)) no ts
  kept_apart p ts f b = or_apart (kept p) (joined p) no ts ts (then_blocked (filter condition) _ no ts (filter_apart condition no ts f)) (joined_apart p ts b)

  joining_apart : (p : Pattern) (ts : List Placed) → Lacks ts Optional → Lacks ts Filter → starts (is_sign OpenBrace) ts ≡ false → Apart (or (left_join part p) (or (kept p) (joined p))) no ts
  joining_apart p ts o f b = or_apart (left_join part p) (or (kept p) (joined p)) no ts ts (left_join_apart part p ts o) (kept_apart p ts f b)

  lessened_apart : (p : Pattern) (ts : List Placed) → Lacks ts Minus → Lacks ts Optional → Lacks ts Filter → starts (is_sign OpenBrace) ts ≡ false → Apart (or (lessened p) (or (left_join part p) (or (kept p) (joined p)))) no ts
  lessened_apart p ts m o f b = or_apart (lessened p) (or (left_join part p) (or (kept p) (joined p))) no ts ts (token_then_blocked _ _ no ts m) (joining_apart p ts o f b)

  word_lacks : (a b : Keyword) → bytes_eq (spelling a) (spelling b) ≡ false → (ts : List Placed) → starts (is_word a) ts ≡ true → Lacks ts b
  word_lacks a b n ts e = parted (is_word a) (is_word b) (words a b n) ts e

  no_brace : (a : Keyword) (ts : List Placed) → starts (is_word a) ts ≡ true → starts (is_sign OpenBrace) ts ≡ false
  no_brace a ts e = parted (is_word a) (is_sign OpenBrace) (word_sign a OpenBrace) ts e

  operator_reads : (p : Pattern) (ts : List Placed) → Reads (operator part p) no ts (operator_at read p ts)
  unfolding operator operator_at
  operator_reads p ts =
      or_by (is_word Union) (united p) (or (lessened p) (or (left_join part p) (or (kept p) (joined p)))) no ts (union_at read p ts) _
      (λ e. (union_reads p ts, lessened_apart p ts (word_lacks Union Minus refl ts e) (word_lacks Union Optional refl ts e) (word_lacks Union Filter refl ts e) (no_brace Union ts e)))
      (λ u. (
        token_then_blocked _ _ no ts u,
        or_by (is_word Minus) (lessened p) (or (left_join part p) (or (kept p) (joined p))) no ts (minus_at read p ts) _
            (λ e. (minus_reads p ts, joining_apart p ts (word_lacks Minus Optional refl ts e) (word_lacks Minus Filter refl ts e) (no_brace Minus ts e)))
            (λ m. (
              token_then_blocked _ _ no ts m,
              or_by (is_word Optional) (left_join part p) (or (kept p) (joined p)) no ts (left_join_at read p ts) _
                  (λ e. (left_join_reads p ts, kept_apart p ts (word_lacks Optional Filter refl ts e) (no_brace Optional ts e)))
                  (λ o. (
                    left_join_apart part p ts o,
                    or_by (is_word Filter) (kept p) (joined p) no ts (filtered_at p ts) (and_pattern_at read p ts)
                        (λ e. (filtered_reads p ts, joined_apart p ts (no_brace Filter ts e)))
                        (λ f. (then_blocked (filter condition) _ no ts (filter_apart condition no ts f), and_reads p ts)),
                  )),
            )),
      ))

  operation_reads : (ts : List Placed) → Reads (then part (λ p. operator part p)) no ts (operation_at read ts)
  unfolding operation_at
  operation_reads ts = closed_then part _ no ts _ _ (reads ts) (λ p a. operator_reads p a)

  -- what begins the content of braces
  abbrev begins_content : Placed → Bool
  begins_content t = is_operand t || (is_word Select t || is_sign OpenBrace t)

  abbrev operations : Part Placed Pattern
  operations = then part (λ p. operator part p)

  operations_apart : (ts : List Placed) → starts (is_sign OpenBrace) ts ≡ false → Apart operations begins_content ts
  operations_apart ts b = then_blocked part _ begins_content ts (apart ts b)

  empty_apart : (ts : List Placed) → starts begins_content ts ≡ true → Apart (give patterns.Empty) begins_content ts
  empty_apart ts e = give_apart patterns.Empty begins_content ts e

  first_content : (ts : List Placed) → starts is_operand ts ≡ true → starts begins_content ts ≡ true
  first_content ts e = widened is_operand begins_content (λ t h. is_first is_operand (λ u. is_word Select u || is_sign OpenBrace u) t h) ts e

  second_content : (ts : List Placed) → starts (is_word Select) ts ≡ true → starts begins_content ts ≡ true
  second_content ts e = widened (is_word Select) begins_content (λ t h. is_second is_operand (λ u. is_word Select u || is_sign OpenBrace u) t (is_first (is_word Select) (is_sign OpenBrace) t h)) ts e

  third_content : (ts : List Placed) → starts (is_sign OpenBrace) ts ≡ true → starts begins_content ts ≡ true
  third_content ts e = widened (is_sign OpenBrace) begins_content (λ t h. is_second is_operand (λ u. is_word Select u || is_sign OpenBrace u) t (is_second (is_word Select) (is_sign OpenBrace) t h)) ts e

  content_reads : (ts : List Placed) → Reads (content part) begins_content ts (content_at read ts)
  unfolding content content_at
  content_reads ts =
      or_by is_operand triple (or (select part) (or operations (give patterns.Empty))) begins_content ts (triple_at ts) _
      (λ e. (
        closed_reads triple begins_content ts _ (triple_reads ts),
        or_apart (select part) (or operations (give patterns.Empty)) begins_content ts ts (select_apart part begins_content ts (parted is_operand (is_word Select) (operand_word Select) ts e))
            (or_apart operations (give patterns.Empty) begins_content ts ts (operations_apart ts (parted is_operand (is_sign OpenBrace) (operand_sign OpenBrace) ts e)) (empty_apart ts (first_content ts e))),
      ))
      (λ n. (
        triple_apart begins_content ts n,
        or_by (is_word Select) (select part) (or operations (give patterns.Empty)) begins_content ts (select_at read ts) _
            (λ e. (
              closed_reads (select part) begins_content ts _ (select_reads ts),
              or_apart operations (give patterns.Empty) begins_content ts ts (operations_apart ts (no_brace Select ts e)) (empty_apart ts (second_content ts e)),
            ))
            (λ s. (
              select_apart part begins_content ts s,
              or_by (is_sign OpenBrace) operations (give patterns.Empty) begins_content ts (operation_at read ts) _
                  (λ e. (closed_reads operations begins_content ts _ (operation_reads ts), empty_apart ts (third_content ts e)))
                  (λ b. (operations_apart ts b, give_reads patterns.Empty begins_content ts)),
            )),
      ))

  no_close : (t : Placed) → begins_content t ≡ true → is_sign CloseBrace t ≡ false
  no_close t e = either is_operand (λ u. is_word Select u || is_sign OpenBrace u) t e (operand_sign CloseBrace t) (λ h. either (is_word Select) (is_sign OpenBrace) t h (word_sign Select CloseBrace t) (signs OpenBrace CloseBrace refl t))

  braced_reads : (ts : List Placed) → Reads (then (content part) (λ p. then (sign CloseBrace) (λ _. give p))) no ts (content_at read ts >>= λ p. sign_at CloseBrace p.1 >>= λ b. Ok (p.0, b.1))
  braced_reads ts =
      then_reads (content part) _ begins_content no ts _ _ (content_reads ts) (λ p a _. token_then _ _ no a _ (λ _ b. give_reads _ no b))
      (λ p a g. token_then_blocked _ _ no a (parted begins_content (is_sign CloseBrace) no_close a g))

none_starts : (ts : List Placed) → starts (λ t. false) ts ≡ false
none_starts [] = refl
none_starts (t ∷ ts) = refl

pattern_apart : (n : ℕ) (ts : List Placed) → starts (is_sign OpenBrace) ts ≡ false → Apart (pattern_within n) no ts
unfolding pattern_within
pattern_apart zero ts e = token_blocked _ no ts (none_starts ts)
pattern_apart (suc n) ts e = token_then_blocked _ _ no ts e

pattern_reads : (n : ℕ) (ts : List Placed) → Reads (pattern_within n) no ts (pattern_at n ts)
unfolding pattern_within pattern_at
pattern_reads zero ts = never_reads no ts
pattern_reads (suc n) ts = token_then _ _ no ts _ (λ _ a. braced_reads (pattern_within n) (pattern_at n) (pattern_reads n) (pattern_apart n) a)

-- ---- more levels than tokens change nothing

module _ (n m k : ℕ) (sub : (ts : List Placed) → length ts ≤ k → Sub (pattern_within n) (pattern_within m) ts) where
  abbrev few : Part Placed Pattern
  few = pattern_within n

  abbrev many : Part Placed Pattern
  many = pattern_within m

  ends_sub : (b : Pattern → Part Placed Pattern) (ts : List Placed) → length ts ≤ k → Sub (then few b) (then many b) ts
  ends_sub b ts le = then_sub few many b b ts (sub ts le) (λ p a s. self_sub (b p) a)

  select_sub : (ts : List Placed) → length ts ≤ k → Sub (select few) (select many) ts
  unfolding select
  select_sub ts le =
      then_sub (word Select) (word Select) _ _ ts (self_sub _ ts) (λ _ a s.
      then_sub targets targets _ _ a (self_sub _ a) (λ rs b r.
      then_sub (word Where) (word Where) _ _ b (self_sub _ b) (λ _ c u. ends_sub _ c (omega (arith, le, ap length s.1, suffix_length (behind_whole targets a b rs r), ap length u.1)))))

  optional_sub : (ts : List Placed) → length ts ≤ k → Sub (optional_part few) (optional_part many) ts
  unfolding optional_part
  optional_sub ts le =
      then_sub (word Optional) (word Optional) _ _ ts (self_sub _ ts) (λ _ a s.
      then_sub (sign OpenBrace) (sign OpenBrace) _ _ a (self_sub _ a) (λ _ b r.
      then_sub few many _ _ b (sub b (omega (arith, le, ap length s.1, ap length r.1))) (λ q c u. self_sub _ c)))

  left_join_sub : (p : Pattern) (ts : List Placed) → length ts ≤ k → Sub (left_join few p) (left_join many p) ts
  unfolding left_join
  left_join_sub p ts le = then_sub (optional_part few) (optional_part many) _ _ ts (optional_sub ts le) (λ x a s. self_sub _ a)

  operator_sub : (p : Pattern) (ts : List Placed) → length ts ≤ k → Sub (operator few p) (operator many p) ts
  unfolding operator
  operator_sub p ts le =
      or_sub _ _ _ _ ts (then_sub (word Union) (word Union) _ _ ts (self_sub _ ts) (λ _ a s. ends_sub _ a (omega (arith, le, ap length s.1))))
      (or_sub _ _ _ _ ts (then_sub (word Minus) (word Minus) _ _ ts (self_sub _ ts) (λ _ a s. ends_sub _ a (omega (arith, le, ap length s.1))))
      (or_sub _ _ _ _ ts (left_join_sub p ts le)
      (or_sub _ _ _ _ ts (self_sub _ ts) (ends_sub _ ts le))))

  operations_sub : (ts : List Placed) → length ts ≤ k → Sub (then few (λ p. operator few p)) (then many (λ p. operator many p)) ts
  operations_sub ts le = then_sub few many _ _ ts (sub ts le) (λ p a s. operator_sub p a (omega (arith, le, suffix_length (behind_whole few ts a p s))))

  content_sub : (ts : List Placed) → length ts ≤ k → Sub (content few) (content many) ts
  unfolding content
  content_sub ts le = or_sub triple _ triple _ ts (self_sub _ ts) (or_sub _ _ _ _ ts (select_sub ts le) (or_sub _ _ _ _ ts (operations_sub ts le) (self_sub _ ts)))

pattern_sub : (m n : ℕ) (ts : List Placed) → length ts ≤ m → Sub (pattern_within n) (pattern_within m) ts
unfolding pattern_within
pattern_sub m zero ts le = never_sub (pattern_within m) ts
pattern_sub zero (suc n) [] le = nil_sub _ _ _
pattern_sub zero (suc n) (t ∷ ts) le = absurd (omega (arith, le))
pattern_sub (suc m) (suc n) ts le =
    then_sub (sign OpenBrace) (sign OpenBrace) _ _ ts (self_sub _ ts) (λ _ a s.
    then_sub (content (pattern_within n)) (content (pattern_within m)) _ _ a (content_sub n m m (pattern_sub m n) a (omega (arith, le, ap length s.1))) (λ p b r. self_sub _ b))

pub all_pattern_reads : (ts : List Placed) → Reads pattern no ts (pattern_at (length ts) ts)
all_pattern_reads ts = levels_reads pattern_within no (length ts) ts _ (λ m. pattern_sub (length ts) m ts (omega arith)) (pattern_reads (length ts) ts)

-- ---- queries

variables_reads : (ts : List Placed) → Reads (repeated variable) is_variable_token ts (variables_at ts)
unfolding variables_at
variables_reads ts = repeated_reads variable is_variable_token no is_variable_token variable_at (token_repeatable (λ (t : Placed). variable_of t.token)) ts

-- the header is read as its variables, where there is one
abbrev header_by : List Placed → Answer Placed (List (List ℕ))
header_by ts = variable_at ts >>= λ x. variables_at x.1 >>= λ xs. Ok (x.0 ∷ xs.0, xs.1)

abbrev first_by : Placed → List Placed → Option (List ℕ) → Answer Placed (List (List ℕ))
first_by t ts o = elim (is_some o) [
  | true ↦ (took o t ts >>= λ x. variables_at x.1 >>= λ xs. Ok (x.0 ∷ xs.0, xs.1))
  | false ↦ fault_at (t ∷ ts)
]

first_same : (t : Placed) (ts : List Placed) (o : Option (List ℕ)) → first_by t ts o ≡ (took o t ts >>= λ x. variables_at x.1 >>= λ xs. Ok (x.0 ∷ xs.0, xs.1))
first_same t ts None = refl
first_same t ts (Some x) = refl

header_same : (ts : List Placed) → header_at ts ≡ header_by ts
unfolding header_at variables_at
header_same [] = refl
header_same (t ∷ ts) = by_token t.token t.place
  where
    by_token : (k : Token) (place : ℕ) → header_at (record { token = k; place = place } ∷ ts) ≡ header_by (record { token = k; place = place } ∷ ts)
    by_token (tokens.Sign s) place = refl
    by_token (tokens.Word w) place = refl
    by_token (tokens.Var x) place = refl
    by_token (tokens.Iri i) place = refl
    by_token (tokens.Literal l) place = refl

header_reads : (ts : List Placed) → Reads header is_variable_token ts (header_at ts)
unfolding header
header_reads ts =
    subst (λ (a : Answer Placed (List (List ℕ))). Reads header is_variable_token ts a) (sym (header_same ts))
    (token_then _ _ is_variable_token ts _ (λ x a. then_reads (repeated variable) _ is_variable_token is_variable_token a _ _ (variables_reads a) (λ xs b _. give_reads _ is_variable_token b) (λ xs b g. give_apart _ is_variable_token b g)))

pub query_read : (ts : List Placed) → Reads query no ts (query_at ts)
unfolding query query_at
query_read ts =
    token_then _ _ no ts _ (λ _ a. token_then _ _ no a _ (λ _ b.
    then_reads header _ is_variable_token no b _ _ (header_reads b)
    (λ h c _. token_then _ _ no c _ (λ _ d. closed_then pattern _ no d _ _ (all_pattern_reads d) (λ p e. give_reads _ no e)))
    (λ h c g. token_then_blocked _ _ no c (parted is_variable_token (is_word Where) (variable_word Where) c g))))
