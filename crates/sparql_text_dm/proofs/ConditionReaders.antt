-- Each reader of a condition reads its part.
use Rattle.std.proofs.Common.{◌≡◌, ℕ, zero, suc, ◌≤◌, true, false, List, [], ◌∷◌, length, refl, ap, arith}
use Rattle.grammar_dm.specs.Part.{Part}
use Rattle.grammar_dm.specs.Part.Part.{give, or, then, token}
use Rattle.grammar_dm.specs.Reading.{starts}
use Rattle.grammar_dm.proofs.Choices.{Sub, or_apart, or_by, parted}
use Rattle.grammar_dm.proofs.Equations.{both_sub, or_sub, self_sub, then_sub}
use Rattle.grammar_dm.proofs.Laws.{Apart, Reads, closed_then, give_reads, no, then_blocked, token_blocked, token_then, token_then_blocked}
use Rattle.grammar_dm.proofs.Nesting.{levels_reads, never_reads, never_sub, nil_sub}
use Rattle.grammar_dm.proofs.Fronts.{behind_whole, suffix_length}
use Rattle.sparql_tokens_dm.specs.declared.token.Keyword.TheVariants.{True, Bound, SameTerm}
use Rattle.sparql_tokens_dm.specs.declared.token.Sign.TheVariants.{OpenParenthesis, Not}
use Rattle.sparql_tokens_dm.specs.declared.token.Placed.{Placed}
use Rattle.pattern_dm.specs.declared.pattern.Condition.{Condition}
use Rattle.pattern_dm.specs.declared.pattern.Condition.TheVariants as conditions
use Rattle.sparql_text_dm.specs.Grammar.{bound, condition, connection, grouped, negation, proper, proper_within, same_term, sign, terms, true_or, word}
use Rattle.sparql_text_dm.specs.Reading.{Read, all_proper_at, bound_at, choice_at, condition_at, connected_at, grouped_at, negation_at, proper_at, same_term_at, terms_at, true_at, true_or_at}
use Rattle.sparql_text_dm.specs.Words.{connective_of, is_sign, is_word}
use Rattle.sparql_text_dm.proofs.Firsts.{sign_word, signs, word_sign, words}

bound_reads : (ts : List Placed) → Reads bound no ts (bound_at ts)
unfolding bound bound_at
bound_reads ts = token_then _ _ no ts _ (λ _ a. token_then _ _ no a _ (λ _ b. token_then _ _ no b _ (λ x c. token_then _ _ no c _ (λ _ d. give_reads _ no d))))

terms_reads : (ts : List Placed) → Reads terms no ts (terms_at ts)
unfolding terms terms_at
terms_reads ts = token_then _ _ no ts _ (λ _ a. token_then _ _ no a _ (λ x b. token_then _ _ no b _ (λ _ c. token_then _ _ no c _ (λ y d. token_then _ _ no d _ (λ _ e. give_reads _ no e)))))

same_term_reads : (ts : List Placed) → Reads same_term no ts (same_term_at ts)
unfolding same_term same_term_at
same_term_reads ts = token_then _ _ no ts _ (λ _ a. closed_then terms _ no a _ _ (terms_reads a) (λ x b. give_reads _ no b))

true_reads : (ts : List Placed) → Reads (then (word True) (λ _. give conditions.True)) no ts (true_at ts)
unfolding true_at
true_reads ts = token_then _ _ no ts _ (λ _ a. give_reads _ no a)

bound_apart : (ts : List Placed) → starts (is_word Bound) ts ≡ false → Apart bound no ts
unfolding bound
bound_apart ts e = token_then_blocked _ _ no ts e

same_term_apart : (ts : List Placed) → starts (is_word SameTerm) ts ≡ false → Apart same_term no ts
unfolding same_term
same_term_apart ts e = token_then_blocked _ _ no ts e

grouped_apart : (c : Part Placed Condition) (ts : List Placed) → starts (is_sign OpenParenthesis) ts ≡ false → Apart (grouped c) no ts
unfolding grouped
grouped_apart c ts e = token_then_blocked _ _ no ts e

none_starts : (ts : List Placed) → starts (λ t. false) ts ≡ false
none_starts [] = refl
none_starts (t ∷ ts) = refl

pub proper_apart : (n : ℕ) (ts : List Placed) → starts (is_word Bound) ts ≡ false → starts (is_word SameTerm) ts ≡ false → starts (is_sign OpenParenthesis) ts ≡ false → Apart (proper_within n) no ts
unfolding proper_within
proper_apart zero ts b s o = token_blocked _ no ts (none_starts ts)
proper_apart (suc n) ts b s o = or_apart bound (or same_term (grouped (true_or (proper_within n)))) no ts ts (bound_apart ts b) (or_apart same_term (grouped (true_or (proper_within n))) no ts ts (same_term_apart ts s) (grouped_apart (true_or (proper_within n)) ts o))

-- a condition that is read
module _ (n : ℕ) (reads : (ts : List Placed) → Reads (proper_within n) no ts (proper_at n ts)) where
  abbrev part : Part Placed Condition
  part = true_or (proper_within n)

  abbrev read : Read Condition
  read = true_or_at (proper_at n)

  part_reads : (ts : List Placed) → Reads part no ts (read ts)
  part_reads ts =
      or_by (is_word True) (then (word True) (λ _. give conditions.True)) (proper_within n) no ts (true_at ts) (proper_at n ts)
      (λ e. (true_reads ts, proper_apart n ts (parted (is_word True) (is_word Bound) (words True Bound refl) ts e) (parted (is_word True) (is_word SameTerm) (words True SameTerm refl) ts e) (parted (is_word True) (is_sign OpenParenthesis) (word_sign True OpenParenthesis) ts e)))
      (λ e. (token_then_blocked _ _ no ts e, reads ts))

  -- it doesn't begin with `!`
  part_apart : (ts : List Placed) → starts (is_sign Not) ts ≡ true → Apart part no ts
  part_apart ts e =
      or_apart (then (word True) (λ _. give conditions.True)) (proper_within n) no ts ts (token_then_blocked _ _ no ts (parted (is_sign Not) (is_word True) (sign_word Not True) ts e))
      (proper_apart n ts (parted (is_sign Not) (is_word Bound) (sign_word Not Bound) ts e) (parted (is_sign Not) (is_word SameTerm) (sign_word Not SameTerm) ts e) (parted (is_sign Not) (is_sign OpenParenthesis) (signs Not OpenParenthesis refl) ts e))

  negation_reads : (ts : List Placed) → Reads (negation part) no ts (negation_at read ts)
  unfolding negation negation_at
  negation_reads ts = token_then _ _ no ts _ (λ _ a. closed_then part _ no a _ _ (part_reads a) (λ f b. give_reads _ no b))

  connected_reads : (ts : List Placed) → Reads (connection part) no ts (connected_at read ts)
  unfolding connection connected_at
  connected_reads ts =
      closed_then part _ no ts _ _ (part_reads ts) (λ f a. token_then _ _ no a _ (λ m b. closed_then part _ no b _ _ (part_reads b) (λ g c. give_reads _ no c)))

  negation_apart : (ts : List Placed) → starts (is_sign Not) ts ≡ false → Apart (negation part) no ts
  unfolding negation
  negation_apart ts e = token_then_blocked _ _ no ts e

  connection_apart : (ts : List Placed) → starts (is_sign Not) ts ≡ true → Apart (connection part) no ts
  unfolding connection
  connection_apart ts e = then_blocked part _ no ts (part_apart ts e)

  choice_reads : (ts : List Placed) → Reads (or (negation part) (connection part)) no ts (choice_at read ts)
  choice_reads ts =
      or_by (is_sign Not) (negation part) (connection part) no ts (negation_at read ts) (connected_at read ts) (λ e. (negation_reads ts, connection_apart ts e)) (λ e. (negation_apart ts e, connected_reads ts))

  grouped_reads : (ts : List Placed) → Reads (grouped part) no ts (grouped_at read ts)
  unfolding grouped grouped_at
  grouped_reads ts = token_then _ _ no ts _ (λ _ a. closed_then (or (negation part) (connection part)) _ no a _ _ (choice_reads a) (λ f b. token_then _ _ no b _ (λ _ c. give_reads _ no c)))

  inner_reads : (ts : List Placed) → Reads (or same_term (grouped part)) no ts (elim (starts (is_word SameTerm) ts) [ true ↦ same_term_at ts | false ↦ grouped_at read ts ])
  inner_reads ts =
      or_by (is_word SameTerm) same_term (grouped part) no ts (same_term_at ts) (grouped_at read ts)
      (λ e. (same_term_reads ts, grouped_apart part ts (parted (is_word SameTerm) (is_sign OpenParenthesis) (word_sign SameTerm OpenParenthesis) ts e)))
      (λ e. (same_term_apart ts e, grouped_reads ts))

  one_reads : (ts : List Placed) → Reads (proper_within (suc n)) no ts (proper_at (suc n) ts)
  unfolding proper_within proper_at
  one_reads ts =
      or_by (is_word Bound) bound (or same_term (grouped part)) no ts (bound_at ts) _
      (λ e. (bound_reads ts, or_apart same_term (grouped part) no ts ts (same_term_apart ts (parted (is_word Bound) (is_word SameTerm) (words Bound SameTerm refl) ts e)) (grouped_apart part ts (parted (is_word Bound) (is_sign OpenParenthesis) (word_sign Bound OpenParenthesis) ts e))))
      (λ e. (bound_apart ts e, inner_reads ts))

proper_reads : (n : ℕ) (ts : List Placed) → Reads (proper_within n) no ts (proper_at n ts)
unfolding proper_within proper_at
proper_reads zero ts = never_reads no ts
proper_reads (suc n) ts = one_reads n (proper_reads n) ts

-- ---- more levels than tokens change nothing

module _ (n m k : ℕ) (sub : (ts : List Placed) → length ts ≤ k → Sub (proper_within n) (proper_within m) ts) where
  abbrev few : Part Placed Condition
  few = true_or (proper_within n)

  abbrev many : Part Placed Condition
  many = true_or (proper_within m)

  part_sub : (ts : List Placed) → length ts ≤ k → Sub few many ts
  part_sub ts le = or_sub (then (word True) (λ _. give conditions.True)) (proper_within n) (then (word True) (λ _. give conditions.True)) (proper_within m) ts (self_sub _ ts) (sub ts le)

  negation_sub : (ts : List Placed) → length ts ≤ k → Sub (negation few) (negation many) ts
  unfolding negation
  negation_sub ts le = then_sub (sign Not) (sign Not) _ _ ts (self_sub _ ts) (λ _ a s. then_sub few many _ _ a (part_sub a (omega (arith, le, ap length s.1))) (λ f b r. self_sub _ b))

  connection_sub : (ts : List Placed) → length ts ≤ k → Sub (connection few) (connection many) ts
  unfolding connection
  connection_sub ts le =
      then_sub few many _ _ ts (part_sub ts le) (λ f a s.
      then_sub (token (λ t. connective_of t.token)) (token (λ t. connective_of t.token)) _ _ a (self_sub _ a) (λ c b r.
      then_sub few many _ _ b (part_sub b (omega (arith, le, suffix_length (behind_whole few ts a f s), ap length r.1))) (λ g d u. self_sub _ d)))

  grouped_sub : (ts : List Placed) → length ts ≤ suc k → Sub (grouped few) (grouped many) ts
  unfolding grouped
  grouped_sub ts le =
      then_sub (sign OpenParenthesis) (sign OpenParenthesis) _ _ ts (self_sub _ ts) (λ _ a s.
      then_sub (or (negation few) (connection few)) (or (negation many) (connection many)) _ _ a
      (or_sub (negation few) (connection few) (negation many) (connection many) a (negation_sub a (omega (arith, le, ap length s.1))) (connection_sub a (omega (arith, le, ap length s.1))))
      (λ f b r. self_sub _ b))

nil_proper : (n : ℕ) (q : Part Placed Condition) → Sub (proper_within (suc n)) q []
unfolding proper_within bound same_term grouped
nil_proper n q = both_sub bound (or same_term (grouped (true_or (proper_within n)))) q [] (nil_sub _ _ _) (both_sub same_term (grouped (true_or (proper_within n))) q [] (nil_sub _ _ _) (nil_sub _ _ _))

proper_sub : (m n : ℕ) (ts : List Placed) → length ts ≤ m → Sub (proper_within n) (proper_within m) ts
unfolding proper_within
proper_sub m zero ts le = never_sub (proper_within m) ts
proper_sub zero (suc n) [] le = nil_proper n (proper_within zero)
proper_sub zero (suc n) (t ∷ ts) le = absurd (omega (arith, le))
proper_sub (suc m) (suc n) ts le =
    or_sub bound (or same_term (grouped (true_or (proper_within n)))) bound (or same_term (grouped (true_or (proper_within m)))) ts (self_sub _ ts)
    (or_sub same_term (grouped (true_or (proper_within n))) same_term (grouped (true_or (proper_within m))) ts (self_sub _ ts) (grouped_sub n m m (proper_sub m n) ts le))

pub all_proper_reads : (ts : List Placed) → Reads proper no ts (all_proper_at ts)
all_proper_reads ts = levels_reads proper_within no (length ts) ts _ (λ m. proper_sub (length ts) m ts (omega arith)) (proper_reads (length ts) ts)

nil_starts : (ts : List Placed) → starts (is_word True) ts ≡ true → Apart proper no ts
nil_starts ts e = levels_apart ts (λ n. proper_apart n ts (parted (is_word True) (is_word Bound) (words True Bound refl) ts e) (parted (is_word True) (is_word SameTerm) (words True SameTerm refl) ts e) (parted (is_word True) (is_sign OpenParenthesis) (word_sign True OpenParenthesis) ts e))
  where
    levels_apart : (us : List Placed) → ((n : ℕ) → Apart (proper_within n) no us) → Apart proper no us
    levels_apart us h = record {
      begins = λ r b. (h b.0).begins r b.1;
      spells = λ r v s. (h s.0).spells r v s.1;
      marks = λ r m. (h m.0).marks r m.1;
    }

pub all_condition_reads : (ts : List Placed) → Reads condition no ts (condition_at ts)
all_condition_reads ts =
    or_by (is_word True) (then (word True) (λ _. give conditions.True)) proper no ts (true_at ts) (all_proper_at ts) (λ e. (true_reads ts, nil_starts ts e)) (λ e. (token_then_blocked _ _ no ts e, all_proper_reads ts))
