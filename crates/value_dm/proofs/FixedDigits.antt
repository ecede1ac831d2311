-- Digits of a fixed count, and the number that they write.
use Rattle.std.proofs.Common.{◌≡◌, ◌≢◌, ℕ, suc, zero, false, ◌+◌, ◌-◌, ◌*◌, ◌/◌, ◌%◌, ◌^◌, ◌<◌, List, [], ◌∷◌, ◌++◌, length, refl, sym, ap, ◌∙◌, arith, length-append, append_assoc, zero-add, add-zero, append-nil, eqb, eq-eqb, inl, inr}
use Rattle.std.proofs.lemmas.Bool.Decides.{eqb_tells}
use Rattle.std.specs.Char.{digit_value}
use Rattle.std.specs.Str.Parse.{AllDigits, digits_value, digits_value_after}
use Rattle.std.proofs.lemmas.Str.{digit_value_digit}
use Rattle.std.proofs.lemmas.Str.Parse.{digit_from_value}
use Rattle.std.proofs.lemmas.Int.Digits.{digits_value_push, digits_push}
use Rattle.value_dm.specs.Digits.{fixed_digits, fraction_text, short_fraction_text}

pub digit_char_value : (d : ℕ) → d < 10 → digit_value (48 + d) ≡ d
digit_char_value d small = omega (arith, digit_value_digit (48 + d) (omega arith, omega arith))

pub length-fixed_digits : (count n : ℕ) → length (fixed_digits count n) ≡ count
unfolding fixed_digits
length-fixed_digits zero n = refl
length-fixed_digits (suc count) n =
    length-append (fixed_digits count (n / 10)) ((48 + n % 10) ∷ []) ∙ (let e = length-fixed_digits count (n / 10) in omega arith)

pub AllDigits-fixed_digits : (count n : ℕ) → AllDigits 10 (fixed_digits count n)
unfolding fixed_digits
AllDigits-fixed_digits zero n = tt
AllDigits-fixed_digits (suc count) n =
    let small : n % 10 < 10 = omega arith in
    digits_push 10 (fixed_digits count (n / 10)) (48 + n % 10) (AllDigits-fixed_digits count (n / 10))
    (rw (digit_char_value (n % 10) small) small)

pub digits_value-fixed_digits : (count n : ℕ) → n < 10 ^ count → digits_value 10 (fixed_digits count n) ≡ n
unfolding fixed_digits
digits_value-fixed_digits zero n small = omega arith
digits_value-fixed_digits (suc count) n small =
    let least : n % 10 < 10 = omega arith in
    let power : n < 10 * 10 ^ count = grind arith in
    let before = digits_value-fixed_digits count (n / 10) (omega arith) in
    digits_value_push 10 (fixed_digits count (n / 10)) (48 + n % 10)
    ∙ rw (before, digit_char_value (n % 10) least) (omega arith)

-- one more digit
fixed_digits_push : (count n c : ℕ) → digit_value c < 10 → fixed_digits (suc count) (n * 10 + digit_value c) ≡ fixed_digits count n ++ c ∷ []
unfolding fixed_digits
fixed_digits_push count n c digit =
    let high : (n * 10 + digit_value c) / 10 ≡ n = omega arith in
    let least : 48 + (n * 10 + digit_value c) % 10 ≡ c =
    (let range = digit_from_value c digit in omega (arith, digit_value_digit c range)) in
    rw (high, least)

-- the digits of a count, followed by others
fixed_digits_after : (count n : ℕ) (ds : List ℕ) → AllDigits 10 ds
    → fixed_digits (length ds + count) (digits_value_after 10 n ds) ≡ fixed_digits count n ++ ds
fixed_digits_after count n [] all = ap (λ k. fixed_digits k n) (zero-add count) ∙ sym (append-nil (fixed_digits count n))
fixed_digits_after count n (c ∷ cs) all =
    let turned : suc (length cs) + count ≡ length cs + suc count = omega arith in
    ap (λ k. fixed_digits k (digits_value_after 10 (n * 10 + digit_value c) cs)) turned
    ∙ fixed_digits_after (suc count) (n * 10 + digit_value c) cs all.1
    ∙ ap (λ xs. xs ++ cs) (fixed_digits_push count n c all.0)
    ∙ append_assoc (fixed_digits count n) (c ∷ []) cs

pub fixed_digits-value : (ds : List ℕ) → AllDigits 10 ds → fixed_digits (length ds) (digits_value 10 ds) ≡ ds
unfolding fixed_digits
fixed_digits-value ds all =
    ap (λ k. fixed_digits k (digits_value 10 ds)) (sym (add-zero (length ds))) ∙ fixed_digits_after 0 0 ds all

pub fixed_digits-none : (count n : ℕ) → count ≡ 0 → fixed_digits count n ≡ []
unfolding fixed_digits
fixed_digits-none count n e = rw e refl

pub fixed_digits-step : (count n : ℕ) → 0 < count → fixed_digits count n ≡ fixed_digits (count - 1) (n / 10) ++ (48 + n % 10) ∷ []
unfolding fixed_digits
fixed_digits-step zero n some = absurd (omega arith)
fixed_digits-step (suc count) n some = ap (λ k. fixed_digits k (n / 10) ++ (48 + n % 10) ∷ []) (sym (suc_less count))
  where
    suc_less : (k : ℕ) → suc k - 1 ≡ k
    suc_less k = omega arith

pub short_fraction-none : (count n : ℕ) → count ≡ 0 → short_fraction_text count n ≡ []
unfolding short_fraction_text
short_fraction-none count n e = rw e refl

pub short_fraction-shorter : (count n : ℕ) → 0 < count → n % 10 ≡ 0 → short_fraction_text count n ≡ short_fraction_text (count - 1) (n / 10)
unfolding short_fraction_text
short_fraction-shorter zero n some h = absurd (omega arith)
short_fraction-shorter (suc count) n some h = rw (eq-eqb (n % 10) 0 h) (ap (λ k. short_fraction_text k (n / 10)) (sym (suc_less count)))
  where
    suc_less : (k : ℕ) → suc k - 1 ≡ k
    suc_less k = omega arith

pub short_fraction-shortest : (count n : ℕ) → 0 < count → n % 10 ≢ 0 → short_fraction_text count n ≡ fraction_text count n
unfolding short_fraction_text
short_fraction-shortest zero n some h = absurd (omega arith)
short_fraction-shortest (suc count) n some h = rw (eqb_other (n % 10) 0 h) refl
  where
    eqb_other : (a b : ℕ) → a ≢ b → eqb a b ≡ false
    eqb_other a b h = elim (eqb_tells a b) [ inl p ↦ absurd (h p.1) | inr p ↦ p.0 ]
