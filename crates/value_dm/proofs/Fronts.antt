-- Numbers of a fixed count of digits at the front of a text.
use Rattle.std.proofs.Common.{◌≡◌, ◌≤◌, ℕ, ◌-◌, ◌^◌, ◌<◌, List, [], ◌∷◌, ◌++◌, length, refl, ap, ◌∙◌, sym, subst, arith, drop, take, append_assoc, append-nil, length-drop, lit<}
use Rattle.std.specs.Char.{digit_value}
use Rattle.std.specs.Str.Parse.{AllDigits, digits_value}
use Rattle.std.proofs.Math.Seq.{take-append_seam, drop-append_seam}
use Rattle.std.proofs.Math.Nat.{pow-le-pow_right}
use Rattle.std.proofs.lemmas.List.{take-append-drop, take_all}
use Rattle.std.proofs.lemmas.Bool.Decides.{nat_tests}
use Rattle.value_dm.specs.Calendar.{days_in_month}
use Rattle.value_dm.specs.Digits.{fixed_digits}
use Rattle.value_dm.specs.Lexical.{date_text, clock_text}
use Rattle.value_dm.specs.Reading.{BeginsWithNoDigit, three_numbers_onto}
use Rattle.value_dm.specs.declared.calendar.Date.{Date}
use Rattle.value_dm.specs.declared.calendar.Time.{Time}
use Rattle.value_dm.proofs.FixedDigits.{length-fixed_digits, digits_value-fixed_digits, fixed_digits-value}
use Rattle.value_dm.proofs.Numerals.{AllDigits-back}

pub small_power : (k : ℕ) → k ≤ 9 → 10 ^ k ≤ 10 ^ 9
small_power k h = pow-le-pow_right (lit< tt) h

pub no_digit_behind : (ds xs ys : List ℕ) → ds ≡ xs ++ ys → AllDigits 10 ds → BeginsWithNoDigit ys → 0 < length ys → ⊥
no_digit_behind ds xs [] e all ends some = omega arith
no_digit_behind ds xs (c ∷ cs) e all ends some =
    let P : List ℕ → Type 0 = AllDigits 10 in
    let back = AllDigits-back xs (c ∷ cs) (subst P e all) in
    let low : digit_value c < 10 = back.0 in omega arith

pub nothing_behind : (ds xs ys : List ℕ) → ds ≡ xs ++ ys → length ys ≡ 0 → ds ≡ xs
nothing_behind ds xs [] e none = e ∙ append-nil xs
nothing_behind ds xs (c ∷ cs) e none = absurd (omega arith)

pub rest_of : (text : List ℕ) (i : ℕ) → take (length text - i) (drop i text) ≡ drop i text
rest_of text i = let e = length-drop i text in take_all (length text - i) (drop i text) (omega arith)

pub front_number : (text : List ℕ) (count n : ℕ) → count ≤ length text → length (take count text) ≡ count → AllDigits 10 (take count text) → n ≡ digits_value 10 (take count text)
    → n < 10 ^ length (take count text) → (n < 10 ^ count) × (text ≡ fixed_digits count n ++ take (length text - count) (drop count text))
front_number text count n room len all value small =
    let digits : fixed_digits count n ≡ take count text =
    ap (λ k. fixed_digits k n) (sym len) ∙ ap (fixed_digits (length (take count text))) value ∙ fixed_digits-value (take count text) all in (
      let P : ℕ → Type 0 = λ k. n < 10 ^ k in subst P len small,
      rw (rest_of text count, digits) (sym (take-append-drop count text)),
    )

-- the digits at the front, and what follows them
pub front_same : (text : List ℕ) (count n : ℕ) (rest : List ℕ) → text ≡ fixed_digits count n ++ rest → (take count text ≡ fixed_digits count n) × (drop count text ≡ rest)
front_same text count n rest e =
    let len = length-fixed_digits count n in (
      rw e (ap (λ k. take k (fixed_digits count n ++ rest)) (sym len) ∙ take-append_seam (fixed_digits count n) rest),
      rw e (ap (λ k. drop k (fixed_digits count n ++ rest)) (sym len) ∙ drop-append_seam (fixed_digits count n) rest),
    )

pub fixed_same : (count n m : ℕ) (r s : List ℕ) → n < 10 ^ count → m < 10 ^ count → fixed_digits count n ++ r ≡ fixed_digits count m ++ s → (n ≡ m) × (r ≡ s)
fixed_same count n m r s small_n small_m e =
    let one = front_same (fixed_digits count n ++ r) count n r refl in
    let two = front_same (fixed_digits count n ++ r) count m s e in (
      sym (digits_value-fixed_digits count n small_n) ∙ ap (digits_value 10) (sym one.0 ∙ two.0) ∙ digits_value-fixed_digits count m small_m,
      sym one.1 ∙ two.1,
    )

cons_same : (x : ℕ) (xs ys : List ℕ) → x ∷ xs ≡ x ∷ ys → xs ≡ ys
cons_same x xs ys e = cc

-- what a text with three numbers has behind the first and behind the second
pub behind_first_same : (text : List ℕ) (count separator n a b c : ℕ) (behind rest : List ℕ) → n < 10 ^ count → a < 10 ^ count → text ≡ fixed_digits count n ++ behind
    → text ≡ three_numbers_onto count separator a b c rest
    → (n ≡ a) × (behind ≡ separator ∷ (fixed_digits 2 b ++ (separator ∷ (fixed_digits 2 c ++ rest))))
behind_first_same text count separator n a b c behind rest p q e f = fixed_same count n a behind _ p q (sym e ∙ f)

pub behind_second_same : (separator n b : ℕ) (behind after rest : List ℕ) → n < 100 → b < 100 → behind ≡ separator ∷ (fixed_digits 2 n ++ after)
    → behind ≡ separator ∷ (fixed_digits 2 b ++ rest) → (n ≡ b) × (after ≡ rest)
behind_second_same separator n b behind after rest p q e f =
    fixed_same 2 n b after rest p q (cons_same separator _ _ (sym e ∙ f))

pub record SameThree (a b c a' b' c' : ℕ) (rest rest' : List ℕ) : Type 0 where
  pub first : a ≡ a'
  pub second : b ≡ b'
  pub third : c ≡ c'
  pub after : rest ≡ rest'

pub three_same : (count separator a b c a' b' c' : ℕ) (rest rest' : List ℕ) → a < 10 ^ count → b < 100 → c < 100 → a' < 10 ^ count → b' < 100 → c' < 100
    → three_numbers_onto count separator a b c rest ≡ three_numbers_onto count separator a' b' c' rest' → SameThree a b c a' b' c' rest rest'
three_same count separator a b c a' b' c' rest rest' p q r p' q' r' e =
    let one = fixed_same count a a' _ _ p p' e in
    let two = fixed_same 2 b b' _ _ q q' (cons_same separator _ _ one.1) in
    let three = fixed_same 2 c c' _ _ r r' (cons_same separator _ _ two.1) in
    record { first = one.0; second = two.0; third = three.0; after = three.1 }

days_small : (year month : ℕ) → days_in_month year month ≤ 31
days_small year month = grind (arith, nat_tests)

pub date_onto : (d : Date) (rest : List ℕ) → date_text d ++ rest ≡ three_numbers_onto 4 45 d.year d.month d.day rest
date_onto d rest = simp append_assoc

pub clock_onto : (t : Time) (rest : List ℕ) → clock_text t ++ rest ≡ three_numbers_onto 2 58 t.hour t.minute t.second rest
clock_onto t rest = simp append_assoc

pub date_bounds : (d : Date) → (d.year < 10 ^ 4) × (d.month < 100) × (d.day < 100)
date_bounds d = let most = days_small d.year d.month in let e = d.exists in (omega arith, omega arith, omega (arith, e.5, most))

pub clock_bounds : (t : Time) → (t.hour < 10 ^ 2) × (t.minute < 100) × (t.second < 100)
clock_bounds t = let e = t.exists in (omega arith, omega arith, omega arith)
