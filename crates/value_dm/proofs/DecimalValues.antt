-- The decimal that digits write.
use Rattle.std.proofs.Common.{◌≡◌, ◌≢◌, ℕ, suc, zero, ◌+◌, ◌-◌, ◌*◌, ◌%◌, ◌^◌, ◌<◌, Bool, true, false, List, [], ◌∷◌, ◌++◌, length, refl, ap, ◌∙◌, sym, arith, take, get_or, append_assoc, length-append}
use Rattle.std.specs.Prelude.{replicate, unsigned_abs}
use Rattle.std.specs.Char.{digit_value}
use Rattle.std.specs.Str.Parse.{AllDigits, digits_value}
use Rattle.std.proofs.lemmas.List.{take_more, take_all}
use Rattle.std.proofs.lemmas.Nat.{pow-add}
use Rattle.std.proofs.lemmas.Int.Digits.{digits_value_push}
use Rattle.value_dm.specs.Spelling.{IsSameNumber, signed}
use Rattle.value_dm.specs.Sameness.{decimal_same}
use Rattle.value_dm.specs.declared.decimal.Decimal.{Decimal}
use Rattle.value_dm.proofs.Numerals.{ten_power, shortest_same, digits_value-append_zeros, digit_at_value, length-zeros}

pub cancel_tens : (k x y : ℕ) → x * 10 ^ k ≡ y * 10 ^ k → x ≡ y
cancel_tens zero x y e = omega (arith, e)
cancel_tens (suc k) x y e =
    let long : x * (10 * 10 ^ k) ≡ y * (10 * 10 ^ k) = rw ten_power at e in
    cancel_tens k x y (tenth x y (10 ^ k) long)
  where
    tenth : (x y p : ℕ) → x * (10 * p) ≡ y * (10 * p) → x * p ≡ y * p
    tenth x y p e = omega (arith, e)

-- no zero stands at the end
abbrev pub EndsWithNoZero : List ℕ → Type 0
EndsWithNoZero ds = (front : List ℕ) → ds ≢ front ++ 48 ∷ []

last_of : (ds : List ℕ) → 0 < length ds → ds ≡ take (length ds - 1) ds ++ get_or ds (length ds - 1) 0 ∷ []
last_of ds some =
    let inside : length ds - 1 < length ds = omega arith in
    let whole : length ds - 1 + 1 ≡ length ds = omega arith in
    sym (take_all (length ds) ds (omega arith)) ∙ ap (λ n. take n ds) (sym whole) ∙ take_more ds (length ds - 1) 0 inside

-- the last digit of the number is the last digit
last_digit : (whole kept : List ℕ) → AllDigits 10 kept → EndsWithNoZero kept → 0 < length kept → 0 < digits_value 10 (whole ++ kept) % 10
last_digit whole kept all ends some =
    let inside : length kept - 1 < length kept = omega arith in
    let digit = digit_at_value kept (length kept - 1) all inside in
    let split = last_of kept some in
    let other : get_or kept (length kept - 1) 0 ≢ 48 =
    λ e. ends (take (length kept - 1) kept) (split ∙ ap (λ x. take (length kept - 1) kept ++ x ∷ []) e) in
    let value : digits_value 10 (whole ++ kept) ≡ digits_value 10 (whole ++ take (length kept - 1) kept) * 10 + digit_value (get_or kept (length kept - 1) 0) =
    ap (λ x. digits_value 10 (whole ++ x)) split
    ∙ ap (digits_value 10) (sym (append_assoc whole (take (length kept - 1) kept) (get_or kept (length kept - 1) 0 ∷ [])))
    ∙ digits_value_push 10 (whole ++ take (length kept - 1) kept) (get_or kept (length kept - 1) 0) in
    omega (arith, digit)

regroup_zeros : (v k s : ℕ) → v * k * s ≡ v * s * k
regroup_zeros v k s = omega arith

regroup_places : (a p k : ℕ) → a * (p * k) ≡ a * p * k
regroup_places a p k = omega arith

pub record Kept (whole kept fraction : List ℕ) : Type 0 where
  pub zeros : ℕ
  pub parts : fraction ≡ kept ++ replicate zeros 48
  pub ends : EndsWithNoZero kept
  pub digits : AllDigits 10 kept

fraction_value : (whole kept fraction : List ℕ) (h : Kept whole kept fraction) → digits_value 10 (whole ++ fraction) ≡ digits_value 10 (whole ++ kept) * 10 ^ h.zeros
fraction_value whole kept fraction h =
    ap (λ x. digits_value 10 (whole ++ x)) h.parts
    ∙ ap (digits_value 10) (sym (append_assoc whole kept (replicate h.zeros 48)))
    ∙ digits_value-append_zeros (whole ++ kept) h.zeros

fraction_places : (whole kept fraction : List ℕ) (h : Kept whole kept fraction) → 10 ^ length fraction ≡ 10 ^ length kept * 10 ^ h.zeros
fraction_places whole kept fraction h =
    ap (λ x. 10 ^ length x) h.parts
    ∙ ap (λ n. 10 ^ n) (length-append kept (replicate h.zeros 48) ∙ ap (λ n. length kept + n) (length-zeros h.zeros))
    ∙ pow-add 10 (length kept) h.zeros

-- the digits without the zeros at their end are the decimal's own
pub same_number_is : (negative : Bool) (whole kept fraction : List ℕ) → Kept whole kept fraction → (d : Decimal) → IsSameNumber negative whole fraction d
    → (digits_value 10 (whole ++ kept) ≡ unsigned_abs d.coefficient) × (length kept ≡ d.scale)
same_number_is negative whole kept fraction h d same =
    let long : digits_value 10 (whole ++ kept) * 10 ^ h.zeros * 10 ^ d.scale ≡ unsigned_abs d.coefficient * (10 ^ length kept * 10 ^ h.zeros) =
    rw (fraction_value whole kept fraction h, fraction_places whole kept fraction h) at same.size in
    let short : digits_value 10 (whole ++ kept) * 10 ^ d.scale ≡ unsigned_abs d.coefficient * 10 ^ length kept =
    cancel_tens h.zeros _ _ (sym (regroup_zeros (digits_value 10 (whole ++ kept)) (10 ^ h.zeros) (10 ^ d.scale)) ∙ long ∙ regroup_places (unsigned_abs d.coefficient) (10 ^ length kept) (10 ^ h.zeros)) in
    shortest_same (digits_value 10 (whole ++ kept)) (unsigned_abs d.coefficient) (length kept) d.scale
    (last_digit whole kept h.digits h.ends) d.shortest short

pub unsigned_abs-signed : (negative : Bool) (n : ℕ) → unsigned_abs (signed negative n) ≡ n
unsigned_abs-signed true zero = refl
unsigned_abs-signed true (suc n) = refl
unsigned_abs-signed false n = refl

-- the decimal that has the kept digits is the number
pub same_number_of : (negative : Bool) (whole kept fraction : List ℕ) → Kept whole kept fraction → (d : Decimal)
    → d.coefficient ≡ signed negative (digits_value 10 (whole ++ kept)) → d.scale ≡ length kept → IsSameNumber negative whole fraction d
same_number_of negative whole kept fraction h d value places =
    let size : unsigned_abs d.coefficient ≡ digits_value 10 (whole ++ kept) = ap unsigned_abs value ∙ unsigned_abs-signed negative (digits_value 10 (whole ++ kept)) in
    record {
      size =
          rw (fraction_value whole kept fraction h, fraction_places whole kept fraction h, size, places)
          (regroup_zeros (digits_value 10 (whole ++ kept)) (10 ^ h.zeros) (10 ^ length kept) ∙ sym (regroup_places (digits_value 10 (whole ++ kept)) (10 ^ length kept) (10 ^ h.zeros)));
      side = value ∙ ap (signed negative) (sym size);
    }

pub shortest_kept : (whole kept fraction : List ℕ) → Kept whole kept fraction → 0 < length kept → 0 < digits_value 10 (whole ++ kept) % 10
shortest_kept whole kept fraction h some = last_digit whole kept h.digits h.ends some

pub same_number_along : (n n' : Bool) (w w' f f' : List ℕ) (d : Decimal) → n' ≡ n → w' ≡ w → f' ≡ f → IsSameNumber n' w' f' d → IsSameNumber n w f d
same_number_along n n' w w' f f' d p q r h = record {
  size = rw (← q, ← r) h.size;
  side = rw (← p) h.side;
}

-- digits write one decimal alone
pub same_number_one : (n : Bool) (w f : List ℕ) (a b : Decimal) → IsSameNumber n w f a → IsSameNumber n w f b → a ≡ b
same_number_one n w f a b g h =
    let size : unsigned_abs a.coefficient * 10 ^ b.scale ≡ unsigned_abs b.coefficient * 10 ^ a.scale =
    cross (digits_value 10 (w ++ f)) (unsigned_abs a.coefficient) (unsigned_abs b.coefficient) (10 ^ a.scale) (10 ^ b.scale) (length f) g.size h.size in
    let both = shortest_same (unsigned_abs a.coefficient) (unsigned_abs b.coefficient) a.scale b.scale a.shortest b.shortest size in
    decimal_same a b (g.side ∙ ap (signed n) both.0 ∙ sym h.side) both.1
  where
    cross : (v x y s t k : ℕ) → v * s ≡ x * 10 ^ k → v * t ≡ y * 10 ^ k → x * t ≡ y * s
    cross v x y s t k p q = cancel_tens k (x * t) (y * s) (turned v x y s t (10 ^ k) p q)
      where
        turned : (v x y s t z : ℕ) → v * s ≡ x * z → v * t ≡ y * z → x * t * z ≡ y * s * z
        turned v x y s t z p q =
            let one : v * s * t ≡ x * z * t = ap (λ n. n * t) p in
            let two : v * t * s ≡ y * z * s = ap (λ n. n * s) q in
            omega (arith, one, two)
