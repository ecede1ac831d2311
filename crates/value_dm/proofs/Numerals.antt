-- What digits write, and where they end.
use Rattle.std.proofs.Common.{◌≡◌, ◌≤◌, ℕ, suc, zero, ◌+◌, ◌*◌, ◌%◌, ◌^◌, ◌<◌, List, [], ◌∷◌, ◌++◌, length, refl, ap, ◌∙◌, arith, take, get_or, append_assoc}
use Rattle.std.proofs.lemmas.List.{take_more}
use Rattle.std.proofs.lemmas.Str.{digit_value_digit}
use Rattle.std.proofs.lemmas.Str.Parse.{digit_at}
use Rattle.std.specs.Prelude.{replicate}
use Rattle.std.specs.Char.{digit_value}
use Rattle.std.specs.Str.Parse.{AllDigits, digits_value, digits_value_after}
use Rattle.value_dm.specs.Reading.{BeginsWithNoDigit}

pub ten_power : (k : ℕ) → 10 ^ suc k ≡ 10 * 10 ^ k
ten_power k = grind arith

regroup : (n d p v : ℕ) → (n * 10 + d) * p + v ≡ n * (10 * p) + ((0 * 10 + d) * p + v)
regroup n d p v = omega arith

regroup_tens : (a p : ℕ) → a * (10 * p) ≡ 10 * (a * p)
regroup_tens a p = omega arith

pub AllDigits-append : (xs ys : List ℕ) → AllDigits 10 xs → AllDigits 10 ys → AllDigits 10 (xs ++ ys)
AllDigits-append [] ys a b = b
AllDigits-append (x ∷ xs) ys a b = (a.0, AllDigits-append xs ys a.1 b)

pub AllDigits-front : (xs ys : List ℕ) → AllDigits 10 (xs ++ ys) → AllDigits 10 xs
AllDigits-front [] ys a = tt
AllDigits-front (x ∷ xs) ys a = (a.0, AllDigits-front xs ys a.1)

pub AllDigits-back : (xs ys : List ℕ) → AllDigits 10 (xs ++ ys) → AllDigits 10 ys
AllDigits-back [] ys a = a
AllDigits-back (x ∷ xs) ys a = AllDigits-back xs ys a.1

pub digits_value_after-append : (n : ℕ) (xs ys : List ℕ) → digits_value_after 10 n (xs ++ ys) ≡ digits_value_after 10 (digits_value_after 10 n xs) ys
digits_value_after-append n [] ys = refl
digits_value_after-append n (x ∷ xs) ys = digits_value_after-append (n * 10 + digit_value x) xs ys

pub digits_value_after-is : (n : ℕ) (ds : List ℕ) → digits_value_after 10 n ds ≡ n * 10 ^ length ds + digits_value 10 ds
digits_value_after-is n [] = omega arith
digits_value_after-is n (c ∷ cs) =
    let one = digits_value_after-is (n * 10 + digit_value c) cs in
    let two = digits_value_after-is (0 * 10 + digit_value c) cs in
    one ∙ rw (two, ten_power (length cs)) (regroup n (digit_value c) (10 ^ length cs) (digits_value 10 cs))

pub digits_value-append : (xs ys : List ℕ) → digits_value 10 (xs ++ ys) ≡ digits_value 10 xs * 10 ^ length ys + digits_value 10 ys
digits_value-append xs ys = digits_value_after-append 0 xs ys ∙ digits_value_after-is (digits_value 10 xs) ys

pub AllDigits-zeros : (k : ℕ) → AllDigits 10 (replicate k 48)
AllDigits-zeros zero = tt
AllDigits-zeros (suc k) = (omega arith, AllDigits-zeros k)

digits_value-zeros : (k : ℕ) → digits_value 10 (replicate k 48) ≡ 0
digits_value-zeros zero = refl
digits_value-zeros (suc k) = digits_value-zeros k

pub length-zeros : (k : ℕ) → length {A = ℕ} (replicate k 48) ≡ k
length-zeros zero = refl
length-zeros (suc k) = ap suc (length-zeros k)

pub digits_value-append_zeros : (xs : List ℕ) (k : ℕ) → digits_value 10 (xs ++ replicate k 48) ≡ digits_value 10 xs * 10 ^ k
digits_value-append_zeros xs k =
    digits_value-append xs (replicate k 48) ∙ rw (digits_value-zeros k, length-zeros k) (omega arith)

-- the digits at the front of a text are those up to the first that is none
pub leading_digits_same : (ds es r s : List ℕ) → AllDigits 10 ds → AllDigits 10 es → BeginsWithNoDigit r → BeginsWithNoDigit s
    → ds ++ r ≡ es ++ s → (ds ≡ es) × (r ≡ s)
leading_digits_same [] [] r s a b p q e = (refl, e)
leading_digits_same [] (y ∷ ys) [] s a b p q e = cc
leading_digits_same [] (y ∷ ys) (c ∷ cs) s a b p q e =
    let same : c ≡ y = cc in absurd (let low : digit_value c < 10 = rw same b.0 in omega arith)
leading_digits_same (x ∷ xs) [] r [] a b p q e = cc
leading_digits_same (x ∷ xs) [] r (c ∷ cs) a b p q e =
    let same : c ≡ x = cc in absurd (let low : digit_value c < 10 = rw same a.0 in omega arith)
leading_digits_same (x ∷ xs) (y ∷ ys) r s a b p q e =
    let heads : x ≡ y = cc in
    let tails : xs ++ r ≡ ys ++ s = cc in
    let both = leading_digits_same xs ys r s a.1 b.1 p q tails in
    let fronts = both.0 in
    (cc, both.1)

-- a number by its digits and its count of fraction digits is one alone where the count is the least
pub shortest_same : (a b s t : ℕ) → (0 < s → 0 < a % 10) → (0 < t → 0 < b % 10) → a * 10 ^ t ≡ b * 10 ^ s → (a ≡ b) × (s ≡ t)
shortest_same a b zero zero p q e = (omega (arith, e), refl)
shortest_same a b zero (suc t) p q e =
    let odd : 0 < b % 10 = q (omega arith) in
    let long : a * (10 * 10 ^ t) ≡ b * 1 = rw ten_power at e in
    let times : b ≡ 10 * (a * 10 ^ t) = omega (arith, regroup_tens a (10 ^ t)) in
    absurd (omega arith)
shortest_same a b (suc s) zero p q e =
    let odd : 0 < a % 10 = p (omega arith) in
    let long : a * 1 ≡ b * (10 * 10 ^ s) = rw ten_power at e in
    let times : a ≡ 10 * (b * 10 ^ s) = omega (arith, regroup_tens b (10 ^ s)) in
    absurd (omega arith)
shortest_same a b (suc s) (suc t) p q e =
    let odd_a : 0 < a % 10 = p (omega arith) in
    let odd_b : 0 < b % 10 = q (omega arith) in
    let long : a * (10 * 10 ^ t) ≡ b * (10 * 10 ^ s) = rw (ten_power t, ten_power s) at e in
    let tenth : a * 10 ^ t ≡ b * 10 ^ s = omega (arith, regroup_tens a (10 ^ t), regroup_tens b (10 ^ s)) in
    let both = shortest_same a b s t (λ _. odd_a) (λ _. odd_b) tenth in
    (both.0, ap suc both.1)

pub digits_value_after-ge : (n : ℕ) (ds : List ℕ) → n ≤ digits_value_after 10 n ds
digits_value_after-ge n [] = omega arith
digits_value_after-ge n (c ∷ cs) = let more = digits_value_after-ge (n * 10 + digit_value c) cs in omega arith

-- fewer digits write no greater number
pub digits_value_after-take-le : (n : ℕ) (ds : List ℕ) (k : ℕ) → digits_value_after 10 n (take k ds) ≤ digits_value_after 10 n ds
digits_value_after-take-le n ds zero = digits_value_after-ge n ds
digits_value_after-take-le n [] (suc k) = omega arith
digits_value_after-take-le n (c ∷ cs) (suc k) = digits_value_after-take-le (n * 10 + digit_value c) cs k

pub digits_value_after-more : (n : ℕ) (ds : List ℕ) (i : ℕ) → i < length ds
    → digits_value_after 10 n (take (i + 1) ds) ≡ digits_value_after 10 n (take i ds) * 10 + digit_value (get_or ds i 0)
digits_value_after-more n ds i h =
    ap (digits_value_after 10 n) (take_more ds i 0 h)
    ∙ digits_value_after-append n (take i ds) (get_or ds i 0 ∷ [])

pub digit_at_value : (ds : List ℕ) (i : ℕ) → AllDigits 10 ds → i < length ds → (digit_value (get_or ds i 0) + 48 ≡ get_or ds i 0) × (get_or ds i 0 < 58)
digit_at_value ds i all h =
    let range = digit_at ds i all h in (digit_value_digit (get_or ds i 0) range, omega arith)
