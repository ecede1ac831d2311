-- The set that a table of bits stands for.
use Rattle.std.proofs.Common.{◌≡◌, ◌*◌, ◌/◌, ◌%◌, ◌^◌, ◌==◌, ◌||◌, ◌<◌, ◌≤◌, ◌∙◌, ℕ, List, Bool, true, false, not, length, get_or, map, refl, sym, ap, arith, inl, inr, bit_and, bit_or, slice_set, w8, pow_pos, ◌≢◌, cond, replicate, Fits}
use lib.Dec.{eqb}
use lib.Lanes.{Each1, mask_l, top, zip2}
use Rattle.std.specs.Int.{bit_at}
use Rattle.std.proofs.lemmas.Bool.{cases_eq, cases_lt, eq-eqb, ne_eqb}
use Rattle.std.proofs.lemmas.List.{get_or_past, get_or-set_same, get_or-set_other, length-map}
use Rattle.std.proofs.lemmas.List.FromFn.{get_or-map-range_with_len, length-map-range_with_len}
use Rattle.std.proofs.lemmas.Nat.Bits.{and_pow, bit_at-lt, bit_at-zero, bit_at_set_other, bit_at_set_same}
use Rattle.std.proofs.lemmas.Simd.{bitmask_splat, map-map, zip2-map}
use Rattle.lanes_dm.proofs.Tables.{map_agrees}
use Rattle.lanes_dm.specs.ByteSet.{has_byte, is_set, tests_of}

pub has_byte-tests_of : (rows : List ℕ) (b : ℕ) → b < 256 → has_byte (tests_of rows) b ≡ is_set rows b
unfolding tests_of
has_byte-tests_of rows b small = get_or-map-range_with_len (is_set rows) 0 256 b b false small (omega arith)

-- no number from 256 on is a byte of a set
has_byte_past : (rows : List ℕ) (b : ℕ) → 256 ≤ b → has_byte (tests_of rows) b ≡ false
unfolding tests_of
has_byte_past rows b large = get_or_past (tests_of rows) b false (omega (arith, length-map-range_with_len (is_set rows) 0 256))

-- a table whose rows are all 0 has no byte
pub none_set : (rows : List ℕ) → ((i : ℕ) → get_or rows i 0 ≡ 0) → (b : ℕ) → has_byte (tests_of rows) b ≡ false
none_set rows empty b = elim (cases_lt b 256) [
  | inl small ↦
      let none : is_set rows b ≡ false = rw (empty (b / 8), bit_at-zero (b % 8)) refl in
      has_byte-tests_of rows b small ∙ none
  | inr large ↦ has_byte_past rows b large
]

-- ---- one more byte

abbrev pub with_bit : List ℕ → ℕ → List ℕ
with_bit rows b = slice_set rows (b / 8) (bit_or (get_or rows (b / 8) 0) (1 * 2 ^ (b % 8) % 256))

or_false : (a : Bool) → (a || false) ≡ a
or_false true = refl
or_false false = refl

or_true : (a : Bool) → (a || true) ≡ true
or_true true = refl
or_true false = refl

is_set-with_bit : (rows : List ℕ) (b x : ℕ) → b / 8 < length rows → is_set (with_bit rows b) x ≡ (is_set rows x || (x == b))
is_set-with_bit rows b x within = elim (cases_eq (x / 8) (b / 8)) [
  | inl row ↦
      let changed = get_or-set_same rows (b / 8) (bit_or (get_or rows (b / 8) 0) (1 * 2 ^ (b % 8) % 256)) 0 within in
      elim (cases_eq (x % 8) (b % 8)) [
        | inl bit ↦
            let same : x ≡ b = omega (arith, row, bit) in
            rw (same, changed, bit_at_set_same w8 (get_or rows (b / 8) 0) (b % 8) (omega arith), eq-eqb b b refl, or_true) refl
        | inr other ↦
            let apart : x ≢ b = λ e. other (ap (λ n. n % 8) e) in
            rw (row, changed, bit_at_set_other w8 (get_or rows (b / 8) 0) (b % 8) (omega arith) (x % 8) other, ne_eqb x b apart, or_false) refl
      ]
  | inr other ↦
      let apart : x ≢ b = λ e. other (ap (λ n. n / 8) e) in
      rw (get_or-set_other rows (b / 8) (x / 8) (bit_or (get_or rows (b / 8) 0) (1 * 2 ^ (b % 8) % 256)) 0 other, ne_eqb x b apart, or_false) refl
]

pub has_byte-with_bit : (rows : List ℕ) (b x : ℕ) → length rows ≡ 32 → b < 256 → has_byte (tests_of (with_bit rows b)) x ≡ (has_byte (tests_of rows) x || (x == b))
has_byte-with_bit rows b x long small = elim (cases_lt x 256) [
  | inl low ↦ rw (has_byte-tests_of (with_bit rows b) x low, has_byte-tests_of rows x low) (is_set-with_bit rows b x (omega arith))
  | inr high ↦
      let apart : x ≢ b = λ e. absurd (omega (arith, e)) in
      rw (has_byte_past (with_bit rows b) x high, has_byte_past rows x high, ne_eqb x b apart) refl
]

-- ---- the lanes that are in a set

bit_found : (row k : ℕ) → not (eqb (bit_and row (2 ^ k)) 0) ≡ (bit_at row k == 1)
bit_found row k = rw (and_pow row k) (elim (cases_eq (bit_at row k) 0) [
  | inl clear ↦
      let none : 0 * 2 ^ k ≡ 0 = omega arith in
      rw (clear, none) refl
  | inr set ↦
      let one : bit_at row k ≡ 1 = omega (arith, bit_at-lt row k) in
      rw (one, ne_eqb (1 * 2 ^ k) 0 (λ z. absurd (omega (arith, z, pow_pos k)))) refl
])

pub marks_are : (rows v : List ℕ) → length v ≡ 32 → Each1 (Fits w8) v
    → mask_l (map (top 7) (zip2 (λ a b. cond (not (eqb a b)) 255 0) (zip2 bit_and (map (λ x. get_or rows (x / 8) 0) v) (map (λ x. 2 ^ (x % 8)) v)) (replicate 32 0))) % 2 ^ 64
    ≡ mask_l (map (has_byte (tests_of rows)) v)
marks_are rows v long each =
    let f : ℕ → ℕ = λ x. bit_and (get_or rows (x / 8) 0) (2 ^ (x % 8)) in
    let hits : zip2 bit_and (map (λ x. get_or rows (x / 8) 0) v) (map (λ x. 2 ^ (x % 8)) v) ≡ map f v = zip2-map bit_and (λ x. get_or rows (x / 8) 0) (λ x. 2 ^ (x % 8)) v in
    rw hits (bitmask_splat w8 (λ a b. not (eqb a b)) (map f v) 32 0 (length-map v f ∙ long) (omega arith)
    ∙ ap mask_l (map-map (λ x. not (eqb x 0)) f v ∙ map_agrees (Fits w8) (λ x. not (eqb (f x) 0)) (has_byte (tests_of rows)) (λ x fit. bit_found (get_or rows (x / 8) 0) (x % 8) ∙ sym (has_byte-tests_of rows x fit.fits)) v each))
