-- Tables of 16 bytes, read by lanes.
use Rattle.std.proofs.Common.{◌≡◌, ◌+◌, ◌-◌, ◌*◌, ◌/◌, ◌<◌, ◌≤◌, ◌∙◌, ◌∷◌, ◌++◌, [], ℕ, suc, List, Bool, true, false, cond, IsTrue, get_or, length, map, refl, ap, arith, inl, inr, bit_and, bit_or, nat_le, replicate, ◌%◌, ◌^◌, ◌==◌, ◌&&◌, w8, Fits}
use lib.Dec.{leb}
use lib.Lanes.{Each1, chunk, pick_l, zip2}
use Rattle.std.proofs.lemmas.Bool.{agree_below, agree_below_at, cases_Bool, cases_lt, eqb-true, le-ltb, lt-leb}
use Rattle.std.proofs.lemmas.List.{get_or_append_left, get_or-append_right, map-append}
use Rattle.std.proofs.lemmas.Simd.{get_or-chunk, map-map, pick_l_left, pick_l_whole, splat_is_map, swz_l, zip2_of_maps, zip2_splat}
use Rattle.std.specs.Int.Bits.{or_zero_l, or_zero_r}
use Rattle.std.specs.List.{range_with_len}
use Rattle.lanes_dm.specs.Tables.{byte_at, is_place}

-- the places of a table, twice
abbrev places_twice : List ℕ
places_twice = range_with_len 0 16 ++ range_with_len 0 16

pub twice : (table : List ℕ) → length table ≡ 16 → pick_l 0 (table ++ table) places_twice ≡ table ++ table
twice table long =
    pick_l_left 0 table table 16 places_twice long tt ∙ map-append (λ k. get_or table k 0) (range_with_len 0 16) (range_with_len 0 16)
    ∙ ap (λ (t : List ℕ). t ++ t) (pick_l_whole 0 table 16 long)

-- a place within either copy of a table
in_either : (table : List ℕ) (i j : ℕ) → length table ≡ 16 → i < 32 → j < 16 → get_or (table ++ table) (16 * (i / 16) + j) 0 ≡ get_or table j 0
in_either table i j long lt within = elim (cases_lt i 16) [
  | inl first ↦
      let same : 16 * (i / 16) + j ≡ j = omega arith in
      rw same (get_or_append_left table table 0 j (omega arith))
  | inr second ↦
      let same : 16 * (i / 16) + j ≡ 16 + j = omega arith in
      let back : 16 + j - 16 ≡ j = omega arith in
      rw same (get_or-append_right table table 16 (16 + j) 0 long (omega arith) ∙ ap (λ k. get_or table k 0) back)
]

looked_up_one : (table : List ℕ) (i j : ℕ) → length table ≡ 16 → i < 32 → IsTrue (is_place j)
    → cond (leb 128 j) 0 (get_or (table ++ table) (16 * (i / 16) + j) 0) ≡ byte_at table j
looked_up_one table i j long lt place = elim (cases_Bool (leb 128 j)) [
  | inl past ↦ rw past refl
  | inr below ↦ elim (cases_lt j 16) [
    | inl within ↦ rw below (in_either table i j long lt within)
    | inr out ↦ cc (rw (below, le-ltb j 16 out) at place)
  ]
]

-- the lanes from i on of a look-up in two copies of a table
pub looked_up : (table : List ℕ) (i : ℕ) (places : List ℕ) → length table ≡ 16 → i + length places ≤ 32 → Each1 (λ j. IsTrue (is_place j)) places
    → swz_l w8 16 (table ++ table) i places ≡ map (byte_at table) places
looked_up table i [] long room each = refl
looked_up table i (j ∷ js) long room each =
    let here = looked_up_one table i j long (omega arith) each.0 in
    let rest = looked_up table (suc i) js long (omega arith) each.1 in
    rw (here, rest) refl

-- ---- the places of the row and of the bit of a byte

abbrev pub first_place : ℕ → ℕ
first_place x = bit_or (x / 8) (bit_and x 128)

abbrev pub second_place : ℕ → ℕ
second_place x = (x / 8 + 240) % 256

abbrev pub bit_place : ℕ → ℕ
bit_place x = bit_and x 7

pub first_places : (v : List ℕ) → length v ≡ 32 → zip2 bit_or (zip2 (λ a b. a / 2 ^ b) v (replicate 32 3)) (zip2 bit_and v (replicate 32 128)) ≡ map first_place v
first_places v long = zip2_of_maps bit_or (λ x. x / 8) (λ x. bit_and x 128) v (zip2_splat (λ a b. a / 2 ^ b) v 32 3 long) (zip2_splat bit_and v 32 128 long)

pub second_places : (v : List ℕ) → length v ≡ 32 → zip2 (λ a b. (a + (256 - b)) % 256) (zip2 (λ a b. a / 2 ^ b) v (replicate 32 3)) (replicate 32 16) ≡ map second_place v
second_places v long = zip2_of_maps (λ a b. (a + (256 - b)) % 256) (λ x. x / 8) (λ _. 16) v (zip2_splat (λ a b. a / 2 ^ b) v 32 3 long) (splat_is_map v 32 16 long)

pub each_map : (P Q : ℕ → Type 0) (f : ℕ → ℕ) → ((x : ℕ) → P x → Q (f x)) → (xs : List ℕ) → Each1 P xs → Each1 Q (map f xs)
each_map P Q f step [] each = tt
each_map P Q f step (x ∷ xs) each = (step x each.0, each_map P Q f step xs each.1)

-- two functions that agree on each element
pub map_agrees : {B : Type 0} (P : ℕ → Type 0) (f g : ℕ → B) → ((x : ℕ) → P x → f x ≡ g x) → (xs : List ℕ) → Each1 P xs → map f xs ≡ map g xs
map_agrees P f g same [] each = refl
map_agrees P f g same (x ∷ xs) each =
    let here = same x each.0 in
    let rest = map_agrees P f g same xs each.1 in
    rw (here, rest) refl

-- each place of each of the 256 bytes is one
first_is_place : agree_below (λ x. is_place (first_place x)) (λ x. true) 256 ≡ true
first_is_place = refl

second_is_place : agree_below (λ x. is_place (second_place x)) (λ x. true) 256 ≡ true
second_is_place = refl

bit_is_place : agree_below (λ x. is_place (bit_place x)) (λ x. true) 256 ≡ true
bit_is_place = refl

pub are_first_places : (v : List ℕ) → Each1 (Fits w8) v → Each1 (λ j. IsTrue (is_place j)) (map first_place v)
are_first_places v each = each_map (Fits w8) (λ j. IsTrue (is_place j)) first_place (λ x small. agree_below_at (λ y. is_place (first_place y)) (λ y. true) 256 x first_is_place small.fits) v each

pub are_second_places : (v : List ℕ) → Each1 (Fits w8) v → Each1 (λ j. IsTrue (is_place j)) (map second_place v)
are_second_places v each = each_map (Fits w8) (λ j. IsTrue (is_place j)) second_place (λ x small. agree_below_at (λ y. is_place (second_place y)) (λ y. true) 256 x second_is_place small.fits) v each

pub are_bit_places : (v : List ℕ) → Each1 (Fits w8) v → Each1 (λ j. IsTrue (is_place j)) (map bit_place v)
are_bit_places v each = each_map (Fits w8) (λ j. IsTrue (is_place j)) bit_place (λ x small. agree_below_at (λ y. is_place (bit_place y)) (λ y. true) 256 x bit_is_place small.fits) v each

-- ---- what stands there

-- below 128 the first place is that of the row, and the second reads as 0
low_byte : agree_below (λ x. (first_place x == x / 8) && nat_le 128 (second_place x)) (λ x. true) 128 ≡ true
low_byte = refl

-- from 128 on the first reads as 0, and the second is that of the row
high_byte : agree_below (λ k. nat_le 128 (first_place (128 + k)) && (second_place (128 + k) + 16 == (128 + k) / 8)) (λ k. true) 128 ≡ true
high_byte = refl

abbrev pub bit_table : List ℕ
bit_table = 1 ∷ 2 ∷ 4 ∷ 8 ∷ 16 ∷ 32 ∷ 64 ∷ 128 ∷ 1 ∷ 2 ∷ 4 ∷ 8 ∷ 16 ∷ 32 ∷ 64 ∷ 128 ∷ []

bit_there : agree_below (λ x. byte_at bit_table (bit_place x) == 2 ^ (x % 8)) (λ x. true) 256 ≡ true
bit_there = refl

both_true : (a b : Bool) → (a && b) ≡ true → (a ≡ true) × (b ≡ true)
both_true true true e = (refl, refl)
both_true true false e = cc e
both_true false b e = cc e

-- the low half of a table of 32 rows, and the high half, read at the places of one byte
row_there : (rows : List ℕ) (x : ℕ) → x < 256 → bit_or (byte_at (chunk 0 16 rows) (first_place x)) (byte_at (chunk 16 16 rows) (second_place x)) ≡ get_or rows (x / 8) 0
row_there rows x small = elim (cases_lt x 128) [
  | inl low ↦
      let both = both_true _ _ (agree_below_at (λ y. (first_place y == y / 8) && nat_le 128 (second_place y)) (λ y. true) 128 x low_byte low) in
      let place : first_place x ≡ x / 8 = eqb-true (first_place x) (x / 8) both.0 in
      let within : leb 128 (x / 8) ≡ false = lt-leb 128 (x / 8) (omega arith) in
      let there : 0 + x / 8 ≡ x / 8 = omega arith in
      rw (both.1, place, within) (or_zero_r _ ∙ get_or-chunk 0 16 rows (x / 8) 0 (omega arith) ∙ ap (λ k. get_or rows k 0) there)
  | inr high ↦
      let back : 128 + (x - 128) ≡ x = omega arith in
      let e : (nat_le 128 (first_place (128 + (x - 128))) && (second_place (128 + (x - 128)) + 16 == (128 + (x - 128)) / 8)) ≡ true = agree_below_at (λ k. nat_le 128 (first_place (128 + k)) && (second_place (128 + k) + 16 == (128 + k) / 8)) (λ k. true) 128 (x - 128) high_byte (omega arith) in
      let both = both_true (nat_le 128 (first_place x)) (second_place x + 16 == x / 8) (rw back at e) in
      let place : second_place x + 16 ≡ x / 8 = eqb-true (second_place x + 16) (x / 8) both.1 in
      let within : leb 128 (second_place x) ≡ false = lt-leb 128 (second_place x) (omega (arith, place)) in
      let there : 16 + second_place x ≡ x / 8 = omega (arith, place) in
      rw (both.0, within) (or_zero_l _ ∙ get_or-chunk 16 16 rows (second_place x) 0 (omega (arith, place)) ∙ ap (λ k. get_or rows k 0) there)
]

pub rows_there : (rows v : List ℕ) → length v ≡ 32 → Each1 (Fits w8) v
    → zip2 bit_or (map (byte_at (chunk 0 16 rows)) (map first_place v)) (map (byte_at (chunk 16 16 rows)) (map second_place v)) ≡ map (λ x. get_or rows (x / 8) 0) v
rows_there rows v long each =
    zip2_of_maps bit_or (λ x. byte_at (chunk 0 16 rows) (first_place x)) (λ x. byte_at (chunk 16 16 rows) (second_place x)) v (map-map (byte_at (chunk 0 16 rows)) first_place v) (map-map (byte_at (chunk 16 16 rows)) second_place v)
    ∙ map_agrees (Fits w8) _ (λ x. get_or rows (x / 8) 0) (λ x fit. row_there rows x fit.fits) v each

pub bits_there : (v : List ℕ) → Each1 (Fits w8) v → map (byte_at bit_table) (map bit_place v) ≡ map (λ x. 2 ^ (x % 8)) v
bits_there v each =
    map-map (byte_at bit_table) bit_place v ∙ map_agrees (Fits w8) (λ x. byte_at bit_table (bit_place x)) (λ x. 2 ^ (x % 8)) (λ x fit. eqb-true _ _ (agree_below_at (λ y. byte_at bit_table (bit_place y) == 2 ^ (y % 8)) (λ y. true) 256 x bit_there fit.fits)) v each
