-- The first place that passes, and how many pass, a chunk further.
use Rattle.std.proofs.Common.{◌≡◌, ◌+◌, ◌-◌, ◌<◌, ◌≤◌, ◌∙◌, ◌∷◌, ◌==◌, ◌↔◌, [], ◌*◌, not, IsTrue, Contains, ℕ, List, Bool, false, cond, Some, option_map, length, get_or, take, drop, map, position, count_by, take-add, refl, sym, ap, arith, inl, inr, w64}
use lib.Lanes.{chunk, mask_l}
use Rattle.std.specs.Int.{trailing_zeros}
use Rattle.std.specs.List.{position_or_len}
use Rattle.std.proofs.lemmas.Bool.{cases_Bool, cases_eq, cases_lt, eqb-true, le-ltb, lt-ltb, ne_eqb}
use Rattle.std.proofs.lemmas.List.{get_or-drop, length-drop, take_all}
use Rattle.std.proofs.lemmas.List.Sums.{fails_before_first, passes_at_first, position_or_len_is, prefix_len-le-length, sum_by-append}
use Rattle.std.proofs.lemmas.Simd.{get_or-chunk, length-chunk, none_from_empty_mask, run_in_chunk_fails, run_in_chunk_stops, trailing_mask_l}

-- no element before this place passes
abbrev pub NoneBefore : (ℕ → Bool) → List ℕ → ℕ → Type 0
NoneBefore p xs at = (k : ℕ) → k < at → p (get_or xs k 0) ≡ false

pub count_by-chunk : (p : ℕ → Bool) (xs : List ℕ) (at n : ℕ) → count_by p (take (at + n) xs) ≡ count_by p (take at xs) + count_by p (chunk at n xs)
count_by-chunk p xs at n = ap (count_by p) (take-add at n xs) ∙ sum_by-append (λ x. cond (p x) 1 0) (take at xs) (chunk at n xs)

-- an empty mask takes the search a chunk further
pub none_in_chunk : (p : ℕ → Bool) (xs : List ℕ) (at n m : ℕ) → at + n ≤ length xs → m ≡ mask_l (map p (chunk at n xs)) → m ≡ 0 → NoneBefore p xs at → NoneBefore p xs (at + n)
none_in_chunk p xs at n m room is empty before k lt = elim (cases_lt k at) [
  | inl early ↦ before k early
  | inr late ↦ none_from_empty_mask p xs at n 0 room (sym is ∙ empty) k late lt
]

-- a mask that is not empty marks a lane that passes
some_lane : (p : ℕ → Bool) (xs : List ℕ) → 0 < mask_l (map p xs) → position_or_len p xs < length xs
some_lane p [] some = absurd (omega arith)
some_lane p (x ∷ xs) some = elim (cases_Bool (p x)) [
  | inl passes ↦ rw passes (omega arith)
  | inr fails ↦
      let more : 0 < 0 + 2 * mask_l (map p xs) = rw fails at some in
      let later = some_lane p xs (omega (arith, more)) in
      rw fails (omega (arith, later))
]

-- the lowest bit of a mask is the first place that passes, where none before its chunk does
pub first_in_chunk : (p : ℕ → Bool) (xs : List ℕ) (at m : ℕ) → at + 32 ≤ length xs → m ≡ mask_l (map p (chunk at 32 xs)) → 0 < m → NoneBefore p xs at
    → Some (at + trailing_zeros w64 m) ≡ position p xs
first_in_chunk p xs at m room is some before =
    let part = chunk at 32 xs in
    let r = trailing_zeros w64 m in
    let long = length-chunk at 32 xs room in
    let marked : 0 < mask_l (map p part) = rw is at some in
    let counted : r ≡ position_or_len p part = ap (trailing_zeros w64) is ∙ trailing_mask_l p 64 part (omega (arith, long)) marked in
    let within : r < 32 = omega (arith, counted, some_lane p part marked, long) in
    let first : position_or_len p xs ≡ at + r = position_or_len_is p xs (at + r) 0 (omega (arith, within)) (λ k lt. elim (cases_lt k at) [
      | inl early ↦ before k early
      | inr late ↦ run_in_chunk_fails p xs at 32 r 0 room counted k late lt
    ]) (λ _. run_in_chunk_stops p xs at 32 r 0 room counted within) in
    rw (first, lt-ltb (at + r) (length xs) (omega (arith, within))) refl

-- where none before a place passes, the search goes on from there
pub position_or_len-drop : (p : ℕ → Bool) (xs : List ℕ) (at : ℕ) → at ≤ length xs → NoneBefore p xs at → position_or_len p xs ≡ at + position_or_len p (drop at xs)
position_or_len-drop p xs at within before =
    let r = position_or_len p (drop at xs) in
    let most : r ≤ length xs - at = omega (arith, prefix_len-le-length (λ x. not (p x)) (drop at xs), length-drop at xs) in
    position_or_len_is p xs (at + r) 0 (omega (arith, most)) (λ k lt. elim (cases_lt k at) [
      | inl early ↦ before k early
      | inr late ↦
          let same : at + (k - at) ≡ k = omega arith in
          ap (λ j. p (get_or xs j 0)) (sym same) ∙ ap p (sym (get_or-drop at xs (k - at) 0)) ∙ fails_before_first p (drop at xs) (k - at) 0 (omega arith)
    ]) (λ lt. ap p (sym (get_or-drop at xs r 0)) ∙ passes_at_first p (drop at xs) 0 (omega (arith, length-drop at xs)))

pub position-drop : (p : ℕ → Bool) (xs : List ℕ) (at : ℕ) → at ≤ length xs → NoneBefore p xs at → option_map (λ i. at + i) (position p (drop at xs)) ≡ position p xs
position-drop p xs at within before = rw (position_or_len-drop p xs at within before) (elim (cases_lt (position_or_len p (drop at xs)) (length (drop at xs))) [
  | inl found ↦ rw (lt-ltb _ _ found, lt-ltb (at + position_or_len p (drop at xs)) (length xs) (omega (arith, length-drop at xs))) refl
  | inr none ↦ rw (le-ltb _ _ none, le-ltb (at + position_or_len p (drop at xs)) (length xs) (omega (arith, length-drop at xs))) refl
])

-- the rest of a slice, cut to its length
pub tail_whole : (xs : List ℕ) (at : ℕ) → take (length xs - at) (drop at xs) ≡ drop at xs
tail_whole xs at = take_all (length xs - at) (drop at xs) (omega (arith, length-drop at xs))

-- ---- whether a number is in a list

zero_from_mark : (xs : List ℕ) (m : ℕ) → m ≡ mask_l (map (λ x. x == 0) xs) → IsTrue (not (m == 0)) → Contains xs 0
zero_from_mark xs m is marked = elim (cases_eq m 0) [
  | inl none ↦ cc (rw none at marked)
  | inr some ↦
      let lane = some_lane (λ x. x == 0) xs (rw is at (positive m some)) in
      (position_or_len (λ x. x == 0) xs, lane, eqb-true _ 0 (passes_at_first (λ x. x == 0) xs 0 lane))
]
  where
    positive : (k : ℕ) → (k ≡ 0 → ⊥) → 0 < k
    positive k some = omega arith

mark_from_zero : (xs : List ℕ) (at n m : ℕ) → at + n ≤ length xs → m ≡ mask_l (map (λ x. x == 0) (chunk at n xs)) → Contains (chunk at n xs) 0 → IsTrue (not (m == 0))
mark_from_zero xs at n m room is (k, lt, zero) = elim (cases_eq m 0) [
  | inl none ↦
      let within : k < n = omega (arith, lt, length-chunk at n xs room) in
      let fails = none_from_empty_mask (λ x. x == 0) xs at n 0 room (sym is ∙ none) (at + k) (omega arith) (omega arith) in
      let here : get_or xs (at + k) 0 ≡ 0 = sym (get_or-chunk at n xs k 0 within) ∙ zero in
      cc (rw here at fails)
  | inr some ↦ rw (ne_eqb m 0 some) refl
]

-- the mask of a chunk, as a test for a 0 in it
pub zero_marked : (xs : List ℕ) (at n m : ℕ) → at + n ≤ length xs → m ≡ mask_l (map (λ x. x == 0) (chunk at n xs)) → IsTrue (not (m == 0)) ↔ Contains (chunk at n xs) 0
zero_marked xs at n m room is = (zero_from_mark (chunk at n xs) m is, mark_from_zero xs at n m room is)

pub Contains-from_chunk : (xs : List ℕ) (at n x : ℕ) → at + n ≤ length xs → Contains (chunk at n xs) x → Contains xs x
Contains-from_chunk xs at n x room (k, lt, same) =
    let within : k < n = omega (arith, lt, length-chunk at n xs room) in
    (at + k, omega arith, sym (get_or-chunk at n xs k x within) ∙ same)

pub Contains-from_drop : (xs : List ℕ) (at x : ℕ) → Contains (drop at xs) x → Contains xs x
Contains-from_drop xs at x (k, lt, same) = (at + k, omega (arith, lt, length-drop at xs), sym (get_or-drop at xs k x) ∙ same)

-- a 0 stands from a place on, where none stands before it
pub zero_after : (xs : List ℕ) (at : ℕ) → NoneBefore (λ x. x == 0) xs at → Contains xs 0 → Contains (drop at xs) 0
zero_after xs at before (k, lt, zero) = elim (cases_lt k at) [
  | inl early ↦ cc (rw zero at (before k early))
  | inr late ↦
      let there : at + (k - at) ≡ k = omega arith in
      (k - at, omega (arith, lt, length-drop at xs), get_or-drop at xs (k - at) 0 ∙ ap (λ j. get_or xs j 0) there ∙ zero)
]

-- no 0 in a chunk takes the search past it
pub no_zero_in_chunk : (xs : List ℕ) (at n : ℕ) → at + n ≤ length xs → (Contains (chunk at n xs) 0 → ⊥) → NoneBefore (λ x. x == 0) xs at → NoneBefore (λ x. x == 0) xs (at + n)
no_zero_in_chunk xs at n room none before k lt = elim (cases_lt k at) [
  | inl early ↦ before k early
  | inr late ↦ elim (cases_eq (get_or xs k 0) 0) [
    | inl zero ↦
        let there : at + (k - at) ≡ k = omega arith in
        let within : k - at < n = omega arith in
        absurd (none (k - at, omega (arith, length-chunk at n xs room), get_or-chunk at n xs (k - at) 0 within ∙ ap (λ j. get_or xs j 0) there ∙ zero))
    | inr other ↦ ne_eqb (get_or xs k 0) 0 other
  ]
]
