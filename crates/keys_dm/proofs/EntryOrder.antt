-- The order of entries, and the entries of one key.
use Rattle.std.proofs.Common.{◌≡◌, ◌≢◌, ℕ, suc, [], ◌∷◌, ◌≤◌, ◌<◌, ◌+◌, ◌-◌, List, length, get_or, take, drop, true, false, refl, sym, ap, ◌∙◌, subst, arith, ◌↔◌, inl, inr, AllPairs, IsPermutation, IsSortedBy, Ordering, Less, Equal, Greater, is_lt, nat_cmp}
use Rattle.std.specs.Cmp.{IsTotalOrder, IsStrictWeakOrder}
use Rattle.std.specs.Cmp.Lexicographic.{slice_cmp, options_total}
use Rattle.std.specs.Ordering.{is_eq, is_gt, is_le, ordering_reverse, ordering_then}
use Rattle.std.specs.List.Sorted.{IsPartitionedBy, IsPartitionPoint}
use Rattle.std.proofs.lemmas.Bool.{both_ways, cases_Bool}
use Rattle.std.proofs.lemmas.Bool.Decides.{nat_tests}
use Rattle.std.proofs.lemmas.Cmp.{nat_cmp_total, on_total, then_total, lists_total, tied_itself}
use Rattle.std.proofs.lemmas.List.{get_or_read, get_or-map, length-map}
use Rattle.std.proofs.lemmas.List.Sorted.{ranks_by, sorted_far, IsPermutation-map, All-permutation}
use Rattle.members_dm.specs.Membership.{IsIn, IsRising}
use Rattle.members_dm.proofs.AnyLemmas.{item_from_all}
use Rattle.members_dm.proofs.MembershipLemmas.{IsIn-map, map-IsIn}
use Rattle.value_dm.specs.contracts.value.ValueOrd.TheImpl.Laws.{total-law}
use Rattle.table_csv.specs.Cells.{Cell, Row, cells_at}
use Rattle.keys_dm.specs.Entries.{AreEntries, AreSorted, EndsAt, GoesOnAt, IsRisingBy, IsSortedIndexOf, against, entry_cmp, is_before, is_not_behind, key_of, positions_of}
use Rattle.keys_dm.specs.Hashes.{hash_of}
use Rattle.keys_dm.specs.KeyCells.{cell_cmp}
use Rattle.keys_dm.specs.KeyCells.{AreRowsWith, IsRowWith, row_at}
use Rattle.keys_dm.specs.declared.index.Entry.{Entry}
use Rattle.keys_dm.proofs.CellOrder.{keys_decide}
use Rattle.keys_dm.proofs.KeyRanges.{equal_between, lt_le, before_parted, not_behind_parted, start_first, part_at, part_has}
use Rattle.members_dm.proofs.PositionLists.{positions_apart, positions_cover, positions_within}

rising_from_pairs : {X : Type 0} (R : X → X → Type 0) (xs : List X) → AllPairs R xs → IsRising R xs
rising_from_pairs R [] h = tt
rising_from_pairs R (x ∷ xs) h =
    (item_from_all (R x) xs (λ k d l. h 0 (suc k) d (omega arith) (omega arith)), rising_from_pairs R xs (λ i j d a b. h (suc i) (suc j) d (omega arith) (omega arith)))

cells_total : IsTotalOrder (slice_cmp cell_cmp)
cells_total = lists_total (options_total total-law)

-- a hash and cells
Key : Type 0
Key = ℕ × List Cell

hashed_cmp : ℕ × List Cell → ℕ × List Cell → Ordering
hashed_cmp x y = ordering_then (nat_cmp x.0 y.0) (slice_cmp cell_cmp x.1 y.1)

hashed_total : IsTotalOrder (λ (x y : ℕ × List Cell). ordering_then (nat_cmp x.0 y.0) (slice_cmp cell_cmp x.1 y.1))
hashed_total = then_total (on_total (λ (k : ℕ × List Cell). k.0) nat_cmp_total) (on_total (λ (k : ℕ × List Cell). k.1) cells_total)

pub entries_total : (rows : List Row) (places : List ℕ) → IsTotalOrder (entry_cmp rows places)
entries_total rows places = then_total (on_total (λ (x : Entry). x.hash) nat_cmp_total) (then_total (on_total (key_of rows places) cells_total) (on_total (λ (x : Entry). x.row) nat_cmp_total))

pub entries_weak : (rows : List Row) (places : List ℕ) → IsStrictWeakOrder (λ (x y : Entry). is_lt (entry_cmp rows places x y))
entries_weak rows places = ranks_by (entries_total rows places) (λ (x : Entry). x)

pub rising_from_sort : (rows : List Row) (places : List ℕ) (xs : List Entry) → IsSortedBy (λ (x y : Entry). is_lt (entry_cmp rows places x y)) xs → IsRisingBy rows places xs
rising_from_sort rows places xs sorted = λ i j d l m. sorted_far (λ (x y : Entry). is_lt (entry_cmp rows places x y)) (entries_weak rows places) xs sorted i j d l m

pub index_from_sort : (rows : List Row) (places : List ℕ) (before after : List Entry) → AreEntries rows places (length rows) before → AreSorted rows places before after → IsSortedIndexOf rows places after
index_from_sort rows places before after made sorted = record {
  permuted = subst (λ (ps : List ℕ). IsPermutation ps (positions_of after)) made.positions (IsPermutation-map (λ (x : Entry). x.row) before after sorted.moved);
  hashes = All-permutation (λ (x : Entry). x.hash ≡ hash_of (key_of rows places x)) before after sorted.moved made.hashes;
  rising = sorted.rising;
}

-- ---- orders one after the other

not_lt_front : (a b c : Ordering) → is_lt (ordering_then a (ordering_then b c)) ≡ false → is_lt (ordering_then a b) ≡ false
not_lt_front Less b c e = e
not_lt_front Equal Less c e = e
not_lt_front Equal Equal c e = refl
not_lt_front Equal Greater c e = e
not_lt_front Greater b c e = e

equal_front : (a b c : Ordering) → ordering_then a b ≡ Equal → ordering_then a (ordering_then b c) ≡ c
equal_front Less b c e = cc e
equal_front Equal Less c e = cc e
equal_front Equal Equal c e = refl
equal_front Equal Greater c e = cc e
equal_front Greater b c e = cc e

equal_second : (a b : Ordering) → ordering_then a b ≡ Equal → b ≡ Equal
equal_second Less b e = cc e
equal_second Equal b e = e
equal_second Greater b e = cc e

from_is_eq : (r : Ordering) → is_eq r ≡ true → r ≡ Equal
from_is_eq Less e = cc e
from_is_eq Equal e = refl
from_is_eq Greater e = cc e

not_less : (a b : ℕ) → is_lt (nat_cmp b a) ≡ false → a ≤ b
not_less a b e = grind (arith, nat_tests)

-- ---- the entries of one key

module _ (rows : List Row) (places : List ℕ) (xs : List Entry) (index : IsSortedIndexOf rows places xs) (hash : ℕ) (cells : List Cell) where
  key : Entry → ℕ × List Cell
  key x = (x.hash, key_of rows places x)

  keys_rise : (i j : ℕ) (d : Entry) → i ≤ j → j < length xs
      → is_lt (ordering_then (nat_cmp (get_or xs j d).hash (get_or xs i d).hash) (slice_cmp cell_cmp (key_of rows places (get_or xs j d)) (key_of rows places (get_or xs i d)))) ≡ false
  keys_rise i j d l m =
      let x = get_or xs j d in
      let y = get_or xs i d in
      not_lt_front (nat_cmp x.hash y.hash) (slice_cmp cell_cmp (key_of rows places x) (key_of rows places y)) (nat_cmp x.row y.row) (index.rising i j d l m)

  pub parted_before : IsPartitionedBy (is_before rows places hash cells) xs
  parted_before = before_parted hashed_total (λ (x : Entry). (x.hash, key_of rows places x)) xs keys_rise (hash, cells)

  pub parted_not_behind : IsPartitionedBy (is_not_behind rows places hash cells) xs
  parted_not_behind = not_behind_parted hashed_total (λ (x : Entry). (x.hash, key_of rows places x)) xs keys_rise (hash, cells)

  module _ (s : ℕ) (start : IsPartitionPoint (λ x. is_before rows places hash cells x ≡ true) (λ x. is_before rows places hash cells x ≡ false) xs s) where
    ended : (n : ℕ) → EndsAt rows places hash cells xs n → (k : ℕ) (d : Entry) → n ≤ k → k < length xs → is_not_behind rows places hash cells (get_or xs k d) ≡ false
    ended n ends k d l m = elim (cases_Bool (is_not_behind rows places hash cells (get_or xs k d))) [
      | inl t ↦ absurd (both_ways _ (ends d (omega arith)) (parted_not_behind n k d l m t))
      | inr f ↦ f
    ]

    -- where none has the key, and where one has
    pub end_at_start : EndsAt rows places hash cells xs s → IsPartitionPoint (λ x. is_not_behind rows places hash cells x ≡ true) (λ x. is_not_behind rows places hash cells x ≡ false) xs s
    end_at_start ends = ((λ k d l m. lt_le (against rows places hash cells (get_or xs k d)) (start.0 k d l m)), ended s ends)

    pub end_behind_one : GoesOnAt rows places hash cells xs s → EndsAt rows places hash cells xs (s + 1) → IsPartitionPoint (λ x. is_not_behind rows places hash cells x ≡ true) (λ x. is_not_behind rows places hash cells x ≡ false) xs (s + 1)
    end_behind_one goes ends = ((λ k d l m. parted_not_behind k s d (omega arith) goes.0 (goes.1 d)), ended (s + 1) ends)

  module _ (s e : ℕ) (ls : s ≤ length xs) (le : e ≤ length xs)
      (start : IsPartitionPoint (λ x. is_before rows places hash cells x ≡ true) (λ x. is_before rows places hash cells x ≡ false) xs s)
      (end : IsPartitionPoint (λ x. is_not_behind rows places hash cells x ≡ true) (λ x. is_not_behind rows places hash cells x ≡ false) xs e) where
    pub in_order : s ≤ e
    in_order = start_first hashed_total (λ (x : Entry). (x.hash, key_of rows places x)) xs keys_rise (hash, cells) s e ls le start end (record { hash = 0; row = 0 })

    part : List Entry
    part = take (e - s) (drop s xs)

    at : (n : ℕ) (d : Entry) → n < length (take (e - s) (drop s xs)) → (s + n < length xs) × (get_or (take (e - s) (drop s xs)) n d ≡ get_or xs (s + n) d) × (against rows places hash cells (get_or xs (s + n) d) ≡ Equal)
    at = part_at hashed_total (λ (x : Entry). (x.hash, key_of rows places x)) xs keys_rise (hash, cells) s e ls le start end

    has : (x : Entry) → IsIn x (take (e - s) (drop s xs)) ↔ (IsIn x xs × (against rows places hash cells x ≡ Equal))
    has = part_has hashed_total (λ (x : Entry). (x.hash, key_of rows places x)) xs keys_rise (hash, cells) s e ls le start end

    -- two that have one key stand in the order of their positions
    no_lower : (i j : ℕ) (d : Entry) → i ≤ j → j < length xs → against rows places hash cells (get_or xs i d) ≡ Equal → against rows places hash cells (get_or xs j d) ≡ Equal → (get_or xs i d).row ≤ (get_or xs j d).row
    unfolding hashed_cmp
    no_lower i j d l m a b =
        let x = get_or xs i d in
        let y = get_or xs j d in
        let back : hashed_cmp (hash, cells) (x.hash, key_of rows places x) ≡ Equal = hashed_total.antisymm (hash, cells) (x.hash, key_of rows places x) ∙ ap ordering_reverse a in
        let tie : ordering_then (nat_cmp y.hash x.hash) (slice_cmp cell_cmp (key_of rows places y) (key_of rows places x)) ≡ Equal =
        hashed_total.congr (y.hash, key_of rows places y) (hash, cells) (x.hash, key_of rows places x) b ∙ back in
        not_less x.row y.row (sym (ap is_lt (equal_front (nat_cmp y.hash x.hash) (slice_cmp cell_cmp (key_of rows places y) (key_of rows places x)) (nat_cmp y.row x.row) tie)) ∙ index.rising i j d l m)

    row_read : (k : ℕ) (d : Entry) → k < length xs → get_or (positions_of xs) k d.row ≡ (get_or xs k d).row
    row_read k d l = get_or-map (λ (x : Entry). x.row) xs k d d.row l

    rows_rise : AllPairs (λ i j. i < j) (positions_of (take (e - s) (drop s xs)))
    rows_rise i j d l m =
        let few : j < length (take (e - s) (drop s xs)) = subst (λ n. j < n) (length-map (take (e - s) (drop s xs)) (λ (x : Entry). x.row)) m in
        let z : Entry = record { hash = 0; row = d } in
        let a = at i z (omega (arith, few, l)) in
        let b = at j z few in
        let x : get_or (positions_of (take (e - s) (drop s xs))) i d ≡ (get_or xs (s + i) z).row = get_or-map (λ (x : Entry). x.row) (take (e - s) (drop s xs)) i z d (omega (arith, few, l)) ∙ ap (λ (x : Entry). x.row) a.1 in
        let y : get_or (positions_of (take (e - s) (drop s xs))) j d ≡ (get_or xs (s + j) z).row = get_or-map (λ (x : Entry). x.row) (take (e - s) (drop s xs)) j z d few ∙ ap (λ (x : Entry). x.row) b.1 in
        let low : (get_or xs (s + i) z).row ≤ (get_or xs (s + j) z).row = no_lower (s + i) (s + j) z (omega (arith, l)) b.0 a.2 b.2 in
        let apart : (get_or xs (s + i) z).row ≢ (get_or xs (s + j) z).row =
        (λ same. positions_apart (length rows) (positions_of xs) index.permuted (s + i) (s + j) d (omega (arith, l)) (subst (λ n. s + j < n) (sym (length-map xs (λ (x : Entry). x.row))) b.0)
        (row_read (s + i) z a.0 ∙ same ∙ sym (row_read (s + j) z b.0))) in
        omega (arith, x, y, low, apart)

    pub rows_with : hash ≡ hash_of cells → AreRowsWith rows places cells (positions_of (take (e - s) (drop s xs)))
    rows_with hashed = record {
      rising = rising_from_pairs (λ i j. i < j) (positions_of (take (e - s) (drop s xs))) rows_rise;
      exact = λ i. (
        (λ h. let found = IsIn-map (λ (x : Entry). x.row) i (take (e - s) (drop s xs)) h in
            let x = found.0 in
            let among = (has x).0 found.1 in
            let below : x.row < length rows = item_from_all (λ n. n < length rows) (positions_of xs) (positions_within (length rows) (positions_of xs) index.permuted) x.row (map-IsIn (λ (x : Entry). x.row) x xs among.0) in
            let same : key_of rows places x ≡ cells = (keys_decide (key_of rows places x) cells).0 (ap is_eq (equal_second (nat_cmp x.hash hash) (slice_cmp cell_cmp (key_of rows places x) cells) among.1)) in
            subst (IsRowWith rows places cells) found.2 (below, same)),
        (λ h. let found = IsIn-map (λ (x : Entry). x.row) i xs (positions_cover (length rows) (positions_of xs) index.permuted i h.0) in
            let x = found.0 in
            let same : key_of rows places x ≡ cells = ap (λ n. cells_at places (row_at rows n)) found.2 ∙ h.1 in
            let hash_is : x.hash ≡ hash = item_from_all (λ (x : Entry). x.hash ≡ hash_of (key_of rows places x)) xs index.hashes x found.1 ∙ ap hash_of same ∙ sym hashed in
            let tie : against rows places hash cells x ≡ Equal = (λ t. ordering_then (nat_cmp (hash_is t) hash) (slice_cmp cell_cmp (same t) cells)) ∙ tied_itself hashed_total (hash, cells) in
            subst (λ n. IsIn n (positions_of (take (e - s) (drop s xs)))) found.2 (map-IsIn (λ (x : Entry). x.row) x (take (e - s) (drop s xs)) ((has x).1 (found.1, tie)))),
      );
    }

not_gt_le : (r : Ordering) → is_gt r ≡ false → is_le r ≡ true
not_gt_le Less e = refl
not_gt_le Equal e = refl
not_gt_le Greater e = cc e

-- from the entry that was read at the place
module _ (rows : List Row) (places : List ℕ) (xs : List Entry) (hash : ℕ) (cells : List Cell) (place : ℕ) (entry : Entry) (below : place < length xs) (read : entry ≡ get_or xs place entry) where
  pub goes_on_by : is_gt (against rows places hash cells entry) ≡ false → GoesOnAt rows places hash cells xs place
  goes_on_by le = (below, λ d. ap (is_not_behind rows places hash cells) (sym (get_or_read xs place entry below read d)) ∙ not_gt_le (against rows places hash cells entry) le)

-- ---- what stands between two entries of one key has it

module _ (rows : List Row) (places : List ℕ) (xs : List Entry) (index : IsSortedIndexOf rows places xs) where
  hash_at : (k : ℕ) (d : Entry) → k < length xs → (get_or xs k d).hash ≡ hash_of (key_of rows places (get_or xs k d))
  hash_at = index.hashes

  pub key_between : (a n b : ℕ) (d : Entry) → a ≤ n → n ≤ b → b < length xs → key_of rows places (get_or xs a d) ≡ key_of rows places (get_or xs b d)
      → key_of rows places (get_or xs n d) ≡ key_of rows places (get_or xs a d)
  key_between a n b d l m o same =
      let x = get_or xs a d in
      let cells : List Cell = key_of rows places x in
      let hash_b : (get_or xs b d).hash ≡ x.hash = hash_at b d o ∙ ap hash_of (sym same) ∙ sym (hash_at a d (omega (arith, l, m, o))) in
      let at_a : against rows places x.hash (key_of rows places x) x ≡ Equal = tied_itself hashed_total (x.hash, key_of rows places x) in
      let at_b : against rows places x.hash (key_of rows places x) (get_or xs b d) ≡ Equal =
      (λ t. ordering_then (nat_cmp (hash_b t) x.hash) (slice_cmp cell_cmp (sym same t) (key_of rows places x))) ∙ at_a in
      let not_behind : is_not_behind rows places x.hash (key_of rows places x) (get_or xs n d) ≡ true = parted_not_behind rows places xs index x.hash (key_of rows places x) n b d m o (ap is_le at_b) in
      let not_before : is_before rows places x.hash (key_of rows places x) (get_or xs n d) ≡ false =
      elim (cases_Bool (is_before rows places x.hash (key_of rows places x) (get_or xs n d))) [
        | inl t ↦ absurd (both_ways _ (ap is_lt at_a) (parted_before rows places xs index x.hash (key_of rows places x) a n d l (omega (arith, m, o)) t))
        | inr f ↦ f
      ] in
      let tie : against rows places x.hash (key_of rows places x) (get_or xs n d) ≡ Equal = equal_between _ not_before not_behind in
      (keys_decide (key_of rows places (get_or xs n d)) (key_of rows places x)).0 (ap is_eq (equal_second (nat_cmp (get_or xs n d).hash x.hash) (slice_cmp cell_cmp (key_of rows places (get_or xs n d)) (key_of rows places x)) tie))
