-- The database of the rows of a lawful part keeps its keys.
use Rattle.std.proofs.Common.{◌≡◌, ◌∙◌, ◌<◌, ℕ, zero, suc, List, [], ◌∷◌, None, refl, sym, ap, subst, inl, inr, arith, length, get_or, map}
use Rattle.std.specs.Prelude.{◌≢◌}
use Rattle.members_dm.specs.Membership.{IsIn, IsRising}
use Rattle.members_dm.specs.Places.{IsEarlier, IsListing, Place, StandsEarlier}
use Rattle.table_csv.specs.Cells.{Row, cells_at}
use Rattle.table_csv.specs.Databases.{Data, rows_at}
use Rattle.keys_dm.specs.KeyCells.{row_at}
use Rattle.keys_dm.specs.Violations.{IsRepeated, KeepsKeys, Violates}
use Rattle.keys_dm.specs.declared.violation.ViolationKind.{ViolationKind}
use Rattle.keys_dm.specs.declared.violation.ViolationKind.TheVariants.{NullKey, RepeatedKey, RepeatedUnique, Dangling}
use Rattle.clean_dm.specs.Kept.{AreRowsOfPart, StandsIn, with_rows}
use Rattle.clean_dm.specs.Parts.{BreaksIn, IsLawfulPart, IsRow}
use Rattle.clean_dm.proofs.RepeatedSteps.{earlier_asym}

module _ {X : Type 0} where
  abbrev pub items : List (Place × X) → List X
  items placed = map (λ (a : Place × X). a.1) placed

  -- the place of the item at an index
  abbrev pub place_of_item : List (Place × X) → ℕ → Place
  place_of_item placed k = get_or (map (λ (a : Place × X). a.0) placed) k []

  stands_at : (placed : List (Place × X)) (k : ℕ) (d : X) → k < length (items placed) → IsIn {X = Place × X} (place_of_item placed k, get_or (items placed) k d) placed
  stands_at [] k d below = absurd (omega arith)
  stands_at (a ∷ placed) zero d below = inl refl
  stands_at (a ∷ placed) (suc k) d below = inr (stands_at placed k d (omega arith))

  index_of : (placed : List (Place × X)) (p : Place) (x d : X) → IsIn {X = Place × X} (p, x) placed → (k : ℕ) × (k < length (items placed)) × (get_or (items placed) k d ≡ x)
  index_of [] p x d h = absurd h
  index_of (a ∷ placed) p x d (inl e) = (0, omega arith, ap (λ (b : Place × X). b.1) e)
  index_of (a ∷ placed) p x d (inr h) = (let found = index_of placed p x d h in let below = found.1 in (suc found.0, omega arith, found.2))

  apart_at : (placed : List (Place × X)) (k j : ℕ) (d : X) → IsRising {X = Place × X} StandsEarlier placed → k < length (items placed) → j < length (items placed) → j ≢ k → place_of_item placed j ≢ place_of_item placed k
  apart_at [] k j d rise below_k below_j apart e = omega arith
  apart_at (a ∷ placed) zero zero d rise below_k below_j apart e = apart refl
  apart_at (a ∷ placed) zero (suc j) d rise below_k below_j apart e =
      let later : IsEarlier a.0 (place_of_item placed j) = rise.0 (place_of_item placed j, get_or (items placed) j d) (stands_at placed j d (omega arith)) in
      let once : IsEarlier a.0 a.0 = subst (IsEarlier a.0) e later in
      earlier_asym a.0 a.0 once once
  apart_at (a ∷ placed) (suc k) zero d rise below_k below_j apart e =
      let later : IsEarlier a.0 (place_of_item placed k) = rise.0 (place_of_item placed k, get_or (items placed) k d) (stands_at placed k d (omega arith)) in
      let once : IsEarlier a.0 a.0 = subst (IsEarlier a.0) (sym e) later in
      earlier_asym a.0 a.0 once once
  apart_at (a ∷ placed) (suc k) (suc j) d rise below_k below_j apart e = apart_at placed k j d rise.1 (omega arith) (omega arith) (λ same. apart (ap (λ n. suc n) same)) e

module _ (D : Data) (IsInPart : ℕ → ℕ → Type 0) (lists : List (List Row)) (kept : AreRowsOfPart D IsInPart lists) (t : ℕ) (in_table : t < length D.tables) where
  abbrev pub listing : IsListing (StandsIn D IsInPart t) (rows_at lists t)
  listing = kept.each t in_table

  -- where a row that is kept stood
  pub stood : (k : ℕ) → k < length (rows_at lists t) → StandsIn D IsInPart t (place_of_item listing.placed k) (row_at (rows_at lists t) k)
  stood k below =
      let low : k < length (items listing.placed) = subst (λ (rows : List Row). k < length rows) listing.items below in
      subst (λ (rows : List Row). StandsIn D IsInPart t (place_of_item listing.placed k) (row_at rows k)) (sym listing.items)
      ((listing.exact (place_of_item listing.placed k) (row_at (items listing.placed) k)).0 (stands_at listing.placed k [] low))

  pub stood_apart : (k j : ℕ) (below_k : k < length (rows_at lists t)) (below_j : j < length (rows_at lists t)) → j ≢ k → (stood j below_j).i ≢ (stood k below_k).i
  stood_apart k j below_k below_j apart e =
      let low_k : k < length (items listing.placed) = subst (λ (rows : List Row). k < length rows) listing.items below_k in
      let low_j : j < length (items listing.placed) = subst (λ (rows : List Row). j < length rows) listing.items below_j in
      apart_at listing.placed k j [] listing.rising low_k low_j apart ((stood j below_j).stands ∙ ap (λ n. n ∷ []) e ∙ sym (stood k below_k).stands)

  -- a row of the part is kept
  pub stands_now : (i : ℕ) → IsRow D t i → IsInPart t i → (k : ℕ) × (k < length (rows_at lists t)) × (row_at (rows_at lists t) k ≡ row_at (rows_at D.rows t) i)
  stands_now i is_row in_part =
      let among = (listing.exact (i ∷ []) (row_at (rows_at D.rows t) i)).1 (record { i = i; stands = refl; is_row = is_row; in_part = in_part; value = refl }) in
      let found = index_of listing.placed (i ∷ []) (row_at (rows_at D.rows t) i) [] among in
      (found.0, subst (λ (rows : List Row). found.0 < length rows) (sym listing.items) found.1, ap (λ (rows : List Row). row_at rows found.0) listing.items ∙ found.2)

  repeated_before : (k : ℕ) (below : k < length (rows_at lists t)) (places : List ℕ) → IsRepeated (rows_at lists t) places k → IsRepeated (rows_at D.rows t) places (stood k below).i
  repeated_before k below places h =
      let here = stood k below in
      let other = stood h.1.0 h.1.2.0 in (
        subst (λ (row : Row). ¬ IsIn None (cells_at places row)) here.value h.0,
        (other.i, stood_apart k h.1.0 below h.1.2.0 h.1.1, (other.is_row, ap (cells_at places) (sym other.value) ∙ h.1.2.1 ∙ ap (cells_at places) here.value)),
      )

module _ (D : Data) (IsInPart : ℕ → ℕ → Type 0) (lists : List (List Row)) (kept : AreRowsOfPart D IsInPart lists) (within : (u j : ℕ) → IsRow D u j → u < length D.tables) (t k : ℕ) (in_table : t < length D.tables) (in_row : k < length (rows_at lists t)) where
  abbrev here : StandsIn D IsInPart t (place_of_item (kept.each t in_table).placed k) (row_at (rows_at lists t) k)
  here = stood D IsInPart lists kept t in_table k in_row

  broken_before : (kind : ViolationKind) → Violates (with_rows D lists) t k kind → BreaksIn IsInPart D t here.i kind
  broken_before NullKey v = (v.0, v.1, subst (λ (row : Row). IsIn None (cells_at v.0 row)) here.value v.2)
  broken_before RepeatedKey v = (v.0, v.1, repeated_before D IsInPart lists kept t in_table k in_row v.0 v.2)
  broken_before (RepeatedUnique number) v = (v.0, v.1, repeated_before D IsInPart lists kept t in_table k in_row v.0 v.2)
  broken_before (Dangling number) v = (
    v.0,
    v.1,
    (
      subst (λ (row : Row). ¬ IsIn None (cells_at v.0.columns row)) here.value v.2.0,
      (λ j inside r.
          let now = stands_now D IsInPart lists kept v.0.target (within v.0.target j r.0) j r.0 inside in
          v.2.1 now.0 (now.1, ap (cells_at v.0.target_columns) now.2 ∙ r.1 ∙ ap (cells_at v.0.columns) (sym here.value))),
    ),
  )

  not_broken : IsLawfulPart D IsInPart → (kind : ViolationKind) → ¬ Violates (with_rows D lists) t k kind
  not_broken lawful kind h = lawful t here.i kind here.is_row here.in_part (broken_before kind h)

pub kept_keeps : (D : Data) (IsInPart : ℕ → ℕ → Type 0) (lists : List (List Row)) → AreRowsOfPart D IsInPart lists → IsLawfulPart D IsInPart → ((u j : ℕ) → IsRow D u j → u < length D.tables) → KeepsKeys (with_rows D lists)
kept_keeps D IsInPart lists kept lawful within t k kind in_table in_row h = not_broken D IsInPart lists kept within t k in_table in_row lawful kind h
