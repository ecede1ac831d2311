-- Removing the rows that violate primary and unique keys.
use Rattle.std.proofs.Common.{◌≡◌, ◌∙◌, ◌⊎◌, ◌+◌, ◌<◌, ◌≤◌, ◌-◌, ℕ, zero, suc, Bool, true, false, List, [], ◌∷◌, ◌++◌, refl, sym, ap, subst, inl, inr, arith, length, take, get_or, map}
use Rattle.std.specs.Prelude.{◌↔◌}
use Rattle.std.specs.BTreeSet.{contains}
use Rattle.std.proofs.lemmas.List.{take_all}
use Rattle.members_dm.specs.Membership.{IsIn, IsRising}
use Rattle.members_dm.specs.Places.{IsEarlier, IsListing, Place, StandsEarlier}
use Rattle.table_csv.specs.Databases.{Data, IsDatabase, rows_at}
use Rattle.keys_dm.specs.Violations.{Violates, ViolatesAt, place_of}
use Rattle.keys_dm.specs.declared.violation.Violation.{Violation}
use Rattle.keys_dm.specs.declared.violation.ViolationKind.{ViolationKind}
use Rattle.keys_dm.specs.declared.violation.ViolationKind.TheVariants.{NullKey, RepeatedKey, RepeatedUnique, Dangling}
use Rattle.clean_dm.specs.Parts.{BreaksIn}
use Rattle.clean_dm.specs.Removing.{IsDue, IsLeft, IsNext, IsOf, turn_of}
use Rattle.clean_dm.specs.RowSets.{Has, Loses, pair_cmp}
use Rattle.clean_dm.specs.Working.{AreRows, IsSameState, IsUnderWay, IsWithinLimits, KeepsUnique}
use Rattle.clean_dm.specs.declared.removal.Removal.{Removal}
use Rattle.clean_dm.specs.declared.row_set.RowSet.{RowSet}
use Rattle.clean_dm.proofs.DanglingSteps.{way_on}
use Rattle.keys_dm.proofs.KeyLists.{few_rows}
use Rattle.clean_dm.proofs.ReferenceLemmas.{of_more}

-- the rows of those violations that were gone through, of primary and unique keys, aren't left
pub record WhileRepeated (D : Data) (removals : List Removal) (left : RowSet) (past : List Violation) : Type 0 where
  pub way : IsUnderWay D removals left
  pub rows : AreRows D left
  pub gone : (violation : Violation) (t i : ℕ) → IsIn violation past → turn_of violation.kind ≡ 0 → violation.table ≡ t + 1 → violation.row ≡ i + 1 → ¬ Has left t i

-- ---- places

pub earlier_asym : (p q : Place) → IsEarlier p q → ¬ IsEarlier q p
earlier_asym [] q h k = h
earlier_asym (a ∷ p) [] h k = h
earlier_asym (a ∷ p) (b ∷ q) (inl less) (inl more) = omega arith
earlier_asym (a ∷ p) (b ∷ q) (inl less) (inr same) = (let e = same.0 in omega arith)
earlier_asym (a ∷ p) (b ∷ q) (inr same) (inl more) = (let e = same.0 in omega arith)
earlier_asym (a ∷ p) (b ∷ q) (inr same) (inr other) = earlier_asym p q same.1 other.1

module _ {X : Type 0} where
  abbrev pub items : List (Place × X) → List X
  items placed = map (λ (a : Place × X). a.1) placed

  -- what stands earlier than the item at an index is before it
  abbrev pub StandsAfter : List (Place × X) → ℕ → X → Place → Type 0
  StandsAfter placed k x p = IsIn {X = Place × X} (p, x) placed × ((q : Place) (y : X) → IsIn {X = Place × X} (q, y) placed → IsEarlier q p → IsIn y (take k (items placed)))

  pub place_at : (placed : List (Place × X)) (k : ℕ) (x : X) → IsRising {X = Place × X} StandsEarlier placed → k < length (items placed) → x ≡ get_or (items placed) k x → (p : Place) × StandsAfter placed k x p
  place_at [] k x rise below is = absurd (omega arith)
  place_at (a ∷ placed) zero x rise below is = (a.0, (inl (let same : a.1 ≡ x = sym is in λ z. (a.0, same z)), first))
    where
      first : (q : Place) (y : X) → IsIn {X = Place × X} (q, y) (a ∷ placed) → IsEarlier q a.0 → IsIn y (take zero (items (a ∷ placed)))
      first q y (inl e) h = absurd (let same : a.0 ≡ q = ap (λ (b : Place × X). b.0) e in let once : IsEarlier q q = subst (IsEarlier q) same h in earlier_asym q q once once)
      first q y (inr k) h = absurd (earlier_asym q a.0 h (rise.0 (q, y) k))
  place_at (a ∷ placed) (suc k) x rise below is = further (place_at placed k x rise.1 (omega arith) is)
    where
      further : ((p : Place) × StandsAfter placed k x p) → (p : Place) × StandsAfter (a ∷ placed) (suc k) x p
      further found = (found.0, (inr found.1.0, before))
        where
          before : (q : Place) (y : X) → IsIn {X = Place × X} (q, y) (a ∷ placed) → IsEarlier q found.0 → IsIn y (take (suc k) (items (a ∷ placed)))
          before q y (inl e) h = inl (ap (λ (b : Place × X). b.1) e)
          before q y (inr j) h = inr (found.1.1 q y j h)

  pub item_placed : (placed : List (Place × X)) (p : Place) (x : X) → IsIn {X = Place × X} (p, x) placed → IsIn x (items placed)
  item_placed [] p x h = absurd h
  item_placed (a ∷ placed) p x (inl e) = inl (ap (λ (b : Place × X). b.1) e)
  item_placed (a ∷ placed) p x (inr h) = inr (item_placed placed p x h)

-- ---- the first violation of a row that is left

pub own_breaks : (D : Data) (IsInPart : ℕ → ℕ → Type 0) (t i : ℕ) (kind : ViolationKind) → turn_of kind ≡ 0 → Violates D t i kind → BreaksIn IsInPart D t i kind
own_breaks D IsInPart t i NullKey own h = h
own_breaks D IsInPart t i RepeatedKey own h = h
own_breaks D IsInPart t i (RepeatedUnique number) own h = h
own_breaks D IsInPart t i (Dangling number) own h = absurd (omega arith)

own_violates : (D : Data) (IsInPart : ℕ → ℕ → Type 0) (t i : ℕ) (kind : ViolationKind) → turn_of kind ≡ 0 → BreaksIn IsInPart D t i kind → Violates D t i kind
own_violates D IsInPart t i NullKey own h = h
own_violates D IsInPart t i RepeatedKey own h = h
own_violates D IsInPart t i (RepeatedUnique number) own h = h
own_violates D IsInPart t i (Dangling number) own h = absurd (omega arith)

turn_low : (kind : ViolationKind) → (turn_of kind ≡ 0) ⊎ (turn_of kind ≡ 1)
turn_low NullKey = inl refl
turn_low RepeatedKey = inl refl
turn_low (RepeatedUnique number) = inl refl
turn_low (Dangling number) = inr refl

-- a violation stands in the listing
listed_violation : (D : Data) (t i : ℕ) (kind : ViolationKind) → t < length D.tables → i < length (rows_at D.rows t) → Violates D t i kind → ViolatesAt D (t ∷ i ∷ place_of kind) (record { table = t + 1; row = i + 1; kind = kind })
listed_violation D t i kind in_table in_row h = record { t = t; i = i; rest = place_of kind; in_table = in_table; in_row = in_row; stands = refl; violates = record { broken = h; table = refl; row = refl; stands = refl } }

module _ (D : Data) (removals : List Removal) (left : RowSet) (found : List Violation) (k : ℕ) (violation : Violation) (listing : IsListing (ViolatesAt D) found) (below : k < length found) (is : violation ≡ get_or found k violation)
    (before : WhileRepeated D removals left (take k found)) where
  pub here : (p : Place) × StandsAfter listing.placed k violation p
  here = place_at listing.placed k violation listing.rising (subst (λ (xs : List Violation). k < length xs) listing.items below) (subst (λ (xs : List Violation). violation ≡ get_or xs k violation) listing.items is)

  pub at : ViolatesAt D here.0 violation
  at = (listing.exact here.0 violation).0 here.1.0

  pub of_row : IsOf at.t at.i (record { table = violation.table; row = violation.row; kind = violation.kind })
  of_row = (at.violates.table, at.violates.row)

  pub next_repeated : turn_of violation.kind ≡ 0 → Has left at.t at.i → IsNext D removals (record { table = violation.table; row = violation.row; kind = violation.kind })
  next_repeated own there = record {
    place = turn_of violation.kind ∷ at.t ∷ at.i ∷ place_of violation.kind;
    due = record {
      t = at.t;
      i = at.i;
      of_row = of_row;
      is_row = at.in_row;
      left = ((before.way.exact at.t at.i).0 there).1;
      breaks = own_breaks D (IsLeft removals) at.t at.i violation.kind own at.violates.broken;
      stands = refl;
    };
    first = λ other_place other due earlier. by other due (turn_low other.kind) (subst (λ (p : Place). IsEarlier p (turn_of violation.kind ∷ at.t ∷ at.i ∷ place_of violation.kind)) due.stands earlier);
  }
    where
      place_is : at.t ∷ at.i ∷ place_of violation.kind ≡ here.0
      place_is = ap (λ (q : Place). at.t ∷ at.i ∷ q) (sym at.violates.stands) ∙ sym at.stands

      by : {other_place : Place} (other : Removal) (due : IsDue D removals other_place other) → (turn_of other.kind ≡ 0) ⊎ (turn_of other.kind ≡ 1) → ¬ IsEarlier (turn_of other.kind ∷ due.t ∷ due.i ∷ place_of other.kind) (turn_of violation.kind ∷ at.t ∷ at.i ∷ place_of violation.kind)
      by other due (inr late) (inl less) = omega arith
      by other due (inr late) (inr same) = (let e = same.0 in omega arith)
      by other due (inl first) (inl less) = omega arith
      by other due (inl first) (inr same) =
          let there_left : Has left due.t due.i = (before.way.exact due.t due.i).1 (due.is_row, due.left) in
          let other_at = listed_violation D due.t due.i other.kind (before.rows due.t due.i there_left).0 due.is_row (own_violates D (IsLeft removals) due.t due.i other.kind first due.breaks) in
          let other_in = (listing.exact (due.t ∷ due.i ∷ place_of other.kind) (record { table = due.t + 1; row = due.i + 1; kind = other.kind })).1 other_at in
          let past = here.1.1 (due.t ∷ due.i ∷ place_of other.kind) (record { table = due.t + 1; row = due.i + 1; kind = other.kind }) other_in (subst (IsEarlier (due.t ∷ due.i ∷ place_of other.kind)) place_is same.1) in
          before.gone (record { table = due.t + 1; row = due.i + 1; kind = other.kind }) due.t due.i (subst (λ (xs : List Violation). IsIn (record { table = due.t + 1; row = due.i + 1; kind = other.kind }) (take k xs)) (sym listing.items) past) first refl refl there_left

  pub within_limits : IsDatabase D → IsWithinLimits violation
  within_limits fits =
      let few_tables = fits.schema.few in
      let few = few_rows D.tables D.rows at.t fits.rows in
      let table : violation.table ≡ at.t + 1 = at.violates.table in
      let row : violation.row ≡ at.i + 1 = at.violates.row in
      let in_table = at.in_table in
      let in_row : at.i < length (rows_at D.rows at.t) = at.in_row in
      record { table_from_1 = omega arith; few_tables = omega arith; row_from_1 = omega arith; few_rows = omega arith }

  less_one : (a b : ℕ) → a ≡ b + 1 → a - 1 ≡ b
  less_one a b e = omega arith

  has_at : Has left (violation.table - 1) (violation.row - 1) ↔ Has left at.t at.i
  has_at =
      let table = less_one violation.table at.t at.violates.table in
      let row = less_one violation.row at.i at.violates.row in (
        (λ h. subst {A = ℕ × ℕ} (λ (q : ℕ × ℕ). Has left q.0 q.1) (λ z. (table z, row z)) h),
        (λ h. subst {A = ℕ × ℕ} (λ (q : ℕ × ℕ). Has left q.0 q.1) (sym {A = ℕ × ℕ} (λ z. (table z, row z))) h),
      )

  module _ (new_removals : List Removal) (new_left : RowSet)
      (unchanged : (turn_of violation.kind ≡ 0 → ¬ Has left (violation.table - 1) (violation.row - 1)) → IsSameState removals left new_removals new_left)
      (removed : turn_of violation.kind ≡ 0 → Has left (violation.table - 1) (violation.row - 1) → (new_removals ≡ removals ++ (record { table = violation.table; row = violation.row; kind = violation.kind }) ∷ []) × Loses left new_left (violation.table - 1) (violation.row - 1)) where
    stays : (turn_of violation.kind ≡ 0 → ¬ Has left at.t at.i) → WhileRepeated D new_removals new_left (take (k + 1) found)
    stays none =
        let state = unchanged (λ own h. none own (has_at.0 h)) in
        record {
          way = record {
            chain = subst (λ (rs : List Removal). (front after : List Removal) (removal : Removal) → rs ≡ front ++ removal ∷ after → IsNext D front removal) (sym state.0) before.way.chain;
            exact = λ t i. (
              (λ h. subst (λ (rs : List Removal). (i < length (rows_at D.rows t)) × IsLeft rs t i) (sym state.0) ((before.way.exact t i).0 ((state.1 t i).0 h))),
              (λ h. (state.1 t i).1 ((before.way.exact t i).1 (subst (λ (rs : List Removal). (i < length (rows_at D.rows t)) × IsLeft rs t i) state.0 h))),
            );
          };
          rows = λ t i h. before.rows t i ((state.1 t i).0 h);
          gone = λ v t i among own table row h. elim (of_more found k violation v below is among) [
            | inl past ↦ before.gone v t i past own table row ((state.1 t i).0 h)
            | inr e ↦ none (subst (λ (w : Violation). turn_of w.kind ≡ 0) (sym e) own) (same_row v t i e table row ((state.1 t i).0 h))
          ];
        }
      where
        same_row : (v : Violation) (t i : ℕ) → violation ≡ v → v.table ≡ t + 1 → v.row ≡ i + 1 → Has left t i → Has left at.t at.i
        same_row v t i e table row h =
            let first : violation.table ≡ at.t + 1 = at.violates.table in
            let second : violation.row ≡ at.i + 1 = at.violates.row in
            let third : violation.table ≡ v.table = ap (λ (w : Violation). w.table) e in
            let fourth : violation.row ≡ v.row = ap (λ (w : Violation). w.row) e in
            let one : t ≡ at.t = omega arith in
            let two : i ≡ at.i = omega arith in
            subst {A = ℕ × ℕ} (λ (q : ℕ × ℕ). Has left q.0 q.1) (λ z. (one z, two z)) h

    goes : turn_of violation.kind ≡ 0 → Has left at.t at.i → WhileRepeated D new_removals new_left (take (k + 1) found)
    goes own there =
        let removal : Removal = record { table = violation.table; row = violation.row; kind = violation.kind } in
        let state = removed own (has_at.1 there) in
        let table : violation.table - 1 ≡ at.t = less_one violation.table at.t at.violates.table in
        let row : violation.row - 1 ≡ at.i = less_one violation.row at.i at.violates.row in
        let loses : Loses left new_left at.t at.i = subst {A = ℕ × ℕ} (λ (q : ℕ × ℕ). Loses left new_left q.0 q.1) (λ z. (table z, row z)) state.1 in
        record {
          way = subst (λ (rs : List Removal). IsUnderWay D rs new_left) (sym state.0) (way_on D removals removal left new_left at.t at.i before.way (next_repeated own there) of_row loses);
          rows = λ t i h. before.rows t i ((loses.each t i).0 h).0;
          gone = λ v t i among own_v v_table v_row h. elim (of_more found k violation v below is among) [
            | inl past ↦ before.gone v t i past own_v v_table v_row ((loses.each t i).0 h).0
            | inr e ↦
                (let first : violation.table ≡ at.t + 1 = at.violates.table in
                let second : violation.row ≡ at.i + 1 = at.violates.row in
                let third : violation.table ≡ v.table = ap (λ (w : Violation). w.table) e in
                let fourth : violation.row ≡ v.row = ap (λ (w : Violation). w.row) e in
                ((loses.each t i).0 h).1 (same_one first third v_table, same_one second fourth v_row))
          ];
        }
      where
        same_one : {a b c d : ℕ} → a ≡ b + 1 → a ≡ c → c ≡ d + 1 → d ≡ b
        same_one {a} {b} {c} {d} e f g = omega arith

    by_left : (b : Bool) → contains pair_cmp left.pairs (at.t, at.i) ≡ b → WhileRepeated D new_removals new_left (take (k + 1) found)
    unfolding Has
    by_left false e = stays (λ own h. let no : false ≡ true = sym e ∙ h in cc)
    by_left true e = elim (turn_low violation.kind) [ inl own ↦ goes own e | inr late ↦ stays (λ own h. let one : turn_of violation.kind ≡ 1 = late in omega arith) ]

    pub repeated_on : WhileRepeated D new_removals new_left (take (k + 1) found)
    repeated_on = by_left (contains pair_cmp left.pairs (at.t, at.i)) refl

pub unique_at_end : (D : Data) (removals : List Removal) (left : RowSet) (found : List Violation) (k : ℕ) → IsListing (ViolatesAt D) found → length found ≤ k → WhileRepeated D removals left (take k found) → KeepsUnique D left
unique_at_end D removals left found k listing whole h t i kind there own violates =
    let rows = h.rows t i there in
    let at = listed_violation D t i kind rows.0 rows.1 violates in
    let among = item_placed listing.placed (t ∷ i ∷ place_of kind) (record { table = t + 1; row = i + 1; kind = kind }) ((listing.exact (t ∷ i ∷ place_of kind) (record { table = t + 1; row = i + 1; kind = kind })).1 at) in
    h.gone (record { table = t + 1; row = i + 1; kind = kind }) t i (subst (λ (xs : List Violation). IsIn (record { table = t + 1; row = i + 1; kind = kind }) xs) (sym listing.items ∙ sym (take_all k found whole)) among) own refl refl there

pub repeated_at_first : (D : Data) (removals : List Removal) (left : RowSet) (found : List Violation) → IsUnderWay D removals left → AreRows D left → WhileRepeated D removals left (take 0 found)
repeated_at_first D removals left found way rows = record { way = way; rows = rows; gone = λ v t i among. absurd among }
