-- The loops that keep rows.
use Rattle.std.proofs.Common.{◌≡◌, ◌∙◌, ◌+◌, ◌-◌, ◌<◌, ◌≤◌, ℕ, zero, suc, Bool, true, false, cond, not, List, [], ◌∷◌, ◌++◌, refl, sym, ap, subst, inl, inr, arith, length, take, get_or, IsTrue}
use Rattle.std.specs.Prelude.{◌↔◌}
use Rattle.std.proofs.lemmas.List.{take_more}
use Rattle.members_dm.specs.Elements.{HasSome}
use Rattle.members_dm.specs.Places.{IsListing, Place}
use Rattle.members_dm.proofs.ElementsLemmas.{split_at_item}
use Rattle.schema_dm.specs.declared.table.Table.{Table}
use Rattle.table_csv.specs.Cells.{AreRowsOf, Row}
use Rattle.table_csv.specs.Databases.{Data, IsDatabase, rows_at}
use Rattle.table_csv.proofs.Zips.{zipped_length}
use Rattle.keys_dm.specs.Adding.{Adds, StandsBelow, StartsBelow}
use Rattle.keys_dm.specs.KeyCells.{row_at}
use Rattle.clean_dm.specs.Kept.{AreNumbered, AreRowsOfPart, IsKept, RowsExist, StandsIn}
use Rattle.clean_dm.specs.Parts.{IsRow}
use Rattle.clean_dm.specs.Removing.{IsChain, IsDue, IsLeft, IsOf}
use Rattle.clean_dm.specs.RowSets.{Gains, Has}
use Rattle.clean_dm.specs.declared.removal.Removal.{Removal}
use Rattle.clean_dm.specs.declared.row_set.RowSet.{RowSet}
use Rattle.keys_dm.proofs.AddingLemmas.{adds_all, adds_if, adds_level}
use Rattle.clean_dm.proofs.DanglingSteps.{still_gone}
use Rattle.clean_dm.proofs.Largest.{gone_before}
use Rattle.keys_dm.proofs.KeyLists.{few_rows}

pub gone_on : (removals : List Removal) (k : ℕ) (d : Removal) (old new : RowSet) → k < length removals → 0 < (get_or removals k d).table → 0 < (get_or removals k d).row → ((t i : ℕ) → Has old t i ↔ HasSome (IsOf t i) (take k removals))
    → Gains old new ((get_or removals k d).table - 1) ((get_or removals k d).row - 1) → (t i : ℕ) → Has new t i ↔ HasSome (IsOf t i) (take (k + 1) removals)
gone_on removals k d old new below table row before gains t i =
    let removal = get_or removals k d in
    let more : take (k + 1) removals ≡ take k removals ++ get_or removals k d ∷ [] = take_more removals k d below in (
      (λ h. subst (λ (rs : List Removal). HasSome (IsOf t i) rs) (sym more) (still_gone (IsOf t i) (take k removals) (get_or removals k d) (elim ((gains.each t i).0 h) [
        | inl was ↦ inl ((before t i).0 was)
        | inr same ↦ (let first = same.0 in let second = same.1 in inr (omega arith, omega arith))
      ]))),
      (λ h. (gains.each t i).1 (elim (gone_before (IsOf t i) (take k removals) (get_or removals k d) (subst (λ (rs : List Removal). HasSome (IsOf t i) rs) more h)) [
        | inl was ↦ inl ((before t i).1 was)
        | inr of_row ↦ (let first = of_row.0 in let second = of_row.1 in inr (omega arith, omega arith))
      ])),
    )

module _ (D : Data) (gone : RowSet) (t : ℕ) where
  abbrev Kept : Place → Row → Type 0
  Kept = StandsIn D (IsKept gone) t

  pub kept_on : (n : ℕ) (row : Row) (has : Bool) (ys zs : List Row) → n < length (rows_at D.rows t) → row ≡ row_at (rows_at D.rows t) n → IsTrue has ↔ Has gone t n → zs ≡ ys ++ cond (not has) (row ∷ []) []
      → Adds (StandsBelow n Kept) [] ys → Adds (StandsBelow (n + 1) Kept) [] zs
  kept_on n row has ys zs below read told whole before =
      adds_level Kept n [] ys zs before (subst (Adds (λ p x. Kept (n ∷ p) x) ys) (sym whole) (adds_if (λ p x. Kept (n ∷ p) x) ys row (not has) exact))
    where
      left_of : (b : Bool) → IsTrue b ↔ Has gone t n → ¬ Has gone t n → not b ≡ true
      left_of true tells none = absurd (none (tells.0 refl))
      left_of false tells none = refl

      not_gone : (b : Bool) → IsTrue b ↔ Has gone t n → not b ≡ true → ¬ Has gone t n
      not_gone true tells e h = (let no : false ≡ true = e in cc)
      not_gone false tells e h = (let no : false ≡ true = tells.1 h in cc)

      exact : (p : Place) (y : Row) → Kept (n ∷ p) y ↔ ((p ≡ []) × (y ≡ row) × (not has ≡ true))
      exact p y = (
        (λ h.
            let places : n ∷ p ≡ h.i ∷ [] = h.stands in
            let same : h.i ≡ n = cc in
            let none : p ≡ [] = cc in
            (none, h.value ∙ ap (row_at (rows_at D.rows t)) same ∙ sym read, left_of has told (subst (λ (i : ℕ). ¬ Has gone t i) same h.in_part))),
        (λ h. record { i = n; stands = ap (λ (q : Place). n ∷ q) h.0; is_row = below; in_part = not_gone has told h.2; value = h.1 ∙ read }),
      )

  pub kept_at_end : (n : ℕ) (ys : List Row) → length (rows_at D.rows t) ≤ n → Adds (StandsBelow n Kept) [] ys → IsListing Kept ys
  kept_at_end n ys whole h =
      let all = adds_all Kept n [] ys (λ p x s. let row : s.i < length (rows_at D.rows t) = s.is_row in subst (StartsBelow n) (sym s.stands) (omega arith)) h in
      subst (IsListing Kept) (sym all.whole) all.listing

pub rows_of_left : (D : Data) (removals : List Removal) (gone : RowSet) (lists : List (List Row)) (n : ℕ) → ((t i : ℕ) → Has gone t i ↔ HasSome (IsOf t i) removals) → length D.tables ≤ n → n ≤ length D.tables → length lists ≡ n
    → ((t : ℕ) → t < n → IsListing (StandsIn D (IsKept gone) t) (rows_at lists t)) → AreRowsOfPart D (IsLeft removals) lists
rows_of_left D removals gone lists n exact low high long each = record {
  many = omega arith;
  each = λ t in_table.
      let listing = each t (omega arith) in
      record {
        placed = listing.placed;
        rising = listing.rising;
        exact = λ p x. (
          (λ h. let s = (listing.exact p x).0 h in record { i = s.i; stands = s.stands; is_row = s.is_row; in_part = λ k. s.in_part ((exact t s.i).1 k); value = s.value }),
          (λ s. (listing.exact p x).1 (record { i = s.i; stands = s.stands; is_row = s.is_row; in_part = λ k. s.in_part ((exact t s.i).0 k); value = s.value })),
        );
        items = listing.items;
      };
}

short : (lists : List (List Row)) (t i : ℕ) → i < length (rows_at lists t) → t < length lists
short [] t i h = absurd (omega arith)
short (x ∷ lists) zero i h = omega arith
short (x ∷ lists) (suc t) i h = (let less = short lists t i h in omega arith)

pub row_within : (D : Data) → IsDatabase D → (t i : ℕ) → IsRow D t i → t < length D.tables
row_within D fits t i h =
    let long = zipped_length (λ (table : Table) (rows : List Row). AreRowsOf table.columns rows) D.tables D.rows fits.rows in
    let less = short D.rows t i h in
    omega arith

pub numbered : (D : Data) (removals : List Removal) → IsDatabase D → RowsExist D removals → AreNumbered removals
numbered D removals fits exist removal among =
    let found = exist removal among in
    let table = found.2.0 in
    let row = found.2.1 in
    let in_table = found.3 in
    let in_row : found.1 < length (rows_at D.rows found.0) = found.4 in
    let few = few_rows D.tables D.rows found.0 fits.rows in
    let few_tables = fits.schema.few in
    (omega arith, omega arith, omega arith, omega arith)

-- the rows of removals that were due exist
pub rows_exist : (D : Data) (removals : List Removal) → IsDatabase D → IsChain (λ made removal. (place : Place) × IsDue D made place removal) removals → RowsExist D removals
rows_exist D removals fits chain removal among =
    let parts = split_at_item removal removals among in
    let due = (chain parts.0 parts.1 removal parts.2).1 in
    (due.t, due.i, due.of_row, row_within D fits due.t due.i due.is_row, due.is_row)
