-- Rows that share a key have gone, so a row that is left has its key alone.
use Rattle.std.proofs.Common.{◌≡◌, ◌∙◌, ◌+◌, ◌<◌, ◌≤◌, ℕ, List, [], ◌∷◌, None, Some, length, refl, sym, subst, inl, inr, arith}
use Rattle.std.specs.Prelude.{slice_get}
use Rattle.std.proofs.lemmas.Bool.Decides.{eqb_tells}
use Rattle.members_dm.specs.Membership.{IsIn}
use Rattle.members_dm.proofs.ElementsLemmas.{index_of_item}
use Rattle.schema_dm.specs.Schemas.{IsForeignKey, IsUniqueKey, table_at}
use Rattle.schema_dm.specs.declared.table.ForeignKey.{ForeignKey}
use Rattle.table_csv.specs.Cells.{Cell, cells_at}
use Rattle.table_csv.specs.Databases.{Data, rows_at}
use Rattle.keys_dm.specs.KeyCells.{AreRowsWith, IsRowWith, row_at}
use Rattle.keys_dm.specs.Violations.{IsRepeated}
use Rattle.keys_dm.proofs.OneMatch.{no_null, same_cells}
use Rattle.keys_dm.specs.declared.violation.ViolationKind.TheVariants.{RepeatedKey, RepeatedUnique}
use Rattle.clean_dm.specs.RowSets.{Has}
use Rattle.clean_dm.specs.Working.{IsLone, KeepsUnique}
use Rattle.clean_dm.specs.declared.row_set.RowSet.{RowSet}

module _ (D : Data) (left : RowSet) (unique : KeepsUnique D left) where
  not_repeated : (t i : ℕ) (places : List ℕ) → Has left t i → IsUniqueKey (table_at D.tables t) places → ¬ IsRepeated (rows_at D.rows t) places i
  not_repeated t i places there (inl primary) repeated = unique t i RepeatedKey there refl (places, primary, repeated)
  not_repeated t i places there (inr among) repeated =
      let found : (k : ℕ) × (k < length (table_at D.tables t).uniques) × (slice_get (table_at D.tables t).uniques k ≡ Some places) = index_of_item places (table_at D.tables t).uniques among in
      unique t i (RepeatedUnique (found.0 + 1)) there refl (places, (found.0, refl, found.2), repeated)

  pub lone_rows : (t : ℕ) (key : ForeignKey) (cells : List Cell) (positions : List ℕ) → IsForeignKey D.tables (table_at D.tables t) key → AreRowsWith (rows_at D.rows key.target) key.target_columns cells positions → ¬ IsIn None cells
      → IsLone (Has left key.target) positions
  lone_rows t key cells positions lawful found whole = record {
    rising = found.rising;
    alone = λ i j h k there.
        let targets = rows_at D.rows key.target in
        let one : IsRowWith targets key.target_columns cells i = (found.exact i).0 h in
        let other : IsRowWith targets key.target_columns cells j = (found.exact j).0 k in
        elim (eqb_tells j i) [
          | inl e ↦ e.1
          | inr e ↦
              (let whole_row : ¬ IsIn None (cells_at key.target_columns (row_at targets i)) = subst (λ (cs : List Cell). ¬ IsIn None cs) (sym one.1) whole in
              let same = same_cells key.target_columns lawful.unique.0 (row_at targets j) (row_at targets i) lawful.unique.2 (other.1 ∙ sym one.1) in
              absurd (not_repeated key.target i lawful.unique.0 there lawful.unique.1 (no_null key.target_columns lawful.unique.0 (row_at targets i) lawful.unique.2 whole_row, (j, e.1, (other.0, same)))))
        ];
  }

-- where two rows or more share a key none is left
pub not_lone : (P : ℕ → Type 0) (positions : List ℕ) → IsLone P positions → 2 ≤ length positions → ¬ ((j : ℕ) × IsIn j positions × P j)
not_lone P [] lone many h = omega arith
not_lone P (a ∷ []) lone many h = omega arith
not_lone P (a ∷ b ∷ rest) lone many h =
    let less : a < b = lone.rising.0 b (inl refl) in
    let first : a ≡ h.0 = lone.alone h.0 a h.1 (inl refl) h.2 in
    let second : b ≡ h.0 = lone.alone h.0 b h.1 (inr (inl refl)) h.2 in
    omega arith
