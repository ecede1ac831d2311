-- What an index tells of one row.
use Rattle.std.proofs.Common.{◌≡◌, ◌∙◌, ℕ, List, [], ◌∷◌, None, length, refl, sym, subst, inl, arith}
use Rattle.std.specs.Prelude.{◌↔◌}
use Rattle.members_dm.specs.Membership.{IsIn}
use Rattle.schema_dm.specs.declared.table.ForeignKey.{ForeignKey}
use Rattle.table_csv.specs.Cells.{Cell, Row, cells_at}
use Rattle.std.proofs.lemmas.List.{length-map}
use Rattle.keys_dm.specs.Entries.{positions_of}
use Rattle.keys_dm.specs.declared.index.Entry.{Entry}
use Rattle.keys_dm.specs.KeyCells.{AreRowsWith, IsRowWith}
use Rattle.keys_dm.specs.Violations.{IsDangling}

-- a list that isn't empty has an item
no_item : (xs : List ℕ) → ((j : ℕ) → ¬ IsIn j xs) → length xs ≡ 0
no_item [] none = refl
no_item (x ∷ xs) none = absurd (none x (inl refl))

none_in : (xs : List ℕ) (j : ℕ) → length xs ≡ 0 → ¬ IsIn j xs
none_in [] j none h = h
none_in (x ∷ xs) j none h = omega arith

pub dangling_by_index : (targets : List Row) (key : ForeignKey) (row : Row) (cells : List Cell) (positions : List ℕ) → AreRowsWith targets key.target_columns cells positions → cells ≡ cells_at key.columns row
    → ¬ IsIn None cells → (length positions ≡ 0) ↔ IsDangling targets key row
dangling_by_index targets key row cells positions found same whole = (
  (λ none. (
    (λ h. whole (subst (λ (k : List Cell). IsIn None k) (sym same) h)),
    (λ j r. none_in positions j none ((found.exact j).1 (r.0, r.1 ∙ sym same))),
  )),
  (λ dangling. no_item positions (λ j h. let r : IsRowWith targets key.target_columns cells j = (found.exact j).0 h in dangling.1 j (r.0, r.1 ∙ same))),
)

-- ---- the same by the entries that an index gives

as_many : (entries : List Entry) → length (positions_of entries) ≡ length entries
as_many entries = length-map entries (λ (x : Entry). x.row)

pub dangling_by_entries : (targets : List Row) (key : ForeignKey) (row : Row) (entries : List Entry) → AreRowsWith targets key.target_columns (cells_at key.columns row) (positions_of entries)
    → ¬ IsIn None (cells_at key.columns row) → (length entries ≡ 0) ↔ IsDangling targets key row
dangling_by_entries targets key row entries found whole =
    subst (λ n. (n ≡ 0) ↔ IsDangling targets key row) (as_many entries)
    (dangling_by_index targets key row (cells_at key.columns row) (positions_of entries) found refl whole)
