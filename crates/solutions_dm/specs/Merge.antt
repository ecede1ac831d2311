-- The unions of pairs of rows (SPARQL 1.1 Query Language, section 18.3).
use denote.Ref.{Bor}
use Rattle.std.specs.Prelude.{◌≡◌, ◌<◌, ℕ, zero, suc, List, Option, None, Some, All, length, map, slice_get, slice_index}
use Rattle.solutions_dm.specs.declared.row_pair.RowPair.{RowPair}
use Rattle.solutions_dm.specs.Columns.{number_at}
use Rattle.solutions_dm.specs.Table.{Table}

-- the first number, or the second where the first is 0
abbrev pub first_bound : ℕ → ℕ → ℕ
first_bound zero b = b
first_bound (suc a) b = suc a

-- places of rows
abbrev pub AreInRange : Table → Table → List RowPair → Type 0
AreInRange left right ps = All (λ (p : RowPair). (p.left < left.rows) × (p.right < right.rows)) ps

-- the k-th row is the union of the k-th pair
pub record IsMerge (left right : Table) (ps : List RowPair) (merged : Table) : Type 0 where
  pub rows : merged.rows ≡ length ps
  pub each : (k : ℕ) (p : RowPair) → slice_get ps k ≡ Some p → (x : List ℕ) →
      number_at merged.columns k x ≡ first_bound (number_at left.columns p.left x) (number_at right.columns p.right x)

abbrev pub merged : Table → Table → List RowPair → List ℕ → List ℕ
merged left right ps x = map (λ (p : RowPair). first_bound (number_at left.columns p.left x) (number_at right.columns p.right x)) ps

-- the number at a place of a column, or 0 where there is no column
abbrev pub number_in : Option (Bor (List ℕ)) → ℕ → ℕ
number_in None i = 0
number_in (Some numbers) i = slice_index numbers.now i

abbrev pub HasPlace : Option (Bor (List ℕ)) → ℕ → Type 0
HasPlace None i = Unit {0}
HasPlace (Some numbers) i = i < length numbers.now
