-- The rows of a query.
use Rattle.std.specs.Prelude.{◌≡◌, ◌↔◌, ℕ, List, length, map}
use Rattle.members_dm.specs.InOrder.{positions_below}
use Rattle.members_dm.specs.Membership.{IsIn, NoRepeats}
use Rattle.value_dm.specs.declared.value.Value.{Value}
use Rattle.solutions_dm.specs.Columns.{number_at}
use Rattle.solutions_dm.specs.Table.{Table}
use Rattle.query_rows_dm.specs.Numbers.{cell_of}
use Rattle.schema_dm.specs.Naming.{Name}
use Rattle.table_csv.specs.Cells.{Row}
use Rattle.table_csv.specs.Databases.{Data}
use Rattle.algebra_dm.specs.Tuples.{Tuple, IsTuple, IsUnder}
use Rattle.algebra_dm.specs.declared.query.Query.{Query}

-- one of the rows has the tuple's cells under the names
abbrev pub HasUnder : List Name → List Row → Tuple → Type 0
HasUnder names rows w = (row : Row) × IsIn row rows × IsUnder names row w

-- the rows are those of the query's tuples under its attributes in the order of their bytes, each once
pub record AreRows (D : Data) (q : Query) (names : List Name) (rows : List Row) : Type 0 where
  pub exact : (w : Tuple) → HasUnder names rows w ↔ IsTuple D q w
  pub wide : (row : Row) → IsIn row rows → length row ≡ length names
  pub once : NoRepeats rows

-- ---- on the way

-- each row has the cells of the variables' numbers
abbrev pub AreCellsIn : List Value → List (List ℕ) → Table → List Row → Type 0
AreCellsIn values variables rows made = made ≡ map (λ i. map (λ x. cell_of values (number_at rows.columns i x)) variables) (positions_below rows.rows)
