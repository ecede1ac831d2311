-- The cells of a record's fields, put at the places of their columns.
use Rattle.std.proofs.Common.{◌≡◌, ◌≢◌, ◌+◌, ◌<◌, ◌≤◌, ◌∙◌, ℕ, zero, suc, List, [], ◌∷◌, Some, length, get_or, set, refl, ap, sym, arith, below_more}
use Rattle.std.specs.Prelude.{option_map}
use Rattle.std.specs.List.{slice_get}
use Rattle.std.proofs.lemmas.List.{length-map, length-set, get_or-map}
use Rattle.std.proofs.lemmas.Option.{slice_get-get_or, slice_get-map, slice_get_within, get_or_from_slice_get}
use Rattle.members_dm.proofs.ElementsLemmas.{item_within, item_at_index}
use Rattle.schema_dm.specs.declared.draft.Column.{Column}
use Rattle.value_dm.specs.declared.mode.NullMode.{NullMode}
use Rattle.table_csv.specs.Cells.{Cell, Row}
use Rattle.table_csv.specs.TableFiles.{HasFieldFault, IsFieldFault, IsFieldOf, IsGoodField, IsRecordFault, Record, SpellsCell, SpellsRow, name_field}
use Rattle.table_csv.specs.Headers.{IsOrder, header_of, field_at}
use Rattle.table_csv.specs.Reading.{IsRowFault, OrMemory}
use Rattle.table_csv.specs.declared.fault.TableError.{TableError}
use Rattle.table_csv.specs.declared.fault.TableError.TheVariants as fault
use Rattle.table_csv.proofs.Distinct.{one_place}
use Rattle.table_csv.proofs.HeaderLemmas.{one_column}

-- the field at the place stands for the cell of its column
pub record IsPlaced (columns : List Column) (mode : NullMode) (fields : Record) (order : List ℕ) (cells : Row) (k : ℕ) : Type 0 where
  pub column : Column
  pub field : List ℕ
  pub cell : Cell
  pub column_is : slice_get columns (get_or order k 0) ≡ Some column
  pub here : slice_get fields k ≡ Some field
  pub cell_is : slice_get cells (get_or order k 0) ≡ Some cell
  pub spells : SpellsCell mode column field cell

-- the fields before the place stand for cells, and the cells stand at the places of their columns
pub record CellsSoFar (columns : List Column) (mode : NullMode) (fields : Record) (order : List ℕ) (i : ℕ) (cells : Row) : Type 0 where
  pub size : length cells ≡ length columns
  pub each : (k : ℕ) → k < i → IsPlaced columns mode fields order cells k

pub cells_none : (columns : List Column) (mode : NullMode) (fields : Record) (order : List ℕ) (cells : Row) → length cells ≡ length columns → CellsSoFar columns mode fields order 0 cells
cells_none columns mode fields order cells size = record { size = size; each = λ k lt. absurd (omega arith) }

kept : (cells : Row) (p q : ℕ) (cell other : Cell) → p ≢ q → slice_get cells p ≡ Some cell → slice_get (set cells q other) p ≡ Some cell
kept [] p q cell other ne e = cc e
kept (c ∷ cs) zero zero cell other ne e = absurd (ne refl)
kept (c ∷ cs) zero (suc q) cell other ne e = e
kept (c ∷ cs) (suc p) zero cell other ne e = e
kept (c ∷ cs) (suc p) (suc q) cell other ne e = kept cs p q cell other (λ same. ne (ap suc same)) e

written : (cells : Row) (q : ℕ) (cell : Cell) → q < length cells → slice_get (set cells q cell) q ≡ Some cell
written [] q cell lt = absurd (omega arith)
written (c ∷ cs) zero cell lt = refl
written (c ∷ cs) (suc q) cell lt = written cs q cell (omega arith)

pub order_place : (columns : List Column) (order : List ℕ) → IsOrder columns order → (k : ℕ) → k < length order → get_or order k 0 < length columns
order_place columns order h k lt = h.within (get_or order k 0) (item_within order k 0 lt)

pub cells_more : (columns : List Column) (mode : NullMode) (fields : Record) (order : List ℕ) (i place : ℕ) (cells : Row) (column : Column) (field : List ℕ) (cell : Cell)
    → IsOrder columns order → i < length order → place ≡ get_or order i 0 → column ≡ get_or columns place column → slice_get fields i ≡ Some field → SpellsCell mode column field cell
    → CellsSoFar columns mode fields order i cells → CellsSoFar columns mode fields order (i + 1) (set cells place cell)
cells_more columns mode fields order i place cells column field cell o lt at is here spells h =
    let within : place < length columns = let w = order_place columns order o i lt in rw at w in
    let size = h.size in
    record {
      size = length-set {A = Cell} cells place cell ∙ h.size;
      each = below_more _ i
          (λ k below. let was = h.each k below in record {
            column = was.column;
            field = was.field;
            cell = was.cell;
            column_is = was.column_is;
            here = was.here;
            cell_is = kept cells (get_or order k 0) place was.cell cell
                (λ same. let e = one_place order k i 0 o.once (omega arith) lt (same ∙ at) in omega arith) was.cell_is;
            spells = was.spells;
          })
          (record {
            column = column;
            field = field;
            cell = cell;
            column_is = rw (← at) (slice_get-get_or columns place column within ∙ ap (λ (c : Column). Some c) (sym is));
            here = here;
            cell_is = rw (← at) (written cells place cell (omega arith));
            spells = spells;
          });
    }

-- the header names the column at its place
named_at : (columns : List Column) (order : List ℕ) (k : ℕ) (column : Column) → k < length order → slice_get columns (get_or order k 0) ≡ Some column
    → slice_get (header_of columns order) k ≡ Some (name_field column)
named_at columns order k column lt e =
    slice_get-map (field_at columns) order k ∙ (ap (option_map (field_at columns)) (slice_get-get_or order k 0 lt)
    ∙ ap (λ (n : List ℕ). Some n) (get_or-map name_field columns (get_or order k 0) column [] (slice_get_within columns (get_or order k 0) column e) ∙ ap name_field (get_or_from_slice_get columns (get_or order k 0) column column e)))

-- the field at the place is that of the column there
pub field_of : (columns : List Column) (fields : Record) (order : List ℕ) (k place : ℕ) (column : Column) (field : List ℕ) → IsOrder columns order → k < length order → place ≡ get_or order k 0
    → column ≡ get_or columns place column → slice_get fields k ≡ Some field → IsFieldOf columns (header_of columns order) fields k column field
field_of columns fields order k place column field o lt at is here =
    let within : place < length columns = let w = order_place columns order o k lt in rw at w in
    let there : slice_get columns place ≡ Some column = slice_get-get_or columns place column within ∙ ap (λ (c : Column). Some c) (sym is) in
    record {
      declared = item_at_index column columns place there;
      named = named_at columns order k column lt (rw at at there);
      here = here;
    }

good_field : (columns : List Column) (mode : NullMode) (fields : Record) (order : List ℕ) (cells : Row) (k : ℕ) → k < length order → IsPlaced columns mode fields order cells k
    → IsGoodField columns mode (header_of columns order) fields k
good_field columns mode fields order cells k lt h = record {
  column = h.column;
  field = h.field;
  cell = h.cell;
  is_field = record { declared = item_at_index h.column columns (get_or order k 0) h.column_is; named = named_at columns order k h.column lt h.column_is; here = h.here };
  spells = h.spells;
}

-- the first field that stands for no cell
pub field_fault : (columns : List Column) (mode : NullMode) (fields : Record) (order : List ℕ) (i place number : ℕ) (cells : Row) (column : Column) (field : List ℕ) (error : TableError)
    → IsOrder columns order → i < length order → place ≡ get_or order i 0 → column ≡ get_or columns place column → slice_get fields i ≡ Some field → CellsSoFar columns mode fields order i cells
    → IsFieldFault mode column field number (i + 1) error → HasFieldFault columns mode (header_of columns order) fields number error
field_fault columns mode fields order i place number cells column field error o lt at is here h bad = record {
  at = i;
  column = column;
  field = field;
  before = λ k below. good_field columns mode fields order cells k (omega arith) (h.each k below);
  is_field = field_of columns fields order i place column field o lt at is here;
  bad = bad;
}

-- all fields are read
pub row_read : (columns : List Column) (mode : NullMode) (fields : Record) (order : List ℕ) (i : ℕ) (cells : Row) → IsOrder columns order → length fields ≡ length columns → length order ≤ i
    → CellsSoFar columns mode fields order i cells → SpellsRow columns mode (header_of columns order) fields cells
row_read columns mode fields order i cells o width all h = record {
  fields_fit = width;
  cells_fit = h.size;
  each = λ at place column field cell named declared here there.
      let size : length (header_of columns order) ≡ length order = length-map order (field_at columns) in
      let below : at < length order = let b = slice_get_within (header_of columns order) at (name_field column) named in omega arith in
      let was = h.each at (omega arith) in
      let own = named_at columns order at was.column below was.column_is in
      let name : name_field was.column ≡ name_field column = cc (own, named) in
      let inside = order_place columns order o at below in
      let placed = slice_get_within columns place column declared in
      let own_name : field_at columns (get_or order at 0) ≡ name_field was.column = get_or-map name_field columns (get_or order at 0) was.column [] inside ∙ ap name_field (get_or_from_slice_get columns (get_or order at 0) was.column was.column was.column_is) in
      let that_name : field_at columns place ≡ name_field column = get_or-map name_field columns place column [] placed ∙ ap name_field (get_or_from_slice_get columns place column column declared) in
      let same : get_or order at 0 ≡ place = one_column columns (get_or order at 0) place o.distinct inside placed (own_name ∙ (name ∙ sym that_name)) in
      let column_same : was.column ≡ column = cc (rw same at was.column_is, declared) in
      let cell_same : was.cell ≡ cell = cc (rw same at was.cell_is, there) in
      let field_same : was.field ≡ field = cc (was.here, here) in
      rw (← column_same, ← cell_same, ← field_same) was.spells;
}

-- an error at a field is one of its record
pub row_fault : (columns : List Column) (mode : NullMode) (fields : Record) (order : List ℕ) (i place number : ℕ) (cells : Row) (column : Column) (field : List ℕ) (error : TableError)
    → IsOrder columns order → i < length order → place ≡ get_or order i 0 → column ≡ get_or columns place column → slice_get fields i ≡ Some field → CellsSoFar columns mode fields order i cells
    → length fields ≡ length columns → OrMemory (IsFieldFault mode column field number (i + 1)) error → OrMemory (IsRowFault columns mode (header_of columns order) fields number) error
row_fault columns mode fields order i place number cells column field fault.Memory o lt at is here h width bad = tt
row_fault columns mode fields order i place number cells column field (fault.FieldCount r) o lt at is here h width bad = absurd bad
row_fault columns mode fields order i place number cells column field fault.NoHeader o lt at is here h width bad = absurd bad
row_fault columns mode fields order i place number cells column field (fault.BadHeader c) o lt at is here h width bad = absurd bad
row_fault columns mode fields order i place number cells column field fault.TooManyRows o lt at is here h width bad = absurd bad
row_fault columns mode fields order i place number cells column field (fault.TextNotUtf8 r c) o lt at is here h width bad =
    (width, field_fault columns mode fields order i place number cells column field (fault.TextNotUtf8 r c) o lt at is here h bad)
row_fault columns mode fields order i place number cells column field (fault.BadValue r c) o lt at is here h width bad =
    (width, field_fault columns mode fields order i place number cells column field (fault.BadValue r c) o lt at is here h bad)
row_fault columns mode fields order i place number cells column field (fault.NullRefused r c) o lt at is here h width bad =
    (width, field_fault columns mode fields order i place number cells column field (fault.NullRefused r c) o lt at is here h bad)

-- an error of a record that there may be
pub record_fault : (columns : List Column) (mode : NullMode) (header fields : Record) (count : ℕ) (error : TableError) → count < 4194304
    → OrMemory (IsRowFault columns mode header fields (count + 2)) error → OrMemory (IsRecordFault columns mode header count fields) error
record_fault columns mode header fields count fault.Memory few bad = tt
record_fault columns mode header fields count (fault.FieldCount r) few bad = (few, bad.0, bad.1)
record_fault columns mode header fields count fault.TooManyRows few bad = absurd bad.1.bad
record_fault columns mode header fields count fault.NoHeader few bad = (few, bad.0, bad.1)
record_fault columns mode header fields count (fault.BadHeader c) few bad = (few, bad.0, bad.1)
record_fault columns mode header fields count (fault.TextNotUtf8 r c) few bad = (few, bad.0, bad.1)
record_fault columns mode header fields count (fault.BadValue r c) few bad = (few, bad.0, bad.1)
record_fault columns mode header fields count (fault.NullRefused r c) few bad = (few, bad.0, bad.1)
