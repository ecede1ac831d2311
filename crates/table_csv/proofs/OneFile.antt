-- A table file stands for one list of rows, and for none where it has a fault.
use Rattle.std.proofs.Common.{◌≡◌, ◌+◌, ◌<◌, ◌≤◌, ◌∙◌, ℕ, suc, List, [], ◌∷◌, ◌++◌, Some, None, false, length, get_or, refl, sym, subst, arith, inl, inr, append-nil}
use Rattle.std.specs.List.{AllZip, slice_get}
use Rattle.std.proofs.lemmas.Bool.{true≢false}
use Rattle.std.proofs.lemmas.List.{length-map}
use Rattle.std.proofs.lemmas.Option.{slice_get-get_or}
use Rattle.value_dm.specs.declared.kind.Kind.TheVariants as kind
use Rattle.value_dm.specs.declared.mode.NullMode.{NullMode}
use Rattle.value_dm.proofs.Values.{spells_one}
use Rattle.members_dm.specs.Membership.{IsIn, NoRepeats}
use Rattle.members_dm.proofs.MembershipLemmas.{IsIn-back, map-IsIn}
use Rattle.members_dm.proofs.ElementsLemmas.{index_of_item, item_within}
use Rattle.schema_dm.specs.declared.draft.Column.{Column}
use Rattle.table_csv.specs.Cells.{Cell, Row}
use Rattle.table_csv.specs.TableFiles.{HasFieldFault, HasRecordFault, HasRows, IsBadHeader, IsBadNext, IsFieldFault, IsFirstFault, IsHeader, IsRecordFault, Record, SpellsCell, SpellsRow, name_field, name_fields}
use Rattle.table_csv.specs.declared.fault.TableError.{TableError}
use Rattle.table_csv.specs.declared.fault.TableError.TheVariants as fault
use Rattle.table_csv.proofs.Distinct.{no_longer}

-- ---- one list of rows

same_items : {X : Type 0} (xs ys : List X) (d : X) → length xs ≡ length ys → ((k : ℕ) → k < length xs → get_or xs k d ≡ get_or ys k d) → xs ≡ ys
same_items [] [] d size each = refl
same_items [] (y ∷ ys) d size each = absurd (omega arith)
same_items (x ∷ xs) [] d size each = absurd (omega arith)
same_items {X} (x ∷ xs) (y ∷ ys) d size each =
    let first : x ≡ y = each 0 (omega arith) in
    let rest : xs ≡ ys = same_items xs ys d (omega arith) (λ k lt. each (suc k) (omega arith)) in
    cc (first, rest)

pub header_length : (columns : List Column) (header : Record) → NoRepeats (name_fields columns) → IsHeader columns header → length header ≡ length columns
header_length columns header distinct h =
    let up = no_longer header (name_fields columns) h.once (λ f m. (h.names f).0 m) in
    let down = no_longer (name_fields columns) header distinct (λ f m. (h.names f).1 m) in
    let size : length (name_fields columns) ≡ length columns = length-map columns name_field in
    omega arith

-- the field of the column at the place
pub record Under (columns : List Column) (header fields : Record) (place : ℕ) (column : Column) : Type 0 where
  pub at : ℕ
  pub field : List ℕ
  pub named : slice_get header at ≡ Some (name_field column)
  pub here : slice_get fields at ≡ Some field

pub under : (columns : List Column) (header fields : Record) (place : ℕ) (column : Column) → NoRepeats (name_fields columns) → IsHeader columns header → length fields ≡ length columns → IsIn column columns
    → Under columns header fields place column
under columns header fields place column distinct h size m =
    let (at, lt, named) = index_of_item (name_field column) header ((h.names (name_field column)).1 (map-IsIn name_field column columns m)) in
    let long = header_length columns header distinct h in
    record { at = at; field = get_or fields at []; named = named; here = slice_get-get_or fields at [] (omega arith) }

row_one : (columns : List Column) (mode : NullMode) (header fields : Record) (row other : Row) → NoRepeats (name_fields columns) → IsHeader columns header
    → SpellsRow columns mode header fields row → SpellsRow columns mode header fields other → row ≡ other
row_one columns mode header fields row other distinct h a b =
    let first = a.cells_fit in
    let second = b.cells_fit in
    same_items row other None (omega arith) (λ place lt.
    let within : place < length columns = omega arith in
    let column : Column = get_or columns place (record { name = []; kind = kind.Text; not_null = false }) in
    let declared : slice_get columns place ≡ Some column = slice_get-get_or columns place _ within in
    let u = under columns header fields place column distinct h a.fields_fit (item_within columns place _ within) in
    let one = a.each u.at place column u.field (get_or row place None) u.named declared u.here (slice_get-get_or row place None lt) in
    let two = b.each u.at place column u.field (get_or other place None) u.named declared u.here (slice_get-get_or other place None (omega arith)) in
    spells_one column.kind _ mode (get_or row place None) (get_or other place None) one.spells two.spells)

rows_one : (columns : List Column) (mode : NullMode) (header : Record) (body : List Record) (rows others : List Row) → NoRepeats (name_fields columns) → IsHeader columns header
    → AllZip (SpellsRow columns mode header) body rows → AllZip (SpellsRow columns mode header) body others → rows ≡ others
rows_one columns mode header [] [] [] distinct h a b = refl
rows_one columns mode header [] (r ∷ rows) others distinct h a b = absurd a
rows_one columns mode header [] [] (o ∷ others) distinct h a b = absurd b
rows_one columns mode header (f ∷ body) [] others distinct h a b = absurd a
rows_one columns mode header (f ∷ body) (r ∷ rows) [] distinct h a b = absurd b
rows_one columns mode header (f ∷ body) (r ∷ rows) (o ∷ others) distinct h a b =
    let first = row_one columns mode header f r o distinct h a.0 b.0 in
    let rest = rows_one columns mode header body rows others distinct h a.1 b.1 in
    cc (first, rest)

-- the same rows behind the same header
at_parts : (columns : List Column) (mode : NullMode) (file : List Record) (rows : List Row) (header : Record) (body : List Record) → HasRows columns mode file rows → file ≡ header ∷ body
    → IsHeader columns header × AllZip (SpellsRow columns mode header) body rows
at_parts columns mode file rows header body h parts =
    let first : h.header ≡ header = cc (h.parts, parts) in
    let rest : h.body ≡ body = cc (h.parts, parts) in
    let P : Record → Type 0 = λ x. IsHeader columns x × AllZip (SpellsRow columns mode x) h.body rows in
    let Q : List Record → Type 0 = λ x. IsHeader columns header × AllZip (SpellsRow columns mode header) x rows in
    subst Q rest (subst P first (h.names, h.each))

pub file_one : (columns : List Column) (mode : NullMode) (file : List Record) (rows others : List Row) → NoRepeats (name_fields columns) → HasRows columns mode file rows → HasRows columns mode file others → rows ≡ others
file_one columns mode file rows others distinct a b =
    let same = at_parts columns mode file others a.header a.body b a.parts in
    rows_one columns mode a.header a.body rows others distinct a.names a.each same.1

-- ---- none where there is a fault

pub twice : {X : Type 0} (xs : List X) (x : X) (ys : List X) → NoRepeats (xs ++ x ∷ ys) → ¬ IsIn x xs
twice [] x ys once m = m
twice {X} (y ∷ xs) x ys once (inl same) = once.0 (let P : X → Type 0 = λ z. IsIn z (xs ++ x ∷ ys) in subst P (sym same) (IsIn-back x xs (x ∷ ys) (inl refl)))
twice (y ∷ xs) x ys once (inr m) = twice xs x ys once.1 m

no_bad_next : (columns : List Column) (before after : Record) → IsHeader columns (before ++ after) → ¬ IsBadNext columns before after
no_bad_next columns before [] h (column, m, missing) =
    missing (let P : Record → Type 0 = λ x. IsIn (name_field column) x in subst P (append-nil before) ((h.names (name_field column)).1 (map-IsIn name_field column columns m)))
no_bad_next columns before (field ∷ rest) h (inl other) = other ((h.names field).0 (IsIn-back field before (field ∷ rest) (inl refl)))
no_bad_next columns before (field ∷ rest) h (inr again) = twice before field rest h.once again

pub no_bad_header : (columns : List Column) (header : Record) (place : ℕ) → IsHeader columns header → ¬ IsBadHeader columns header place
no_bad_header columns header place h bad =
    no_bad_next columns bad.before bad.after (let P : Record → Type 0 = IsHeader columns in subst P bad.parts h) bad.bad

-- the row of a record behind others
row_behind : (R : Record → Row → Type 0) (good : List Record) (fields : Record) (further : List Record) (rows : List Row) → AllZip R (good ++ fields ∷ further) rows
    → (row : Row) × R fields row × (length good < length rows)
row_behind R [] fields further [] h = absurd h
row_behind R [] fields further (r ∷ rows) h = (r, h.0, omega arith)
row_behind R (g ∷ good) fields further [] h = absurd h
row_behind R (g ∷ good) fields further (r ∷ rows) h =
    let (row, spells, lt) = row_behind R good fields further rows h.1 in
    (row, spells, omega arith)

pub no_field_fault : (mode : NullMode) (column : Column) (field : List ℕ) (number place : ℕ) (cell : Cell) (error : TableError) → SpellsCell mode column field cell → ¬ IsFieldFault mode column field number place error
no_field_fault mode column field number place cell (fault.TextNotUtf8 r c) h bad = bad.2 h.text
no_field_fault mode column field number place cell (fault.BadValue r c) h bad = bad.3 cell h.spells
no_field_fault mode column field number place cell (fault.NullRefused r c) h bad =
    true≢false (sym bad.4 ∙ h.allowed (spells_one column.kind _ mode cell None h.spells bad.3))
no_field_fault mode column field number place cell fault.NoHeader h bad = bad
no_field_fault mode column field number place cell (fault.BadHeader c) h bad = bad
no_field_fault mode column field number place cell (fault.FieldCount r) h bad = bad
no_field_fault mode column field number place cell fault.TooManyRows h bad = bad
no_field_fault mode column field number place cell fault.Memory h bad = bad

no_fault_in_row : (columns : List Column) (mode : NullMode) (header fields : Record) (number : ℕ) (row : Row) (error : TableError) → SpellsRow columns mode header fields row
    → ¬ HasFieldFault columns mode header fields number error
no_fault_in_row columns mode header fields number row error h bad =
    let (place, lt, declared) = index_of_item bad.column columns bad.is_field.declared in
    let size = h.cells_fit in
    let cell : Cell = get_or row place None in
    let there : slice_get row place ≡ Some cell = slice_get-get_or row place None (omega arith) in
    no_field_fault mode bad.column bad.field number (bad.at + 1) cell error (h.each bad.at place bad.column bad.field cell bad.is_field.named declared bad.is_field.here there) bad.bad

pub no_record_fault : (columns : List Column) (mode : NullMode) (header fields : Record) (count : ℕ) (rows : List Row) (row : Row) (error : TableError) → SpellsRow columns mode header fields row → count < length rows
    → length rows ≤ 4194304 → ¬ IsRecordFault columns mode header count fields error
no_record_fault columns mode header fields count rows row fault.TooManyRows h lt few bad = absurd (omega arith)
no_record_fault columns mode header fields count rows row (fault.FieldCount r) h lt few bad = bad.2 h.fields_fit
no_record_fault columns mode header fields count rows row fault.NoHeader h lt few bad = no_fault_in_row columns mode header fields (count + 2) row fault.NoHeader h bad.2
no_record_fault columns mode header fields count rows row (fault.BadHeader c) h lt few bad = no_fault_in_row columns mode header fields (count + 2) row (fault.BadHeader c) h bad.2
no_record_fault columns mode header fields count rows row (fault.TextNotUtf8 r c) h lt few bad = no_fault_in_row columns mode header fields (count + 2) row (fault.TextNotUtf8 r c) h bad.2
no_record_fault columns mode header fields count rows row (fault.BadValue r c) h lt few bad = no_fault_in_row columns mode header fields (count + 2) row (fault.BadValue r c) h bad.2
no_record_fault columns mode header fields count rows row (fault.NullRefused r c) h lt few bad = no_fault_in_row columns mode header fields (count + 2) row (fault.NullRefused r c) h bad.2
no_record_fault columns mode header fields count rows row fault.Memory h lt few bad = no_fault_in_row columns mode header fields (count + 2) row fault.Memory h bad.2

no_rows_behind : (columns : List Column) (mode : NullMode) (file : List Record) (rows : List Row) (error : TableError) → HasRows columns mode file rows → ¬ HasRecordFault columns mode file error
no_rows_behind columns mode file rows error h bad =
    let same = at_parts columns mode file rows bad.header (bad.good ++ bad.record_at_fault ∷ bad.further) h bad.parts in
    let (row, spells, lt) = row_behind (SpellsRow columns mode bad.header) bad.good bad.record_at_fault bad.further rows same.1 in
    no_record_fault columns mode bad.header bad.record_at_fault (length bad.good) rows row error spells lt h.few bad.bad

-- a fault other than want of memory leaves no rows
pub only_memory : (columns : List Column) (mode : NullMode) (file : List Record) (rows : List Row) (error : TableError) → HasRows columns mode file rows → IsFirstFault columns mode file error → error ≡ fault.Memory
only_memory columns mode file rows fault.Memory h bad = refl
only_memory columns mode file rows fault.NoHeader h bad = cc (h.parts, bad)
only_memory columns mode file rows (fault.BadHeader place) h (header, body, parts, bad) = absurd (no_bad_header columns header place (at_parts columns mode file rows header body h parts).0 bad)
only_memory columns mode file rows fault.TooManyRows h bad = absurd (no_rows_behind columns mode file rows fault.TooManyRows h bad)
only_memory columns mode file rows (fault.FieldCount r) h bad = absurd (no_rows_behind columns mode file rows (fault.FieldCount r) h bad)
only_memory columns mode file rows (fault.TextNotUtf8 r c) h bad = absurd (no_rows_behind columns mode file rows (fault.TextNotUtf8 r c) h bad)
only_memory columns mode file rows (fault.BadValue r c) h bad = absurd (no_rows_behind columns mode file rows (fault.BadValue r c) h bad)
only_memory columns mode file rows (fault.NullRefused r c) h bad = absurd (no_rows_behind columns mode file rows (fault.NullRefused r c) h bad)
