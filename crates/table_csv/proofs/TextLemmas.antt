-- The canonical text of a table is a file of the same rows.
use Rattle.std.proofs.Common.{◌≡◌, ◌==◌, ◌&&◌, ◌<◌, ◌∙◌, ℕ, zero, suc, List, [], ◌∷◌, ◌++◌, Bool, true, false, Some, None, length, get_or, set, map, refl, ap, sym, subst, arith, inl, inr, append_assoc, append-nil}
use Rattle.std.specs.Prelude.{All, IsPermutation, option_map}
use Rattle.std.specs.Str.{chars}
use Rattle.std.specs.List.{AllZip, list_any, slice_get, swap}
use Rattle.std.proofs.lemmas.Bool.{and_parts, cases_Bool, eqb-true}
use Rattle.std.proofs.lemmas.List.{length-map}
use Rattle.std.proofs.lemmas.List.Elements.{All-head, All-map, All-tail, All-get_or, All-weaker}
use Rattle.std.proofs.lemmas.List.Sorted.{All-permutation, IsPermutation-keeps, IsPermutation-refl, IsPermutation-swap, IsPermutation-trans, length_permutation}
use Rattle.std.proofs.lemmas.Option.{get_or_from_slice_get, slice_get-map, slice_get_within}
use Rattle.csv.specs.Machine.{next_record}
use Rattle.csv.specs.Reading.{Reached, default_config, is_bom, strip_bom}
use Rattle.csv.specs.Writing.{default_writer, field_text, fields_text, is_blank, needs_byte, read_back, row_text}
use Rattle.csv.specs.declared.parser.State.TheVariants as st
use Rattle.csv.proofs.RoundTrip.{read-write}
use Rattle.value_dm.specs.Kinds.{IsOfKind}
use Rattle.value_dm.specs.Spelling.{mode_plain}
use Rattle.members_dm.specs.Membership.{NoRepeats}
use Rattle.members_dm.proofs.ElementsLemmas.{one_index}
use Rattle.schema_dm.specs.Naming.{IsBadName}
use Rattle.schema_dm.specs.declared.draft.Column.{Column}
use Rattle.table_csv.specs.CanonicalText.{AreTextColumns, IsFileOfSame, IsNamed, IsWritten, cell_field, row_fields, text_of}
use Rattle.table_csv.specs.Cells.{AreRowsOf, Cell, IsCellOf, IsRowOf, Row}
use Rattle.table_csv.specs.TableFiles.{Record, SpellsCell, SpellsRow, name_field, name_fields, records_of}
use Rattle.table_csv.proofs.HeaderLemmas.{fields_differ}
use Rattle.table_csv.proofs.RecordLemmas.{all-records}
use Rattle.table_csv.proofs.Zips.{zipped_at, zipped_length}

-- ---- no mark stands in front of a text whose first field has none

abbrev marked : List ℕ → Bool
marked [] = false
marked (a ∷ []) = false
marked (a ∷ b ∷ []) = false
marked (a ∷ b ∷ c ∷ rest) = is_bom a b c

unmarked-strip : (xs : List ℕ) → marked xs ≡ false → strip_bom xs ≡ xs
unfolding strip_bom
unmarked-strip [] e = refl
unmarked-strip (a ∷ []) e = refl
unmarked-strip (a ∷ b ∷ []) e = refl
unmarked-strip (a ∷ b ∷ c ∷ rest) e = rw e refl

and-false : (a : Bool) → (a && false) ≡ false
and-false true = refl
and-false false = refl

unmarked-head : (b : ℕ) (t : List ℕ) → (b == 239) ≡ false → marked (b ∷ t) ≡ false
unmarked-head b [] e = refl
unmarked-head b (x ∷ []) e = refl
unmarked-head b (x ∷ y ∷ t) e = rw e refl

-- bytes without a mark, before a byte that is no part of one
unmarked-append : (x : List ℕ) (c : ℕ) (tail : List ℕ) → marked x ≡ false → (c == 239) ≡ false → (c == 187) ≡ false → (c == 191) ≡ false → marked (x ++ c ∷ tail) ≡ false
unmarked-append [] c tail e first second third = unmarked-head c tail first
unmarked-append (p ∷ []) c [] e first second third = refl
unmarked-append (p ∷ []) c (t ∷ ts) e first second third = rw (second, and-false (p == 239)) refl
unmarked-append (p ∷ q ∷ []) c tail e first second third = rw third (and-false _)
unmarked-append (p ∷ q ∷ r ∷ xs) c tail e first second third = e

unmarked-field : (x : List ℕ) (c : ℕ) (tail : List ℕ) → marked x ≡ false → (c == 239) ≡ false → (c == 187) ≡ false → (c == 191) ≡ false → marked (field_text default_writer x ++ c ∷ tail) ≡ false
unmarked-field x c tail e first second third = elim (cases_Bool (list_any (needs_byte default_writer) x)) [
  | inl needs ↦ rw needs (unmarked-head 34 _ refl)
  | inr plain ↦ rw plain (unmarked-append x c tail e first second third)
]

unmarked-row : (x : List ℕ) (rest : Record) (tail : List ℕ) → marked x ≡ false → marked (row_text default_writer (x ∷ rest) ++ tail) ≡ false
unfolding fields_text is_blank
unmarked-row x [] tail e = elim (cases_Bool (length (field_text default_writer x) == 0)) [
  | inl none ↦ rw (none, append_assoc (field_text default_writer x ++ []) (34 ∷ 34 ∷ 10 ∷ []) tail, append-nil (field_text default_writer x)) (unmarked-field x 34 _ e refl refl refl)
  | inr some ↦ rw (some, append_assoc (field_text default_writer x ++ []) (10 ∷ []) tail, append-nil (field_text default_writer x)) (unmarked-field x 10 _ e refl refl refl)
]
unmarked-row x (y ∷ ys) tail e =
    rw (append_assoc (field_text default_writer x ++ fields_text default_writer (y ∷ ys)) (10 ∷ []) tail, append_assoc (field_text default_writer x) (fields_text default_writer (y ∷ ys)) (10 ∷ tail))
    (unmarked-field x 44 _ e refl refl refl)

-- a mark is read as U+FEFF
mark_read : (rest : List ℕ) → (tail : List ℕ) × (chars (239 ∷ 187 ∷ 191 ∷ rest) ≡ 65279 ∷ tail)
unfolding chars
mark_read [] = ([], refl)
mark_read (b ∷ bs) = (_, refl)

unmarked-name : (field name : List ℕ) → chars field ≡ name → ¬ IsBadName name → marked field ≡ false
unmarked-name [] name e good = refl
unmarked-name (a ∷ []) name e good = refl
unmarked-name (a ∷ b ∷ []) name e good = refl
unmarked-name (a ∷ b ∷ c ∷ rest) name e good = elim (cases_Bool (is_bom a b c)) [
  | inl mark ↦
      let last = and_parts ((a == 239) && (b == 187)) (c == 191) mark in
      let two = and_parts (a == 239) (b == 187) last.0 in
      let read = mark_read rest in
      let is : name ≡ 65279 ∷ read.0 = sym (rw (eqb-true a 239 two.0, eqb-true b 187 two.1, eqb-true c 191 last.1) at e) ∙ read.1 in
      absurd (good (let P : List ℕ → Type 0 = IsBadName in subst P (sym is) (inr refl)))
  | inr none ↦ none
]

-- ---- the records of a text of records

reached : (lines : List Record) → Reached default_config st.StartRecord (text_of lines) (map read_back lines) st.StartRecord []
unfolding Reached
reached [] = (refl, refl)
reached (line ∷ lines) = ((read_back line, st.StartRecord, text_of lines), read-write line (text_of lines), refl, reached lines)

abbrev HasFields : Record → Type 0
HasFields fields = 0 < length fields

read_same : (lines : List Record) → All HasFields lines → map read_back lines ≡ lines
read_same [] some = refl
read_same ([] ∷ lines) some = absurd (let none = All-head HasFields [] lines some in omega arith)
read_same ((x ∷ xs) ∷ lines) some = ap (λ (t : List Record). (x ∷ xs) ∷ t) (read_same lines (All-tail HasFields (x ∷ xs) lines some))

records_written : (field : List ℕ) (fields : Record) (lines : List Record) → marked field ≡ false → All HasFields lines → records_of (text_of ((field ∷ fields) ∷ lines)) ≡ (field ∷ fields) ∷ lines
unfolding next_record
records_written field fields lines e some =
    let whole : List Record = (field ∷ fields) ∷ lines in
    let free : strip_bom (text_of whole) ≡ text_of whole = unmarked-strip (text_of whole) (unmarked-row field fields (text_of lines) e) in
    rw free (all-records (text_of whole) (map read_back whole) (st.StartRecord, [], reached whole, refl) ∙ ap (λ (t : List Record). (field ∷ fields) ∷ t) (read_same lines some))

-- ---- the rows of the sorted lines

map-set : {X Y : Type 0} (f : X → Y) (xs : List X) (i : ℕ) (x : X) → map f (set xs i x) ≡ set (map f xs) i (f x)
map-set f [] i x = refl
map-set f (a ∷ xs) zero x = refl
map-set f (a ∷ xs) (suc i) x = ap (λ t. f a ∷ t) (map-set f xs i x)

map-get_or : {X Y : Type 0} (f : X → Y) (xs : List X) (i : ℕ) (d : X) → get_or (map f xs) i (f d) ≡ f (get_or xs i d)
map-get_or f [] i d = refl
map-get_or f (a ∷ xs) zero d = refl
map-get_or f (a ∷ xs) (suc i) d = map-get_or f xs i d

map-swap : {X Y : Type 0} (f : X → Y) (xs : List X) (i j : ℕ) → map f (swap xs i j) ≡ swap (map f xs) i j
map-swap f [] i j = refl
map-swap f (d ∷ ys) i j =
    map-set f (set (d ∷ ys) i (get_or (d ∷ ys) j d)) j (get_or (d ∷ ys) i d)
    ∙ rw (map-set f (d ∷ ys) i (get_or (d ∷ ys) j d), map-get_or f (d ∷ ys) i d, map-get_or f (d ∷ ys) j d) refl

-- a list of the same rows whose lines are these
abbrev Unsorted : List Row → List Record → Type 0
Unsorted rows lines = (same : List Row) × IsPermutation rows same × (map row_fields same ≡ lines)

unsorted : (rows : List Row) (lines : List Record) → IsPermutation (map row_fields rows) lines → Unsorted rows lines
unsorted rows lines p =
    IsPermutation-keeps (map row_fields rows) (Unsorted rows) (rows, IsPermutation-refl rows, refl)
    (λ l i j li lj (same, perm, e).
    let size : length same ≡ length l = sym (length-map same row_fields) ∙ ap length e in (
      swap same i j,
      IsPermutation-trans rows same (swap same i j) perm (IsPermutation-swap same (swap same i j) i j (omega arith) (omega arith) refl),
      map-swap row_fields same i j ∙ ap (λ (t : List Record). swap t i j) e,
    ))
    lines p

-- ---- a row under the columns' names

of_kind : (column : Column) (cell : Cell) → IsCellOf column cell → IsOfKind column.kind cell
of_kind column None h = tt
of_kind column (Some v) h = h.0

allowed : (column : Column) (cell : Cell) → IsCellOf column cell → cell ≡ None → column.not_null ≡ false
allowed column None h e = h
allowed column (Some v) h e = cc e

own_cell : (column : Column) (cell : Cell) → IsCellOf column cell → IsWritten cell → SpellsCell mode_plain column (cell_field cell) cell
own_cell column cell h written = record { text = written.text; spells = rw written.read (written.spells column.kind (of_kind column cell h)); allowed = allowed column cell h }

own_row : (columns : List Column) (row : Row) → NoRepeats (name_fields columns) → IsRowOf columns row → All IsWritten row → SpellsRow columns mode_plain (name_fields columns) (row_fields row) row
own_row columns row distinct h written = record {
  fields_fit = length-map row cell_field ∙ sym (zipped_length IsCellOf columns row h);
  cells_fit = sym (zipped_length IsCellOf columns row h);
  each = λ at place column field cell named declared here there.
      let own : slice_get (name_fields columns) place ≡ Some (name_field column) = slice_get-map name_field columns place ∙ ap (option_map name_field) declared in
      let same : at ≡ place = one_index (name_fields columns) (name_field column) at place distinct named own in
      let read : slice_get (row_fields row) place ≡ Some (cell_field cell) = slice_get-map cell_field row place ∙ ap (option_map cell_field) there in
      let is : cell_field cell ≡ field = cc (read, rw same at here) in
      let within = slice_get_within columns place column declared in
      let inside = slice_get_within row place cell there in
      let cell_is = get_or_from_slice_get row place cell cell there in
      let column_is = get_or_from_slice_get columns place column column declared in
      let fits = rw (column_is, cell_is) at (zipped_at IsCellOf columns row place column cell h within) in
      let known = let P : Cell → Type 0 = IsWritten in subst P cell_is (All-get_or IsWritten row place cell inside written) in
      let P : List ℕ → Type 0 = λ f. SpellsCell mode_plain column f cell in
      subst P is (own_cell column cell fits known);
}

own_rows : (columns : List Column) (rows : List Row) → NoRepeats (name_fields columns) → All (IsRowOf columns) rows → All (All IsWritten) rows → AllZip (SpellsRow columns mode_plain (name_fields columns)) (map row_fields rows) rows
own_rows columns [] distinct h written = tt
own_rows columns (row ∷ rows) distinct h written = (
  own_row columns row distinct (All-head (IsRowOf columns) row rows h) (All-head (All IsWritten) row rows written),
  own_rows columns rows distinct (All-tail (IsRowOf columns) row rows h) (All-tail (All IsWritten) row rows written),
)

rows_some : (columns : List Column) (rows : List Row) → 0 < length columns → All (IsRowOf columns) rows → All HasFields (map row_fields rows)
rows_some columns rows some h = All-map HasFields row_fields rows (All-weaker (IsRowOf columns) (λ row. HasFields (row_fields row))
    (λ row r. let size = zipped_length IsCellOf columns row r in let made : length (row_fields row) ≡ length row = length-map row cell_field in omega arith) rows h)

header_read : (columns : List Column) (lines : List Record) → AreTextColumns columns → All IsNamed columns → All HasFields lines → records_of (text_of (name_fields columns ∷ lines)) ≡ name_fields columns ∷ lines
header_read [] lines h named some = absurd (let none = h.some in omega arith)
header_read (column ∷ columns) lines h named some =
    records_written (name_field column) (name_fields columns) lines (unmarked-name (name_field column) column.name (All-head IsNamed column columns named) (h.names column (inl refl))) some

pub same_read : (columns : List Column) (rows : List Row) (lines : List Record) (text : List ℕ) → AreTextColumns columns → AreRowsOf columns rows → All IsNamed columns → All (All IsWritten) rows
    → IsPermutation (map row_fields rows) lines → text ≡ text_of (name_fields columns ∷ lines) → IsFileOfSame columns rows text
same_read columns rows lines text h fit named written p e =
    let (same, perm, is) = unsorted rows lines p in
    let each = All-permutation (IsRowOf columns) rows same perm fit.each in
    let known = All-permutation (All IsWritten) rows same perm written in
    let distinct = fields_differ columns h.distinct in
    let size = length_permutation rows same perm in
    let some = rows_some columns same h.some each in
    let few = fit.few in (
      same,
      perm,
      record {
        header = name_fields columns;
        body = map row_fields same;
        parts = ap records_of (e ∙ ap (λ (ls : List Record). text_of (name_fields columns ∷ ls)) (sym is)) ∙ header_read columns (map row_fields same) h named some;
        names = record { once = distinct; names = λ field. ((λ m. m), (λ m. m)) };
        each = own_rows columns same distinct each known;
        few = omega arith;
      },
    )
