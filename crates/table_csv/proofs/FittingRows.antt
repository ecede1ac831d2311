-- The rows of a table file are such that the columns allow.
use Rattle.std.proofs.Common.{◌≡◌, ◌<◌, ℕ, suc, List, [], ◌∷◌, None, Some, false, chars, length, get_or, refl, arith, inl, inr}
use Rattle.std.specs.List.{AllZip}
use Rattle.std.proofs.lemmas.Option.{slice_get-get_or}
use Rattle.hex.proofs.HexLemmas.{decode_of-ok}
use Rattle.value_dm.specs.Lawful.{IsLawful}
use Rattle.value_dm.specs.Spelling.{SpellsValue, unescaped}
use Rattle.value_dm.specs.declared.kind.Kind.TheVariants as kind
use Rattle.value_dm.specs.declared.mode.NullMode.{NullMode}
use Rattle.value_dm.specs.declared.value.Value.{Value}
use Rattle.value_dm.specs.declared.value.Value.TheVariants as value
use Rattle.members_dm.specs.Membership.{NoRepeats}
use Rattle.members_dm.proofs.ElementsLemmas.{item_within}
use Rattle.schema_dm.specs.declared.draft.Column.{Column}
use Rattle.table_csv.specs.Cells.{AreRowsOf, Cell, IsCellOf, IsRowOf, Row}
use Rattle.table_csv.specs.TableFiles.{HasRows, IsHeader, Record, SpellsCell, SpellsRow, name_fields}
use Rattle.table_csv.proofs.OneFile.{under}
use Rattle.table_csv.proofs.Zips.{zipped_at, zipped_length}

spelled_lawful : (text : List ℕ) (v : Value) → SpellsValue text v → IsLawful v
spelled_lawful text (value.Text t) h = h.1
spelled_lawful text (value.Integer z) h = h.fits
spelled_lawful text (value.Binary b) (inl whole) = (decode_of-ok text b whole).3
spelled_lawful text (value.Binary b) (inr (digits, parts, marked)) = (decode_of-ok digits b marked).3
spelled_lawful text v h = tt

spelled_fits : (mode : NullMode) (column : Column) (field : List ℕ) (cell : Cell) → SpellsCell mode column field cell → IsCellOf column cell
spelled_fits mode column field None h = h.allowed refl
spelled_fits mode column field (Some v) h = let spells = h.spells in (spells.1, spelled_lawful (unescaped column.kind (chars field)) v spells.2)

zipped_from : {A B : Type 0} (R : A → B → Type 0) (xs : List A) (ys : List B) (x : A) (y : B) → length xs ≡ length ys → ((i : ℕ) → i < length xs → R (get_or xs i x) (get_or ys i y)) → AllZip R xs ys
zipped_from R [] [] x y size each = tt
zipped_from R [] (b ∷ ys) x y size each = absurd (omega arith)
zipped_from R (a ∷ xs) [] x y size each = absurd (omega arith)
zipped_from R (a ∷ xs) (b ∷ ys) x y size each = (each 0 (omega arith), zipped_from R xs ys x y (omega arith) (λ i lt. each (suc i) (omega arith)))

row_fits_columns : (columns : List Column) (mode : NullMode) (header fields : Record) (row : Row) → NoRepeats (name_fields columns) → IsHeader columns header → SpellsRow columns mode header fields row → IsRowOf columns row
row_fits_columns columns mode header fields row distinct names h =
    let size = h.cells_fit in
    let none : Column = record { name = []; kind = kind.Text; not_null = false } in
    zipped_from IsCellOf columns row none None (omega arith) (λ place lt.
    let column : Column = get_or columns place none in
    let cell : Cell = get_or row place None in
    let u = under columns header fields place column distinct names h.fields_fit (item_within columns place none lt) in
    spelled_fits mode column u.field cell (h.each u.at place column u.field cell u.named (slice_get-get_or columns place none lt) u.here (slice_get-get_or row place None (omega arith))))

pub read_rows_fit : (columns : List Column) (mode : NullMode) (file : List Record) (rows : List Row) → NoRepeats (name_fields columns) → HasRows columns mode file rows → AreRowsOf columns rows
read_rows_fit columns mode file rows distinct h =
    let size = zipped_length (SpellsRow columns mode h.header) h.body rows h.each in
    record {
      few = h.few;
      each = λ k d lt. row_fits_columns columns mode h.header (get_or h.body k []) (get_or rows k d) distinct h.names (zipped_at (SpellsRow columns mode h.header) h.body rows k [] d h.each (omega (arith, size, lt)));
    }
