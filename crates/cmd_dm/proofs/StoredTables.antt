-- Tables that are stored are read back, and those of a database are within the limits.
use Rattle.std.proofs.Common.{◌≡◌, refl, subst, inl, inr, ℕ, ◌++◌, true, false, cond, List, [], ◌∷◌, map, Some, None, codes, encode_utf8_all, All, nat_eq, ◌==◌}
use Rattle.std.specs.List.{AllZip, flat_map, starts_with}
use Rattle.std.specs.Str.{all_scalars}
use Rattle.std.proofs.Math.Utf8.{scalar}
use Rattle.std.proofs.lemmas.Bool.{and_parts}
use Rattle.std.proofs.lemmas.List.Elements.{All-weaker}
use Rattle.members_dm.specs.Membership.{IsIn}
use Rattle.members_dm.proofs.AnyLemmas.{all_from_items}
use Rattle.members_dm.proofs.MembershipLemmas.{rising-NoRepeats}
use Rattle.value_dm.specs.declared.kind.Kind.{Kind}
use Rattle.value_dm.specs.declared.kind.Kind.TheVariants as kind
use Rattle.value_dm.specs.declared.value.Value.{Value}
use Rattle.value_dm.specs.declared.value.Value.TheVariants as value
use Rattle.value_dm.specs.Kinds.{IsOfKind}
use Rattle.value_dm.specs.Lawful.{IsLawful}
use Rattle.value_dm.specs.Lexical.{canonical_field, escaped, lexical_form}
use Rattle.value_dm.specs.Spelling.{Spells, mode_plain}
use Rattle.value_dm.specs.Texts.{IsText}
use Rattle.value_dm.proofs.CanonicalFields.{field_spells}
use Rattle.names_dm.proofs.Utf8.{chars-encodes_any}
use Rattle.graph_texts_dm.proofs.Iris.{form_text, text_append}
use Rattle.schema_dm.specs.Shapes.{IsBefore, IsShape, IsShapeTable}
use Rattle.schema_dm.specs.declared.draft.Column.{Column}
use Rattle.schema_dm.specs.declared.table.ShapeTable.{ShapeTable}
use Rattle.schema_dm.proofs.GoodNames.{text_of_good}
use Rattle.layouts_dm.proofs.Unique.{before_one_way}
use Rattle.layouts_dm.specs.LayoutTables.{AreOfShape}
use Rattle.ddl_tokens_dm.specs.Tokens.{doubled}
use Rattle.ddl_dm.specs.Canonical.{canonical_text, column_text, columns_text, further_text, plain_table, quoted, table_text, type_text}
use Rattle.ddl_dm.specs.Schema.{IsDdl}
use Rattle.ddl_dm.proofs.BackTokens.{reads_back}
use Rattle.outside_dm.specs.Storing.{Batch}
use Rattle.table_csv.specs.CanonicalText.{AreTextColumns, IsCanonicalText, IsFileOfSame, IsNamed, IsWritten}
use Rattle.table_csv.specs.Cells.{AreRowsOf, Cell, IsCellOf, IsRowOf, Row}
use Rattle.table_csv.specs.Plain.{PlainTable}
use Rattle.table_csv.proofs.TextLemmas.{same_read}
use Rattle.inverse_dm.specs.Limits.{IsWithinLimits}
use Rattle.inverse_dm.specs.Parts.{rows_of, shape_of as shapes_of}
use Rattle.inverse_dm.proofs.TableParts.{are_fit, is_shape}
use Rattle.cmd_dm.specs.Folder.{AreFilesOf, AreFolderFiles}
use Rattle.cmd_dm.specs.Headline.{AreReadBack, AreStored}

-- ---- the characters of fields

escaped_text : (t : List ℕ) → IsText t → IsText (escaped t)
escaped_text t h = elim (starts_with nat_eq t (codes "\\")) as (λ b. IsText (cond b (codes "\\" ++ t) t)) [ true ↦ text_append (codes "\\") t refl h | false ↦ h ]

field_text : (cell : Cell) → ((v : Value) → cell ≡ Some v → IsLawful v) → IsText (canonical_field cell)
field_text None h = refl
field_text (Some (value.Text t)) h = escaped_text t (h (value.Text t) refl)
field_text (Some (value.Integer z)) h = form_text (value.Integer z) (h (value.Integer z) refl)
field_text (Some (value.Decimal d)) h = form_text (value.Decimal d) (h (value.Decimal d) refl)
field_text (Some (value.Boolean b)) h = form_text (value.Boolean b) (h (value.Boolean b) refl)
field_text (Some (value.Date d)) h = form_text (value.Date d) (h (value.Date d) refl)
field_text (Some (value.Time t)) h = form_text (value.Time t) (h (value.Time t) refl)
field_text (Some (value.DateTime d)) h = form_text (value.DateTime d) (h (value.DateTime d) refl)
field_text (Some (value.Binary b)) h = text_append (codes "\\x") (lexical_form (value.Binary b)) refl (form_text (value.Binary b) (h (value.Binary b) refl))

lawful_cell : (column : Column) (cell : Cell) → IsCellOf column cell → (v : Value) → cell ≡ Some v → IsLawful v
lawful_cell column None h v e = cc e
lawful_cell column (Some w) h v e = let same : w ≡ v = cc in subst IsLawful same h.1

field_is : (kind : Kind) (cell : Cell) → ((v : Value) → cell ≡ Some v → IsLawful v) → IsOfKind kind cell → Spells kind (canonical_field cell) mode_plain cell
field_is kind None h of = inl refl
field_is kind (Some v) h of = let P : Kind → Type 0 = λ k. Spells k (canonical_field (Some v)) mode_plain (Some v) in subst P of (field_spells v (h v refl))

written : (column : Column) (cell : Cell) → IsCellOf column cell → IsWritten cell
written column cell h = record {
  text = (canonical_field cell, (field_text cell (lawful_cell column cell h), refl));
  read = chars-encodes_any (canonical_field cell);
  spells = λ kind of. field_is kind cell (lawful_cell column cell h) of;
}

row_written : (columns : List Column) (row : Row) → IsRowOf columns row → All IsWritten row
row_written columns row h = all_from_items IsWritten row (go columns row h)
  where
    go : (columns : List Column) (row : Row) → IsRowOf columns row → (cell : Cell) → IsIn cell row → IsWritten cell
    go [] [] h cell m = absurd m
    go [] (x ∷ row) h cell m = absurd h
    go (column ∷ columns) [] h cell m = absurd m
    go (column ∷ columns) (x ∷ row) h cell (inl is) = subst IsWritten is (written column x h.0)
    go (column ∷ columns) (x ∷ row) h cell (inr m) = go columns row h.1 cell m

rows_written : (columns : List Column) (rows : List Row) → AreRowsOf columns rows → All (All IsWritten) rows
rows_written columns rows fit = All-weaker (IsRowOf columns) (All IsWritten) (λ row h. row_written columns row h) rows fit.each

pub text_columns : (table : ShapeTable) → IsShapeTable table → AreTextColumns table.columns
text_columns table shape = record {
  some = shape.some;
  distinct = rising-NoRepeats IsBefore before_one_way _ shape.rising;
  names = λ column h. (shape.columns column h).0;
}

named : (table : ShapeTable) → IsShapeTable table → All IsNamed table.columns
named table shape = all_from_items IsNamed table.columns (λ column h. chars-encodes_any column.name)

-- the canonical text is read back
pub file_read : (table : ShapeTable) (rows : List Row) (text : List ℕ) → IsShapeTable table → AreRowsOf table.columns rows → IsCanonicalText table.columns rows text → IsFileOfSame table.columns rows text
file_read table rows text shape fit h =
    same_read table.columns rows h.lines text (text_columns table shape) fit (named table shape) (rows_written table.columns rows fit) h.same h.is_text

-- ---- the characters of statements

doubled_text : (name : List ℕ) → IsText name → IsText (doubled name)
doubled_text [] h = refl
doubled_text (c ∷ cs) h =
    let parts = and_parts (scalar c) (all_scalars cs) h in
    let rest = doubled_text cs parts.1 in
    elim (c == 34) as (λ b. IsText (cond b (34 ∷ 34 ∷ doubled cs) (c ∷ doubled cs))) [
      | true ↦ text_append (34 ∷ 34 ∷ []) (doubled cs) refl rest
      | false ↦ text_append (c ∷ []) (doubled cs) (rw parts.0 refl) rest
    ]

quoted_text : (name : List ℕ) → IsText name → IsText (quoted name)
quoted_text name h = text_append (codes "\"") (doubled name ++ codes "\"") refl (text_append (doubled name) (codes "\"") (doubled_text name h) refl)

kind_text : (k : Kind) → IsText (type_text k)
kind_text kind.Text = refl
kind_text kind.Integer = refl
kind_text kind.Decimal = refl
kind_text kind.Boolean = refl
kind_text kind.Date = refl
kind_text kind.Time = refl
kind_text kind.DateTime = refl
kind_text kind.Binary = refl

one_column : (column : Column) → IsText column.name → IsText (column_text column)
unfolding column_text
one_column column h = text_append (quoted column.name ++ codes " ") (type_text column.kind) (text_append (quoted column.name) (codes " ") (quoted_text column.name h) refl) (kind_text column.kind)

further : (columns : List Column) → ((column : Column) → IsIn column columns → IsText column.name) → IsText (flat_map further_text columns)
unfolding further_text
further [] h = refl
further (column ∷ columns) h =
    text_append (codes ", " ++ column_text column) (flat_map further_text columns) (text_append (codes ", ") (column_text column) refl (one_column column (h column (inl refl)))) (further columns (λ other m. h other (inr m)))

all_columns : (columns : List Column) → ((column : Column) → IsIn column columns → IsText column.name) → IsText (columns_text columns)
unfolding columns_text
all_columns [] h = refl
all_columns (column ∷ columns) h = text_append (column_text column) (flat_map further_text columns) (one_column column (h column (inl refl))) (further columns (λ other m. h other (inr m)))

one_table : (table : ShapeTable) → IsShapeTable table → IsText (table_text table)
unfolding table_text
one_table table shape =
    let name = quoted_text table.name (text_of_good table.name shape.name) in
    let columns = all_columns table.columns (λ column m. text_of_good column.name (shape.columns column m).0) in
    text_append (codes "CREATE TABLE " ++ quoted table.name ++ codes " (" ++ columns_text table.columns) (codes ");\n")
    (text_append (codes "CREATE TABLE " ++ quoted table.name ++ codes " (") (columns_text table.columns)
    (text_append (codes "CREATE TABLE " ++ quoted table.name) (codes " (") (text_append (codes "CREATE TABLE ") (quoted table.name) refl name) refl) columns) refl

all_tables : (tables : List ShapeTable) → ((table : ShapeTable) → IsIn table tables → IsShapeTable table) → IsText (flat_map table_text tables)
all_tables [] h = refl
all_tables (table ∷ tables) h = text_append (table_text table) (flat_map table_text tables) (one_table table (h table (inl refl))) (all_tables tables (λ other m. h other (inr m)))

-- the canonical statements are read back
pub schema_read : (shape : List ShapeTable) → IsShape shape → IsDdl (encode_utf8_all (canonical_text shape)) (map plain_table shape)
unfolding canonical_text
schema_read shape is = reads_back shape (encode_utf8_all (canonical_text shape)) is (canonical_text shape, (all_tables shape is.each, refl)) refl

-- ---- files of tables

entries_read : (folder : List ℕ) (tables : List PlainTable) (entries : Batch) → ((table : ShapeTable) → IsIn table (shapes_of tables) → IsShapeTable table) → AllZip (λ (table : ShapeTable) (rows : List Row). AreRowsOf table.columns rows) (shapes_of tables) (rows_of tables)
    → AreFilesOf folder (shapes_of tables) (rows_of tables) entries → AreReadBack tables entries
entries_read folder [] [] shape fit h = tt
entries_read folder [] (entry ∷ entries) shape fit h = absurd h
entries_read folder (t ∷ tables) [] shape fit h = absurd h
entries_read folder (t ∷ tables) (entry ∷ entries) shape fit h = (
  file_read t.shape t.rows entry.1 (shape t.shape (inl refl)) fit.0 h.0.text,
  entries_read folder tables entries (λ table m. shape table (inr m)) fit.1 h.1,
)

-- files of tables within the limits are read back
pub are_stored : (folder : List ℕ) (tables : List PlainTable) (files : Batch) → AreOfShape tables → IsWithinLimits tables → AreFolderFiles folder tables files → AreStored folder tables files
are_stored folder tables files of_shape limits are =
    let shape = is_shape tables of_shape limits in
    record {
      are = are;
      declared = schema_read (shapes_of tables) shape;
      read = entries_read folder tables are.entries shape.each (are_fit tables of_shape limits) are.each;
    }
