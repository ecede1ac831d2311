-- The files of the first tables of a folder.
use Rattle.std.proofs.Common.{◌≡◌, ◌∙◌, ℕ, ◌+◌, List, [], ◌∷◌, ◌++◌, length, take, Some, sym, ap, subst, arith}
use Rattle.std.specs.Prelude.{map, slice_get}
use Rattle.std.proofs.lemmas.List.{map-append, take_more, take_all}
use Rattle.std.proofs.lemmas.Option.{get_or_from_slice_get, slice_get_within}
use Rattle.outside_dm.specs.Storing.{Batch}
use Rattle.outside_dm.specs.declared.files.NamedFile.{NamedFile}
use Rattle.schema_dm.specs.Schemas.{IsSchema}
use Rattle.schema_dm.specs.declared.table.ShapeTable.{ShapeTable}
use Rattle.schema_dm.specs.declared.table.Table.{Table}
use Rattle.members_dm.specs.Membership.{IsIn}
use Rattle.members_dm.proofs.MembershipLemmas.{IsIn-map}
use Rattle.table_csv.specs.CanonicalText.{AreTextColumns}
use Rattle.table_csv.specs.Cells.{AreRowsOf, Row}
use Rattle.std.specs.List.{AllZip}
use Rattle.cmd_dm.specs.Folder.{AreFilesOf, IsFileOf, entry_of, shape_of}

files_behind : (folder : List ℕ) (tables : List ShapeTable) (rows : List (List Row)) (files : Batch) (table : ShapeTable) (r : List Row) (entry : List ℕ × List ℕ) → AreFilesOf folder tables rows files → IsFileOf folder table r entry →
    AreFilesOf folder (tables ++ table ∷ []) (rows ++ r ∷ []) (files ++ entry ∷ [])
files_behind folder [] [] [] table r entry h is = (is, tt)
files_behind folder [] [] (x ∷ files) table r entry h is = absurd h
files_behind folder [] (s ∷ rows) [] table r entry h is = absurd h
files_behind folder [] (s ∷ rows) (x ∷ files) table r entry h is = absurd h
files_behind folder (t ∷ tables) [] [] table r entry h is = absurd h
files_behind folder (t ∷ tables) [] (x ∷ files) table r entry h is = absurd h
files_behind folder (t ∷ tables) (s ∷ rows) [] table r entry h is = absurd h
files_behind folder (t ∷ tables) (s ∷ rows) (x ∷ files) table r entry h is = (h.0, files_behind folder tables rows files table r entry h.1 is)

-- the files are the first entry and those of the first tables
abbrev pub FilesSoFar : List ℕ → List ℕ × List ℕ → List ShapeTable → List (List Row) → ℕ → List NamedFile → Type 0
FilesSoFar folder first tables rows place files =
    (batch : Batch) × AreFilesOf folder (take place tables) (take place rows) batch × (map entry_of files ≡ first ∷ batch)

pub first_file : (folder : List ℕ) (first : List ℕ × List ℕ) (tables : List ShapeTable) (rows : List (List Row)) (file : NamedFile) → entry_of file ≡ first → FilesSoFar folder first tables rows 0 (file ∷ [])
first_file folder first tables rows file is = ([], tt, ap (λ (e : List ℕ × List ℕ). e ∷ []) is)

pub files_more : (folder : List ℕ) (first : List ℕ × List ℕ) (tables : List ShapeTable) (rows : List (List Row)) (place : ℕ) (table : ShapeTable) (r : List Row) (files : List NamedFile) (file : NamedFile) →
    slice_get tables place ≡ Some table → slice_get rows place ≡ Some r → IsFileOf folder table r (entry_of file) → FilesSoFar folder first tables rows place files → FilesSoFar folder first tables rows (place + 1) (files ++ file ∷ [])
files_more folder first tables rows place table r files file here row is before =
    let one_table : take (place + 1) tables ≡ take place tables ++ table ∷ [] =
    take_more tables place table (slice_get_within tables place table here) ∙ ap (λ (x : ShapeTable). take place tables ++ x ∷ []) (get_or_from_slice_get tables place table table here) in
    let one_row : take (place + 1) rows ≡ take place rows ++ r ∷ [] =
    take_more rows place r (slice_get_within rows place r row) ∙ ap (λ (x : List Row). take place rows ++ x ∷ []) (get_or_from_slice_get rows place r r row) in (
      before.0 ++ entry_of file ∷ [],
      subst (λ (ts : List ShapeTable). AreFilesOf folder ts (take (place + 1) rows) (before.0 ++ entry_of file ∷ [])) (sym one_table)
          (subst (λ (rs : List (List Row)). AreFilesOf folder (take place tables ++ table ∷ []) rs (before.0 ++ entry_of file ∷ [])) (sym one_row)
          (files_behind folder (take place tables) (take place rows) before.0 table r (entry_of file) before.1 is)),
      map-append entry_of files (file ∷ []) ∙ ap (λ (es : Batch). es ++ entry_of file ∷ []) before.2,
    )

pub all_files : (folder : List ℕ) (first : List ℕ × List ℕ) (tables : List ShapeTable) (rows : List (List Row)) (place : ℕ) (files : List NamedFile) → length tables ≡ place → length rows ≡ place → FilesSoFar folder first tables rows place files →
    (batch : Batch) × AreFilesOf folder tables rows batch × (map entry_of files ≡ first ∷ batch)
all_files folder first tables rows place files whole all before = (
  before.0,
  subst (λ (ts : List ShapeTable). AreFilesOf folder ts rows before.0) (take_all place tables (omega (arith, whole)))
      (subst (λ (rs : List (List Row)). AreFilesOf folder (take place tables) rs before.0) (take_all place rows (omega (arith, all))) before.1),
  before.2,
)

-- the tables of a schema have texts
pub text_columns : (tables : List Table) → IsSchema tables → (table : ShapeTable) → IsIn table (map shape_of tables) → AreTextColumns table.columns
text_columns tables schema table m =
    let there : (t : Table) × IsIn t tables × (shape_of t ≡ table) = IsIn-map shape_of table tables m in
    let is = schema.each there.0 there.1 in
    subst (λ (s : ShapeTable). AreTextColumns s.columns) there.2 (record { some = is.some_column; distinct = is.distinct; names = is.column_names })

-- rows that fit tables fit them without their keys
pub shapes_fit : (tables : List Table) (rows : List (List Row)) → AllZip (λ (table : Table) (rows : List Row). AreRowsOf table.columns rows) tables rows →
    AllZip (λ (table : ShapeTable) (rows : List Row). AreRowsOf table.columns rows) (map shape_of tables) rows
shapes_fit [] [] h = tt
shapes_fit [] (r ∷ rows) h = absurd h
shapes_fit (t ∷ tables) [] h = absurd h
shapes_fit (t ∷ tables) (r ∷ rows) h = (h.0, shapes_fit tables rows h.1)
