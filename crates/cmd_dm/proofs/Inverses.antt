-- One answer, and some answer, comes of the triples that are inverted.
use Rattle.std.proofs.Common.{◌≡◌, ◌∙◌, refl, sym, ap, ℕ, suc, List, [], ◌∷◌, Result, Ok, Err, encode_utf8_all}
use Rattle.std.specs.Prelude.{IsTrue}
use Rattle.std.specs.List.{AllZip}
use Rattle.std.proofs.lemmas.List.Sorted.{IsPermutation-map, IsPermutation-trans}
use Rattle.names_dm.specs.Namespaces.{is_base}
use Rattle.names_dm.specs.Statements.{Statement}
use Rattle.facts_dm.proofs.NamingInstance.{naming_laws}
use Rattle.outside_dm.specs.Storing.{Batch}
use Rattle.schema_dm.specs.declared.draft.Column.{Column}
use Rattle.schema_dm.specs.declared.table.ShapeTable.{ShapeTable}
use Rattle.ddl_dm.specs.Canonical.{canonical_text}
use Rattle.table_csv.specs.CanonicalText.{IsCanonicalText, row_fields, text_of}
use Rattle.table_csv.specs.TableFiles.{name_fields}
use Rattle.table_csv.specs.Plain.{PlainTable}
use Rattle.table_csv.proofs.OneText.{text_one, text_some}
use Rattle.layouts_dm.specs.LayoutTables.{SamePlain, StandsFor}
use Rattle.layouts_dm.specs.Outcomes.{Cause, FirstBad}
use Rattle.layouts_dm.specs.Outcomes as cause
use Rattle.layouts_dm.proofs.Tabling.{some_outcome}
use Rattle.layouts_dm.proofs.Values.{stands_for_one}
use Rattle.inverse_dm.specs.Limits.{HasLongTable, HasManyTables, HasWideTable}
use Rattle.inverse_dm.specs.Parts.{rows_of, shape_of as shapes_of}
use Rattle.inverse_dm.specs.declared.error.InverseError.TheVariants as inverse
use Rattle.inverse_dm.proofs.OneAnswer.{refuses_beyond, refuses_not, refuses_one}
use Rattle.cmd_dm.specs.Folder.{AreFilesOf, AreFolderFiles, IsFileOf, schema_file, table_file}
use Rattle.cmd_dm.specs.Questions.{AreInverse, IsInverseAnswer}
use Rattle.cmd_dm.specs.Reasons.{inverse_status, reason}
use Rattle.cmd_dm.specs.declared.status.Reason.{Reason}
use Rattle.cmd_dm.specs.declared.status.Status.TheVariants.{Refused}

-- ---- the same tables have the same files

same_shape : (x y : PlainTable) → SamePlain x y → y.shape ≡ x.shape
same_shape x y s = λ i. record { name = sym s.name i; columns = sym s.columns i }

pub same_shapes : (tables others : List PlainTable) → AllZip SamePlain tables others → shapes_of others ≡ shapes_of tables
same_shapes [] [] same = refl
same_shapes [] (y ∷ others) same = absurd same
same_shapes (x ∷ tables) [] same = absurd same
same_shapes (x ∷ tables) (y ∷ others) same = λ i. same_shape x y same.0 i ∷ same_shapes tables others same.1 i

same_text : (x y : PlainTable) (text : List ℕ) → SamePlain x y → IsCanonicalText y.shape.columns y.rows text → IsCanonicalText x.shape.columns x.rows text
same_text x y text s h = record {
  lines = h.lines;
  same = IsPermutation-trans _ _ _ (IsPermutation-map row_fields x.rows y.rows s.rows) h.same;
  sorted = h.sorted;
  is_text = h.is_text ∙ ap (λ (columns : List Column). text_of (name_fields columns ∷ h.lines)) (sym s.columns);
}

same_entry : (folder : List ℕ) (x y : PlainTable) (entry : List ℕ × List ℕ) → SamePlain x y → IsFileOf folder y.shape y.rows entry → IsFileOf folder x.shape x.rows entry
same_entry folder x y entry s h = record { name = h.name ∙ ap (λ (n : List ℕ). table_file folder n) (sym s.name); text = same_text x y entry.1 s h.text }

same_entries : (folder : List ℕ) (tables others : List PlainTable) (entries : Batch) → AllZip SamePlain tables others → AreFilesOf folder (shapes_of others) (rows_of others) entries
    → AreFilesOf folder (shapes_of tables) (rows_of tables) entries
same_entries folder [] [] entries same h = h
same_entries folder [] (y ∷ others) entries same h = absurd same
same_entries folder (x ∷ tables) [] entries same h = absurd same
same_entries folder (x ∷ tables) (y ∷ others) [] same h = absurd h
same_entries folder (x ∷ tables) (y ∷ others) (entry ∷ entries) same h = (same_entry folder x y entry same.0 h.0, same_entries folder tables others entries same.1 h.1)

pub same_files : (folder : List ℕ) (tables others : List PlainTable) (files : Batch) → AllZip SamePlain tables others → AreFolderFiles folder others files → AreFolderFiles folder tables files
same_files folder tables others files same h = record {
  entries = h.entries;
  each = same_entries folder tables others h.entries same h.each;
  is = h.is ∙ ap (λ (shapes : List ShapeTable). (schema_file folder, encode_utf8_all (canonical_text shapes)) ∷ h.entries) (same_shapes tables others same);
}

entries_one : (folder : List ℕ) (tables : List PlainTable) (a b : Batch) → AreFilesOf folder (shapes_of tables) (rows_of tables) a → AreFilesOf folder (shapes_of tables) (rows_of tables) b → a ≡ b
entries_one folder [] [] [] h k = refl
entries_one folder [] [] (y ∷ b) h k = absurd k
entries_one folder [] (x ∷ a) b h k = absurd h
entries_one folder (t ∷ tables) [] b h k = absurd h
entries_one folder (t ∷ tables) (x ∷ a) [] h k = absurd k
entries_one folder (t ∷ tables) (x ∷ a) (y ∷ b) h k =
    let name : x.0 ≡ y.0 = h.0.name ∙ sym k.0.name in
    let text : x.1 ≡ y.1 = text_one t.shape.columns t.rows x.1 y.1 h.0.text k.0.text in
    let rest : a ≡ b = entries_one folder tables a b h.1 k.1 in
    λ i. (name i, text i) ∷ rest i

files_one : (folder : List ℕ) (tables : List PlainTable) (a b : Batch) → AreFolderFiles folder tables a → AreFolderFiles folder tables b → a ≡ b
files_one folder tables a b h k =
    h.is ∙ ap (λ (entries : Batch). (schema_file folder, encode_utf8_all (canonical_text (shapes_of tables))) ∷ entries) (entries_one folder tables h.entries k.entries h.each k.each) ∙ sym k.is

entries_some : (folder : List ℕ) (tables : List PlainTable) → (entries : Batch) × AreFilesOf folder (shapes_of tables) (rows_of tables) entries
entries_some folder [] = ([], tt)
entries_some folder (t ∷ tables) =
    let text = text_some t.shape.columns t.rows in
    let rest = entries_some folder tables in
    ((table_file folder t.shape.name, text.0) ∷ rest.0, (record { name = refl; text = text.1 }, rest.1))

pub files_some : (folder : List ℕ) (tables : List PlainTable) → (files : Batch) × AreFolderFiles folder tables files
files_some folder tables =
    let found = entries_some folder tables in
    ((schema_file folder, encode_utf8_all (canonical_text (shapes_of tables))) ∷ found.0, record { entries = found.0; each = found.1; is = refl })

-- ---- one answer

refusal_one : (r s : Reason) → Refused r ≡ Refused s → r ≡ s
refusal_one r s e = cc

module _ (base : List ℕ) (good : IsTrue (is_base base)) (triples : List Statement) (folder : List ℕ) where
  -- the files of all tables that the triples stand for are the same
  pub inverse_files : (tables : List PlainTable) (files : Batch) → StandsFor base triples tables → AreInverse base triples folder files → AreFolderFiles folder tables files
  inverse_files tables files stands are =
      same_files folder tables are.tables files (stands_for_one base (naming_laws base good) triples tables are.tables stands are.stands.stands) are.of_tables

  pub inverse_answer_unique : (a b : Result Batch Reason) → IsInverseAnswer base triples folder a → IsInverseAnswer base triples folder b → a ≡ b
  inverse_answer_unique (Ok x) (Ok y) h k = ap Ok (files_one folder h.tables x y h.of_tables (inverse_files h.tables y h.stands.stands k))
  inverse_answer_unique (Ok x) (Err r) h k = absurd (refuses_not base (naming_laws base good) triples k.0 h.tables h.stands k.1)
  inverse_answer_unique (Err r) (Ok y) h k = absurd (refuses_not base (naming_laws base good) triples h.0 k.tables k.stands h.1)
  inverse_answer_unique (Err r) (Err s) h k =
      let same = refuses_one base (naming_laws base good) triples h.0 k.0 h.1 k.1 in
      ap Err (refusal_one r s (sym h.2 ∙ ap inverse_status same ∙ k.2))

  -- ---- some answer

  abbrev NoAnswer : Type 0
  NoAnswer = (answer : Result Batch Reason) → ¬ IsInverseAnswer base triples folder answer

  no_cause : NoAnswer → (i : ℕ) (c : Cause) → ¬ FirstBad base triples i c
  no_cause none i cause.Unexplained h = none (Err (reason 30 0 (suc i) 0)) (inverse.Unexplained (suc i), (i, refl, h), refl)
  no_cause none i cause.TwoValues h = none (Err (reason 31 0 (suc i) 0)) (inverse.TwoValues (suc i), (i, refl, h), refl)
  no_cause none i cause.TwoTables h = none (Err (reason 32 0 (suc i) 0)) (inverse.TwoTables (suc i), (i, refl, h), refl)
  no_cause none i cause.NoKeyValue h = none (Err (reason 33 0 (suc i) 0)) (inverse.NoKeyValue (suc i), (i, refl, h), refl)

  no_tables : NoAnswer → (tables : List PlainTable) → ¬ StandsFor base triples tables
  no_tables none tables stands =
      let laws = naming_laws base good in
      let few : ¬ HasManyTables tables = λ many. none (Err (reason 13 0 0 0)) (inverse.TooManyTables, refuses_beyond base laws triples inverse.TooManyTables tables stands many, refl) in
      let narrow : ¬ HasWideTable tables = λ wide. none (Err (reason 14 0 0 0)) (inverse.TooManyColumns, refuses_beyond base laws triples inverse.TooManyColumns tables stands (few, wide), refl) in
      let short : ¬ HasLongTable tables = λ long. none (Err (reason 25 0 0 0)) (inverse.TooManyRows, refuses_beyond base laws triples inverse.TooManyRows tables stands (few, narrow, long), refl) in
      let made = files_some folder tables in
      none (Ok made.0) (record { tables = tables; stands = record { stands = stands; limits = record { few_tables = few; few_columns = narrow; few_rows = short } }; of_tables = made.1 })

  pub inverse_answer_some : ¬ ((answer : Result Batch Reason) → ¬ IsInverseAnswer base triples folder answer)
  inverse_answer_some none =
      some_outcome base (naming_laws base good) triples (λ e. none (Err (reason 44 0 0 0)) (inverse.NoTables, e, refl)) (no_cause none) (no_tables none)
