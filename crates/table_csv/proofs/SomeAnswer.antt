-- A table file stands for rows, or it has a first fault.
use Rattle.std.proofs.Common.{◌≡◌, ◌≢◌, ◌∙◌, ℕ, zero, suc, ◌+◌, ◌<◌, ◌≤◌, List, [], ◌∷◌, ◌++◌, length, get_or, Option, Some, None, Bool, true, false, refl, sym, ap, subst, ◌⊎◌, inl, inr, arith, chars, append-nil}
use Rattle.std.specs.Prelude.{IsUtf8, nat_eq, slice_get}
use Rattle.std.specs.List.{AllZip}
use Rattle.std.specs.Cmp.Lexicographic.{bytes_decides, pointwise}
use Rattle.std.proofs.lemmas.Bool.{cases_eq, cases_lt}
use Rattle.std.proofs.lemmas.List.{append_assoc, length-append}
use Rattle.std.proofs.lemmas.Option.{slice_get-get_or}
use Rattle.value_dm.specs.Spelling.{Spells}
use Rattle.value_dm.specs.declared.mode.NullMode.{NullMode}
use Rattle.members_dm.specs.Membership.{IsIn, NoRepeats}
use Rattle.members_dm.proofs.ElementsLemmas.{index_of_item, item_within, one_by_key, one_index}
use Rattle.members_dm.proofs.ElementsTests.{IsIn-decides, stable_by_test}
use Rattle.members_dm.proofs.MembershipLemmas.{IsIn-append, IsIn-map, map-IsIn}
use Rattle.schema_dm.specs.declared.draft.Column.{Column}
use Rattle.table_csv.specs.Cells.{Cell, Row}
use Rattle.table_csv.specs.TableFiles.{HasFieldFault, HasRecordFault, HasRows, IsBadHeader, IsBadNext, IsFieldOf, IsFirstFault, IsGoodField, IsHeader, IsRecordFault, Record, SpellsCell, SpellsRow, name_field, name_fields}
use Rattle.table_csv.specs.declared.fault.TableError.{TableError}
use Rattle.table_csv.specs.declared.fault.TableError.TheVariants as fault
use Rattle.table_csv.proofs.Distinct.{no_repeats_more}
use Rattle.table_csv.proofs.OneFile.{header_length}
use Rattle.table_csv.proofs.Zips.{zipped_behind, zipped_length}

-- ---- the header

found_in : (x : List ℕ) (xs : Record) → ¬ ¬ IsIn x xs → IsIn x xs
found_in x xs not_missing = stable_by_test _ (IsIn-decides (pointwise nat_eq) bytes_decides x xs) not_missing

module _ (columns : List Column) (header : Record) (none : (place : ℕ) → ¬ IsBadHeader columns header place) where
  names_from : (before after : Record) → header ≡ before ++ after → ((field : List ℕ) → IsIn field before → IsIn field (name_fields columns)) → NoRepeats before → IsHeader columns header
  names_from before [] parts names once =
      let whole : before ≡ header = sym (parts ∙ append-nil before) in
      record {
        once = subst NoRepeats whole once;
        names = λ field. (
          (λ m. names field (subst (λ (h : Record). IsIn field h) (sym whole) m)),
          (λ m. subst (λ (h : Record). IsIn field h) whole (found_in field before (λ missing. missed (IsIn-map name_field field columns m) missing))),
        );
      }
    where
      missed : {field : List ℕ} → (column : Column) × IsIn column columns × (name_field column ≡ field) → ¬ IsIn field before → ⊥
      missed c missing = none (length before + 1) (record {
        before = before;
        after = [];
        parts = parts;
        is_place = refl;
        names = names;
        once = once;
        bad = (c.0, c.1, λ there. missing (subst (λ (f : List ℕ). IsIn f before) c.2 there));
      })
  names_from before (field ∷ rest) parts names once =
      let named : IsIn field (name_fields columns) = found_in field (name_fields columns) (λ other. none (length before + 1) (bad_at (inl other))) in
      let fresh : ¬ IsIn field before = λ again. none (length before + 1) (bad_at (inr again)) in
      names_from (before ++ field ∷ []) rest (parts ∙ sym (append_assoc before (field ∷ []) rest)) (λ other m. with_last named other (IsIn-append other before (field ∷ []) m))
      (no_repeats_more before field once fresh)
    where
      bad_at : IsBadNext columns before (field ∷ rest) → IsBadHeader columns header (length before + 1)
      bad_at bad = record { before = before; after = field ∷ rest; parts = parts; is_place = refl; names = names; once = once; bad = bad }

      with_last : IsIn field (name_fields columns) → (other : List ℕ) → IsIn other before ⊎ IsIn other (field ∷ []) → IsIn other (name_fields columns)
      with_last named other (inl there) = names other there
      with_last named other (inr (inl same)) = subst (λ (f : List ℕ). IsIn f (name_fields columns)) same named
      with_last named other (inr (inr m)) = absurd m

-- ---- a record

module _ (columns : List Column) (mode : NullMode) (header fields : Record) (distinct : NoRepeats (name_fields columns)) (named : IsHeader columns header) (size : length fields ≡ length columns) where
  abbrev IsGood : ℕ → Type 0
  IsGood k = IsGoodField columns mode header fields k

  -- the column that the header names at a place
  named_there : (k : ℕ) → k < length columns → (column : Column) × IsFieldOf columns header fields k column (get_or fields k [])
  named_there k less =
      let long = header_length columns header distinct named in
      let c = IsIn-map name_field (get_or header k []) columns ((named.names (get_or header k [])).0 (item_within header k [] (omega (arith, less, long)))) in (
        c.0,
        record {
          declared = c.1;
          named = slice_get-get_or header k [] (omega (arith, less, long)) ∙ ap (λ (f : List ℕ). Some f) (sym c.2);
          here = slice_get-get_or fields k [] (omega (arith, less, size));
        },
      )

  module _ (number : ℕ) (none : (error : TableError) → error ≢ fault.Memory → ¬ HasFieldFault columns mode header fields number error) where
    good_at : (k : ℕ) → k < length columns → ((j : ℕ) → j < k → IsGood j) → ¬ ¬ IsGood k
    good_at k less before bad =
        let at = named_there k less in
        let column = at.0 in
        let field = get_or fields k [] in
        let text : ¬ ¬ IsUtf8 field = λ no_text. none (fault.TextNotUtf8 number (k + 1)) (λ e. absurd cc)
        (record { at = k; column = column; field = field; before = before; is_field = at.1; bad = (refl, refl, no_text) }) in
        text (λ utf8.
        let spelled : ¬ ((cell : Cell) → ¬ Spells column.kind (chars field) mode cell) = λ no_cell. none (fault.BadValue number (k + 1)) (λ e. absurd cc)
        (record { at = k; column = column; field = field; before = before; is_field = at.1; bad = (refl, refl, utf8, no_cell) }) in
        spelled (λ cell spells. by_cell at.0 at.1 utf8 cell spells column.not_null refl))
      where
        by_cell : (column : Column) → IsFieldOf columns header fields k column (get_or fields k []) → IsUtf8 (get_or fields k []) → (cell : Cell) → Spells column.kind (chars (get_or fields k [])) mode cell
            → (refused : Bool) → column.not_null ≡ refused → ⊥
        by_cell column is_field utf8 (Some v) spells refused is =
            bad (record { column = column; field = _; cell = Some v; is_field = is_field; spells = record { text = utf8; spells = spells; allowed = λ e. absurd cc } })
        by_cell column is_field utf8 None spells false is =
            bad (record { column = column; field = _; cell = None; is_field = is_field; spells = record { text = utf8; spells = spells; allowed = λ e. is } })
        by_cell column is_field utf8 None spells true is = none (fault.NullRefused number (k + 1)) (λ e. absurd cc)
            (record { at = k; column = column; field = _; before = before; is_field = is_field; bad = (refl, refl, utf8, spells, is) })

    good_below : (k : ℕ) → k ≤ length columns → ¬ ¬ ((j : ℕ) → j < k → IsGood j)
    good_below zero most bad = bad (λ j less. absurd (omega (arith, less)))
    good_below (suc k) most bad =
        good_below k (omega (arith, most)) (λ before. good_at k (omega (arith, most)) before (λ good. bad (λ j less. one_more before good j less (cases_eq j k))))
      where
        one_more : ((j : ℕ) → j < k → IsGood j) → IsGood k → (j : ℕ) → j < suc k → (j ≡ k) ⊎ (j ≡ k → ⊥) → IsGood j
        one_more before good j less (inl same) = subst IsGood (sym same) good
        one_more before good j less (inr other) = before j (omega (arith, less, other))

  module _ (good : (j : ℕ) → j < length columns → IsGood j) where
    abbrev IsCellFor : Column → Cell → Type 0
    IsCellFor column cell = (at : ℕ) (field : List ℕ) → slice_get header at ≡ Some (name_field column) → slice_get fields at ≡ Some field → SpellsCell mode column field cell

    cell_for : (column : Column) → IsIn column columns → (cell : Cell) × IsCellFor column cell
    cell_for column m =
        let long = header_length columns header distinct named in
        let at = index_of_item (name_field column) header ((named.names (name_field column)).1 (map-IsIn name_field column columns m)) in
        let g = good at.0 (omega (arith, at.1, long)) in
        let is_field = g.is_field in
        let names : name_field g.column ≡ name_field column = some_one _ _ (sym is_field.named ∙ at.2) in
        let same : g.column ≡ column = one_by_key name_field columns distinct g.column column is_field.declared m names in (
          g.cell,
          λ other field there here.
              let place : other ≡ at.0 = one_index header (name_field column) other at.0 named.once there at.2 in
              let fields_same : g.field ≡ field = some_one _ _ (sym is_field.here ∙ subst (λ (n : ℕ). slice_get fields n ≡ Some field) place here) in
              subst (λ (f : List ℕ). SpellsCell mode column f g.cell) fields_same (subst (λ (c : Column). SpellsCell mode c g.field g.cell) same g.spells),
        )
      where
        some_one : (x y : List ℕ) → Some x ≡ Some y → x ≡ y
        some_one x y e = cc

    cells_for : (some : List Column) → ((column : Column) → IsIn column some → IsIn column columns) → (row : Row) × AllZip IsCellFor some row
    cells_for [] within = ([], tt)
    cells_for (column ∷ others) within =
        let cell = cell_for column (within column (inl refl)) in
        let rest = cells_for others (λ c m. within c (inr m)) in
        (cell.0 ∷ rest.0, (cell.1, rest.1))

    cell_at : (some : List Column) (row : Row) → AllZip IsCellFor some row → (place : ℕ) (column : Column) (cell : Cell) → slice_get some place ≡ Some column → slice_get row place ≡ Some cell → IsCellFor column cell
    cell_at [] row h place column cell c r = absurd (nothing column c)
      where
        nothing : (column : Column) → ◌≡◌ {A = Option Column} None (Some column) → ⊥
        nothing column e = cc
    cell_at (x ∷ some) [] h place column cell c r = absurd h
    cell_at (x ∷ some) (y ∷ row) h zero column cell c r = subst (λ (z : Cell). IsCellFor column z) (cell_one y cell r) (subst (λ (z : Column). IsCellFor z y) (column_one x column c) h.0)
      where
        column_one : (a b : Column) → ◌≡◌ {A = Option Column} (Some a) (Some b) → a ≡ b
        column_one a b e = cc

        cell_one : (a b : Cell) → ◌≡◌ {A = Option Cell} (Some a) (Some b) → a ≡ b
        cell_one a b e = cc
    cell_at (x ∷ some) (y ∷ row) h (suc place) column cell c r = cell_at some row h.1 place column cell c r

    row_there : (row : Row) × SpellsRow columns mode header fields row
    row_there =
        let cells = cells_for columns (λ c m. m) in (
          cells.0,
          record {
            fields_fit = size;
            cells_fit = sym (zipped_length IsCellFor columns cells.0 cells.1);
            each = λ at place column field cell names declared here there. cell_at columns cells.0 cells.1 place column cell declared there at field names here;
          },
        )

-- ---- a file

record_first : (columns : List Column) (mode : NullMode) (file : List Record) (error : TableError) → error ≢ fault.Memory → HasRecordFault columns mode file error → IsFirstFault columns mode file error
record_first columns mode file fault.NoHeader other h = absurd h.bad.2.bad
record_first columns mode file (fault.BadHeader c) other h = absurd h.bad.2.bad
record_first columns mode file (fault.FieldCount r) other h = h
record_first columns mode file (fault.TextNotUtf8 r c) other h = h
record_first columns mode file (fault.BadValue r c) other h = h
record_first columns mode file (fault.NullRefused r c) other h = h
record_first columns mode file fault.TooManyRows other h = h
record_first columns mode file fault.Memory other h = absurd (other refl)

-- a fault in a field of a record is one of the record
field_record : (columns : List Column) (mode : NullMode) (header fields : Record) (count : ℕ) (error : TableError) → count < 4194304 → length fields ≡ length columns → HasFieldFault columns mode header fields (count + 2) error
    → IsRecordFault columns mode header count fields error
field_record columns mode header fields count fault.NoHeader less size h = absurd h.bad
field_record columns mode header fields count (fault.BadHeader c) less size h = absurd h.bad
field_record columns mode header fields count (fault.FieldCount r) less size h = absurd h.bad
field_record columns mode header fields count (fault.TextNotUtf8 r c) less size h = (less, size, h)
field_record columns mode header fields count (fault.BadValue r c) less size h = (less, size, h)
field_record columns mode header fields count (fault.NullRefused r c) less size h = (less, size, h)
field_record columns mode header fields count fault.TooManyRows less size h = absurd h.bad
field_record columns mode header fields count fault.Memory less size h = absurd h.bad

module _ (columns : List Column) (mode : NullMode) (distinct : NoRepeats (name_fields columns)) where
  record_some : (header fields : Record) (count : ℕ) → IsHeader columns header → count ≤ 4194304 → ((error : TableError) → error ≢ fault.Memory → ¬ IsRecordFault columns mode header count fields error)
      → ¬ ¬ ((row : Row) × SpellsRow columns mode header fields row × (count < 4194304))
  record_some header fields count named most none bad = elim (cases_lt count 4194304) [
    | inr many ↦ none fault.TooManyRows (λ e. absurd cc) (omega (arith, most, many))
    | inl less ↦ elim (cases_eq (length fields) (length columns)) [
      | inr other ↦ none (fault.FieldCount (count + 2)) (λ e. absurd cc) (less, refl, other)
      | inl size ↦ good_below columns mode header fields distinct named size (count + 2) (λ error ne h. none error ne (field_record columns mode header fields count error less size h)) (length columns) (omega arith)
          (λ good. let row = row_there columns mode header fields distinct named size good in bad (row.0, row.1, less))
    ]
  ]

  module _ (file : List Record) (header : Record) (named : IsHeader columns header) (no_rows : (rows : List Row) → ¬ HasRows columns mode file rows)
      (no_fault : (error : TableError) → error ≢ fault.Memory → ¬ IsFirstFault columns mode file error) where
    rows_from : (good rest : List Record) (rows : List Row) → file ≡ header ∷ (good ++ rest) → AllZip (SpellsRow columns mode header) good rows → length rows ≤ 4194304 → ⊥
    rows_from good [] rows parts each few =
        no_rows rows (record { header = header; body = good; parts = parts ∙ ap (λ (body : List Record). header ∷ body) (append-nil good); names = named; each = each; few = few })
    rows_from good (fields ∷ rest) rows parts each few =
        let size = zipped_length (SpellsRow columns mode header) good rows each in
        record_some header fields (length good) named (omega (arith, few, size)) (λ error ne bad.
        no_fault error ne (record_first columns mode file error ne (record {
          header = header;
          good = good;
          record_at_fault = fields;
          further = rest;
          parts = parts;
          names = named;
          rows = rows;
          each = each;
          bad = bad;
        })))
        (λ h.
        let longer = length-append rows (h.0 ∷ []) in
        rows_from (good ++ fields ∷ []) rest (rows ++ h.0 ∷ []) (parts ∙ ap (λ (body : List Record). header ∷ body) (sym (append_assoc good (fields ∷ []) rest)))
        (zipped_behind (SpellsRow columns mode header) good rows fields h.0 each h.1) (let less = h.2 in omega (arith, size, longer, less)))

  -- without a first fault, besides want of memory, a file stands for rows
  pub file_some : (file : List Record) → ((rows : List Row) → ¬ HasRows columns mode file rows) → ¬ ((error : TableError) → error ≢ fault.Memory → ¬ IsFirstFault columns mode file error)
  file_some [] no_rows no_fault = no_fault fault.NoHeader (λ e. absurd cc) refl
  file_some (header ∷ body) no_rows no_fault =
      rows_from (header ∷ body) header
      (names_from columns header (λ place bad. no_fault (fault.BadHeader place) (λ e. absurd cc) (header, body, refl, bad)) [] header refl (λ field m. absurd m) tt)
      no_rows no_fault [] body [] refl tt (omega arith)
