-- References and the rows that they bring in.
use Rattle.std.proofs.Common.{◌≡◌, ◌∙◌, ◌⊎◌, ◌+◌, ◌<◌, ◌≤◌, ℕ, List, [], ◌∷◌, ◌++◌, length, take, get_or, None, Result, Ok, Err, refl, sym, subst, inl, inr, arith}
use Rattle.std.specs.Prelude.{OnOk}
use Rattle.std.specs.declared.alloc.AllocError.{AllocError}
use Rattle.std.proofs.lemmas.List.{get_or-map, length-map, take_all, take_more}
use Rattle.std.proofs.lemmas.Bool.Decides.{eqb_tells}
use Rattle.members_dm.specs.Membership.{IsIn}
use Rattle.members_dm.proofs.MembershipLemmas.{IsIn-front, IsIn-back, IsIn-append}
use Rattle.schema_dm.specs.Schemas.{table_at}
use Rattle.schema_dm.specs.declared.table.ForeignKey.{ForeignKey}
use Rattle.table_csv.specs.Cells.{cells_at}
use Rattle.table_csv.specs.Databases.{Data, rows_at}
use Rattle.keys_dm.specs.Entries.{positions_of}
use Rattle.keys_dm.specs.Indexes.{IsIndexOf}
use Rattle.keys_dm.specs.KeyCells.{AreRowsWith, IsRowWith, row_at}
use Rattle.keys_dm.specs.declared.index.Entry.{Entry}
use Rattle.clean_dm.specs.Parts.{IsRow}
use Rattle.clean_dm.specs.References.{AreReferences, HasReferences, IsReference, PutsReferences, StandsFor}
use Rattle.clean_dm.specs.RowSets.{Gains}
use Rattle.clean_dm.specs.Working.{AreRows, GainsFirst, GainsMatching, GainsReferencing, GainsRows}
use Rattle.clean_dm.specs.declared.references.Reference.{Reference}
use Rattle.clean_dm.specs.declared.row_set.RowSet.{RowSet}

-- an item of one more place
pub of_more : {X : Type 0} (xs : List X) (i : ℕ) (x y : X) → i < length xs → x ≡ get_or xs i x → IsIn y (take (i + 1) xs) → IsIn y (take i xs) ⊎ (x ≡ y)
of_more {X} xs i x y below is h =
    let front : IsIn y (take i xs ++ get_or xs i x ∷ []) = subst (λ (ys : List X). IsIn y ys) (take_more xs i x below) h in
    elim (IsIn-append y (take i xs) (get_or xs i x ∷ []) front) [
      | inl k ↦ inl k
      | inr k ↦ elim k [ inl e ↦ inr (is ∙ e) | inr none ↦ absurd none ]
    ]

pub to_more : {X : Type 0} (xs : List X) (i : ℕ) (x y : X) → i < length xs → x ≡ get_or xs i x → IsIn y (take i xs) ⊎ (x ≡ y) → IsIn y (take (i + 1) xs)
to_more {X} xs i x y below is h = subst (λ (ys : List X). IsIn y ys) (sym (take_more xs i x below)) (elim h [
  | inl k ↦ IsIn-front y (take i xs) (get_or xs i x ∷ []) k
  | inr e ↦ IsIn-back y (take i xs) (get_or xs i x ∷ []) (inl (sym is ∙ e))
])

-- ---- references

pub puts_on : (D : Data) (t i : ℕ) (old now new : List Reference) (keys : List ForeignKey) (key : ForeignKey) (reference : Reference) → t < length D.tables → i < length keys → key ≡ get_or keys i key → PutsReferences D t old now (take i keys)
    → StandsFor D t key reference → new ≡ now ++ reference ∷ [] → PutsReferences D t old new (take (i + 1) keys)
puts_on D t i old now new keys key reference in_table below is before stands whole = record {
  kept = λ r h. more r (inl (before.kept r h));
  each = λ r h. elim (IsIn-append r now (reference ∷ []) (subst (λ (rs : List Reference). IsIn r rs) whole h)) [
    | inl k ↦ before.each r k
    | inr k ↦ elim k [ inl e ↦ inr (subst (IsReference D) e good) | inr none ↦ absurd none ]
  ];
  all = λ other h. elim (of_more keys i key other below is h) [
    | inl k ↦ (let found = before.all other k in (found.0, more found.0 (inl found.1), found.2))
    | inr e ↦ (reference, more reference (inr refl), subst (λ (k : ForeignKey). StandsFor D t k reference) e stands)
  ];
}
  where
    more : (r : Reference) → IsIn r now ⊎ (reference ≡ r) → IsIn r new
    more r h = subst (λ (rs : List Reference). IsIn r rs) (sym whole) (elim h [ inl k ↦ IsIn-front r now (reference ∷ []) k | inr e ↦ IsIn-back r now (reference ∷ []) (inl e) ])

    good : IsReference D reference
    good = record {
      table = subst (λ (u : ℕ). u < length D.tables) (sym stands.table) in_table;
      rows = subst {A = ForeignKey} (λ (k : ForeignKey). IsIndexOf (rows_at D.rows reference.table) k.columns reference.rows) (sym stands.same_key)
          (subst (λ (u : ℕ). IsIndexOf (rows_at D.rows u) key.columns reference.rows) (sym stands.table) stands.rows);
    }

pub references_on : (D : Data) (n : ℕ) (now new : List Reference) → AreReferences D n now → PutsReferences D n now new (table_at D.tables n).foreign → AreReferences D (n + 1) new
references_on D n now new before puts = record {
  each = λ r h. elim (puts.each r h) [ inl k ↦ before.each r k | inr good ↦ good ];
  all = λ t less. elim (eqb_tells t n) [
    | inl e ↦ subst (λ (u : ℕ). HasReferences D new u (table_at D.tables u).foreign) (sym e.1) puts.all
    | inr e ↦ (let apart : t ≡ n → ⊥ = e.1 in λ key h. (let found = before.all t (omega arith) key h in (found.0, puts.kept found.0 found.1, found.2)))
  ];
}

-- ---- rows that come in

pub rows_on : (old now new : RowSet) (t i row : ℕ) (rows : List ℕ) → i < length rows → row ≡ get_or rows i row → GainsRows old now t (take i rows) → Gains now new t row → GainsRows old new t (take (i + 1) rows)
rows_on old now new t i row rows below is before gains = record {
  each = λ u j. (
    (λ h. elim ((gains.each u j).0 h) [
      | inl k ↦ elim ((before.each u j).0 k) [ inl was ↦ inl was | inr in_rows ↦ inr (in_rows.0, to_more rows i row j below is (inl in_rows.1)) ]
      | inr same ↦ inr (same.0, to_more rows i row j below is (inr (sym same.1)))
    ]),
    (λ h. (gains.each u j).1 (elim h [
      | inl was ↦ inl ((before.each u j).1 (inl was))
      | inr in_rows ↦ elim (of_more rows i row j below is in_rows.1) [ inl k ↦ inl ((before.each u j).1 (inr (in_rows.0, k))) | inr e ↦ inr (in_rows.0, sym e) ]
    ])),
  );
}

pub rows_none : (old : RowSet) (t : ℕ) → GainsRows old old t []
rows_none old t = record { each = λ u j. ((λ h. inl h), (λ h. elim h [ inl k ↦ k | inr k ↦ absurd k.1 ])) }

-- the same by the entries of rows
pub entries_on : (old now new : RowSet) (t i : ℕ) (d : Entry) (entries : List Entry) → i < length entries → GainsRows old now t (take i (positions_of entries)) → Gains now new t (get_or entries i d).row
    → GainsRows old new t (take (i + 1) (positions_of entries))
entries_on old now new t i d entries below before gains =
    let long : length (positions_of entries) ≡ length entries = length-map entries (λ (entry : Entry). entry.row) in
    let row : get_or (positions_of entries) i (get_or entries i d).row ≡ (get_or entries i d).row = get_or-map (λ (entry : Entry). entry.row) entries i d (get_or entries i d).row below in
    rows_on old now new t i (get_or entries i d).row (positions_of entries) (omega arith) (sym row) before gains

pub entries_all : (old new : RowSet) (t i : ℕ) (entries : List Entry) → length entries ≤ i → GainsRows old new t (take i (positions_of entries)) → GainsRows old new t (positions_of entries)
entries_all old new t i entries whole h =
    let long : length (positions_of entries) ≡ length entries = length-map entries (λ (entry : Entry). entry.row) in
    subst (GainsRows old new t) (take_all i (positions_of entries) (omega arith)) h

pub gains_matching : (D : Data) (old new : RowSet) (t i : ℕ) (reference : Reference) (positions : List ℕ) → IsReference D reference → AreRows D old
    → AreRowsWith (rows_at D.rows reference.table) reference.key.columns (cells_at reference.key.target_columns (row_at (rows_at D.rows t) i)) positions → GainsRows old new reference.table positions → GainsMatching D old new t i reference
gains_matching D old new t i reference positions good rows found gains = record {
  rows = λ u j h. elim ((gains.each u j).0 h) [
    | inl was ↦ rows u j was
    | inr came ↦
        (let row : IsRowWith (rows_at D.rows reference.table) reference.key.columns (cells_at reference.key.target_columns (row_at (rows_at D.rows t) i)) j = (found.exact j).0 came.1 in
        (subst (λ (v : ℕ). v < length D.tables) (sym came.0) good.table, subst (λ (v : ℕ). IsRow D v j) (sym came.0) row.0))
  ];
  kept = λ u j h. (gains.each u j).1 (inl h);
  all = λ u key stands target j row whole match.
      let here : IsRowWith (rows_at D.rows u) key.columns (cells_at key.target_columns (row_at (rows_at D.rows t) i)) j = (row, match) in
      let of_table : IsRowWith (rows_at D.rows reference.table) key.columns (cells_at key.target_columns (row_at (rows_at D.rows t) i)) j =
      subst (λ (v : ℕ). IsRowWith (rows_at D.rows v) key.columns (cells_at key.target_columns (row_at (rows_at D.rows t) i)) j) (sym stands.table) here in
      let of_key : IsRowWith (rows_at D.rows reference.table) reference.key.columns (cells_at reference.key.target_columns (row_at (rows_at D.rows t) i)) j =
      subst (λ (k : ForeignKey). IsRowWith (rows_at D.rows reference.table) k.columns (cells_at k.target_columns (row_at (rows_at D.rows t) i)) j) (sym stands.same_key) of_table in
      (gains.each u j).1 (inr (sym stands.table, (found.exact j).1 of_key));
}

-- where nothing has to come in
pub gains_none : (D : Data) (old : RowSet) (t i : ℕ) (reference : Reference) → AreRows D old → ((u : ℕ) (key : ForeignKey) → StandsFor D u key reference → key.target ≡ t → (j : ℕ) → ¬ IsIn None (cells_at key.columns (row_at (rows_at D.rows u) j))
    → ¬ (cells_at key.columns (row_at (rows_at D.rows u) j) ≡ cells_at key.target_columns (row_at (rows_at D.rows t) i))) → GainsMatching D old old t i reference
gains_none D old t i reference rows none = record {
  rows = rows;
  kept = λ u j h. h;
  all = λ u key stands target j row whole match. absurd (none u key stands target j whole match);
}

pub matching_on : (D : Data) (old now new : RowSet) (t i k : ℕ) (references : List Reference) (reference : Reference) → k < length references → reference ≡ get_or references k reference → GainsFirst D old now t i (take k references)
    → GainsMatching D now new t i reference → GainsFirst D old new t i (take (k + 1) references)
matching_on D old now new t i k references reference below is before gains = record {
  rows = gains.rows;
  kept = λ u j h. gains.kept u j (before.kept u j h);
  all = λ r u key h stands target j row whole match. elim (of_more references k reference r below is h) [
    | inl front ↦ gains.kept u j (before.all r u key front stands target j row whole match)
    | inr e ↦ gains.all u key (subst (StandsFor D u key) (sym e) stands) target j row whole match
  ];
}

pub gains_all : (D : Data) (old new : RowSet) (t i k : ℕ) (references : List Reference) → length references ≤ k → AreReferences D (length D.tables) references → GainsFirst D old new t i (take k references) → GainsReferencing D old new t i
gains_all D old new t i k references whole all gains = record {
  rows = gains.rows;
  kept = gains.kept;
  all = λ u key in_table among target j row not_null match.
      let found = all.all u in_table key among in
      gains.all found.0 u key (subst (λ (rs : List Reference). IsIn found.0 rs) (sym (take_all k references whole)) found.1) found.2 target j row not_null match;
}

pub matching_if_ok : (D : Data) (old new : RowSet) (t i : ℕ) (reference : Reference) (positions : List ℕ) (result : Result (Unit {0}) AllocError) → IsReference D reference → AreRows D old
    → AreRowsWith (rows_at D.rows reference.table) reference.key.columns (cells_at reference.key.target_columns (row_at (rows_at D.rows t) i)) positions → OnOk result (GainsRows old new reference.table positions)
    → OnOk result (GainsMatching D old new t i reference)
matching_if_ok D old new t i reference positions (Ok u) good rows found gains = gains_matching D old new t i reference positions good rows found gains
matching_if_ok D old new t i reference positions (Err e) good rows found gains = tt
