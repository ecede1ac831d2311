-- The benchmark's database keeps its keys.
use Rattle.std.proofs.Common.{◌≡◌, ◌⊎◌, ◌∙◌, ◌+◌, ◌*◌, ◌-◌, ◌/◌, ◌%◌, ◌<◌, ℕ, zero, suc, Bool, true, false, cond, List, [], ◌∷◌, Some, None, length, get_or, refl, sym, ap, subst, inl, inr, arith}
use Rattle.std.specs.Prelude.{slice_get, ◌==◌}
use Rattle.std.proofs.lemmas.Bool.{eq-eqb, true≢false}
use Rattle.schema_dm.specs.Schemas.{schema_of, table_at}
use Rattle.schema_dm.specs.declared.table.ForeignKey.{ForeignKey}
use Rattle.schema_dm.specs.declared.table.Table.{Table}
use Rattle.table_csv.specs.Cells.{Cell, Row, cells_at}
use Rattle.table_csv.specs.Databases.{rows_at}
use Rattle.keys_dm.specs.KeyCells.{HasTwin, row_at}
use Rattle.keys_dm.specs.Violations.{Breaks, IsDangling, KeepsKeys}
use Rattle.keys_dm.specs.declared.violation.ViolationKind.{ViolationKind}
use Rattle.keys_dm.specs.declared.violation.ViolationKind.TheVariants.{NullKey, RepeatedKey, RepeatedUnique, Dangling}
use Rattle.members_dm.specs.Membership.{IsIn}
use Rattle.bench_dm.specs.Tables.{drafts}
use Rattle.bench_dm.specs.Rows.{dept_row, integer, member_row, note_row, person_row, rows_to}
use Rattle.bench_dm.specs.Generated.{departments, generated, lists}
use Rattle.bench_dm.proofs.GeneratedRows.{length-rows, row-at}

-- ---- primary keys

-- the first of the key's cells is the row's number
abbrev BeginsWithNumber : (ℕ → Row) → List ℕ → Type 0
BeginsWithNumber row places = (i : ℕ) → (rest : List Cell) × (cells_at places (row i) ≡ integer i ∷ rest)

same_number : (i j : ℕ) (rest others : List Cell) → ◌≡◌ {A = List Cell} (integer i ∷ rest) (integer j ∷ others) → i ≡ j
same_number i j rest others e = cc

no_twin : (row : ℕ → Row) (last i : ℕ) (places : List ℕ) → BeginsWithNumber row places → i < last → ¬ HasTwin (rows_to row last) places i
no_twin row last i places begins below twin =
    let other = twin.0 in
    let long = length-rows row last in
    let within : other < last = let h = twin.2.0 in omega arith in
    let here = ap (cells_at places) (row-at row last i [] below) ∙ (begins (i + 1)).1 in
    let there = ap (cells_at places) (row-at row last other [] within) ∙ (begins (other + 1)).1 in
    let same = same_number (other + 1) (i + 1) (begins (other + 1)).0 (begins (i + 1)).0 (sym there ∙ twin.2.1 ∙ here) in
    twin.1 (omega arith)

-- ---- foreign keys

-- NULL, or a number from 1 to the last one
abbrev Refers : ℕ → Cell → Type 0
Refers last cell = (cell ≡ None) ⊎ ((v : ℕ) × (cell ≡ integer (v + 1)) × (v < last))

abbrev key_onto : ℕ → ℕ → ForeignKey
key_onto place target = record { columns = place ∷ []; target = target; target_columns = 0 ∷ [] }

not_dangling : (row : ℕ → Row) (last : ℕ) → ((i : ℕ) → get_or (row i) 0 None ≡ integer i) → (place target : ℕ) (referring : Row) → Refers last (get_or referring place None) → ¬ IsDangling (rows_to row last) (key_onto place target) referring
not_dangling row last first place target referring (inl null) dangling = dangling.0 (inl null)
not_dangling row last first place target referring (inr there) dangling =
    let v = there.0 in
    let long = length-rows row last in
    let within : v < length (rows_to row last) = let below = there.2 in omega arith in
    let one : get_or (row_at (rows_to row last) v) 0 None ≡ get_or referring place None =
    ap (λ (r : Row). get_or r 0 None) (row-at row last v [] there.2) ∙ first (v + 1) ∙ sym there.1 in
    dangling.1 v (within, ap (λ (cell : Cell). cell ∷ []) one)

null_or : (last : ℕ) (cell : Cell) (null : Bool) → (null ≡ false → Refers last cell) → Refers last (cond null None cell)
null_or last cell true h = inl refl
null_or last cell false h = h refl

-- ---- one table

no_item : {X : Type 0} (k : ℕ) (x : X) → ¬ (slice_get {X = X} [] k ≡ Some x)
no_item k x e = absurd (cc)

-- no row's referencing cells are without a match
abbrev HasNoDangling : List (List Row) → (ℕ → Row) → ℕ → ForeignKey → Type 0
HasNoDangling lists row last key = (i : ℕ) → i < last → ¬ IsDangling (rows_at lists key.target) key (row (i + 1))

module _ (table : Table) (lists : List (List Row)) (row : ℕ → Row) (last : ℕ) (uniques : table.uniques ≡ [])
    (foreign : (key : ForeignKey) (k : ℕ) → slice_get table.foreign k ≡ Some key → HasNoDangling lists row last key) where
  no_unique : (i number : ℕ) → ¬ Breaks table lists (rows_to row last) i (RepeatedUnique number)
  no_unique i number breaks = no_item breaks.1.0 breaks.0 (sym (ap (λ (keys : List (List ℕ)). slice_get keys breaks.1.0) uniques) ∙ breaks.1.2)

  no_foreign : (i number : ℕ) → i < last → ¬ Breaks table lists (rows_to row last) i (Dangling number)
  no_foreign i number below breaks =
      foreign breaks.0 breaks.1.0 breaks.1.2 i below (subst (IsDangling (rows_at lists breaks.0.target) breaks.0) (row-at row last i [] below) breaks.2)

  keyless_keeps : table.primary ≡ None → (i : ℕ) (kind : ViolationKind) → i < last → ¬ Breaks table lists (rows_to row last) i kind
  keyless_keeps none i NullKey below breaks = let e : None ≡ Some breaks.0 = sym none ∙ breaks.1 in absurd (cc)
  keyless_keeps none i RepeatedKey below breaks = let e : None ≡ Some breaks.0 = sym none ∙ breaks.1 in absurd (cc)
  keyless_keeps none i (RepeatedUnique number) below breaks = no_unique i number breaks
  keyless_keeps none i (Dangling number) below breaks = no_foreign i number below breaks

  keyed_keeps : (places : List ℕ) → table.primary ≡ Some places → BeginsWithNumber row places → ((i : ℕ) → ¬ IsIn None (cells_at places (row i)))
      → (i : ℕ) (kind : ViolationKind) → i < last → ¬ Breaks table lists (rows_to row last) i kind
  keyed_keeps places key begins whole i NullKey below breaks =
      let e : Some places ≡ Some breaks.0 = sym key ∙ breaks.1 in
      let same : breaks.0 ≡ places = cc in
      whole (i + 1) (subst (λ (r : Row). IsIn None (cells_at places r)) (row-at row last i [] below)
      (subst (λ (ps : List ℕ). IsIn None (cells_at ps (row_at (rows_to row last) i))) same breaks.2))
  keyed_keeps places key begins whole i RepeatedKey below breaks =
      let e : Some places ≡ Some breaks.0 = sym key ∙ breaks.1 in
      let same : breaks.0 ≡ places = cc in
      no_twin row last i places begins below (subst (λ (ps : List ℕ). HasTwin (rows_to row last) ps i) same breaks.2.1)
  keyed_keeps places key begins whole i (RepeatedUnique number) below breaks = no_unique i number breaks
  keyed_keeps places key begins whole i (Dangling number) below breaks = no_foreign i number below breaks

two_keys : (P : ForeignKey → Type 0) (a b : ForeignKey) → P a → P b → (key : ForeignKey) (k : ℕ) → slice_get (a ∷ b ∷ []) k ≡ Some key → P key
two_keys P a b pa pb key zero e = let is : a ≡ key = cc in subst P is pa
two_keys P a b pa pb key (suc zero) e = let is : b ≡ key = cc in subst P is pb
two_keys P a b pa pb key (suc (suc k)) e = absurd (cc)

-- ---- the four tables

apart_from_one : (x : ℕ) → (x == 1) ≡ false → ¬ (x ≡ 1)
apart_from_one x h is = true≢false (sym (eq-eqb x 1 is) ∙ h)

remainder_refers : (many x : ℕ) → 0 < many → Refers many (integer (1 + x % many))
remainder_refers many x some = let next : 1 + x % many ≡ x % many + 1 = omega arith in inr (x % many, ap (λ k. integer k) next, omega arith)

half_refers : (last i : ℕ) → i < last → ((i + 1) == 1) ≡ false → Refers last (integer ((i + 1) / 2))
half_refers last i below h =
    let other = apart_from_one (i + 1) h in
    let next : (i + 1) / 2 ≡ ((i + 1) / 2 - 1) + 1 = omega arith in
    inr ((i + 1) / 2 - 1, ap (λ k. integer k) next, omega arith)

module _ (n : ℕ) where
  some : 0 < departments n
  some = omega arith

  dept_keeps : (i : ℕ) (kind : ViolationKind) → i < departments n → ¬ Breaks (table_at (schema_of drafts) 0) (lists n) (rows_to dept_row (departments n)) i kind
  dept_keeps =
      keyed_keeps (table_at (schema_of drafts) 0) (lists n) dept_row (departments n) refl (λ key k e. absurd (no_item k key e)) (0 ∷ []) refl (λ i. ([], refl))
      (λ i within. elim within [ inl null ↦ cc | inr none ↦ none ])

  person_key : HasNoDangling (lists n) (person_row (departments n)) n (key_onto 2 0)
  person_key i below =
      not_dangling dept_row (departments n) (λ j. refl) 2 0 (person_row (departments n) (i + 1))
      (null_or (departments n) (integer (1 + (i + 1) % departments n)) ((i + 1) % 5 == 0) (λ h. remainder_refers (departments n) (i + 1) some))

  boss_key : HasNoDangling (lists n) (person_row (departments n)) n (key_onto 3 1)
  boss_key i below =
      not_dangling (person_row (departments n)) n (λ j. refl) 3 1 (person_row (departments n) (i + 1))
      (null_or n (integer ((i + 1) / 2)) ((i + 1) == 1) (λ h. half_refers n i below h))

  person_keeps : (i : ℕ) (kind : ViolationKind) → i < n → ¬ Breaks (table_at (schema_of drafts) 1) (lists n) (rows_to (person_row (departments n)) n) i kind
  person_keeps =
      keyed_keeps (table_at (schema_of drafts) 1) (lists n) (person_row (departments n)) n refl
      (two_keys (HasNoDangling (lists n) (person_row (departments n)) n) (key_onto 2 0) (key_onto 3 1) person_key boss_key) (0 ∷ []) refl (λ i. ([], refl))
      (λ i within. elim within [ inl null ↦ cc | inr none ↦ none ])

  member_key : HasNoDangling (lists n) (member_row (departments n)) n (key_onto 0 1)
  member_key i below = not_dangling (person_row (departments n)) n (λ j. refl) 0 1 (member_row (departments n) (i + 1)) (inr (i, refl, below))

  group_key : HasNoDangling (lists n) (member_row (departments n)) n (key_onto 1 0)
  group_key i below = not_dangling dept_row (departments n) (λ j. refl) 1 0 (member_row (departments n) (i + 1)) (remainder_refers (departments n) (3 * (i + 1)) some)

  member_keeps : (i : ℕ) (kind : ViolationKind) → i < n → ¬ Breaks (table_at (schema_of drafts) 2) (lists n) (rows_to (member_row (departments n)) n) i kind
  member_keeps =
      keyed_keeps (table_at (schema_of drafts) 2) (lists n) (member_row (departments n)) n refl
      (two_keys (HasNoDangling (lists n) (member_row (departments n)) n) (key_onto 0 1) (key_onto 1 0) member_key group_key) (0 ∷ 1 ∷ []) refl
      (λ i. (integer (1 + (3 * i) % departments n) ∷ [], refl)) (λ i within. elim within [ inl null ↦ cc | inr later ↦ elim later [ inl null ↦ cc | inr none ↦ none ] ])

  note_keeps : (i : ℕ) (kind : ViolationKind) → i < n → ¬ Breaks (table_at (schema_of drafts) 3) (lists n) (rows_to note_row n) i kind
  note_keeps = keyless_keeps (table_at (schema_of drafts) 3) (lists n) note_row n refl (λ key k e. absurd (no_item k key e)) refl

  within : (row : ℕ → Row) (last i : ℕ) → i < length (rows_to row last) → i < last
  within row last i below = let long = length-rows row last in omega arith

  pub keeps_keys : KeepsKeys (generated n)
  keeps_keys zero i kind t below = dept_keeps i kind (within dept_row (departments n) i below)
  keeps_keys (suc zero) i kind t below = person_keeps i kind (within (person_row (departments n)) n i below)
  keeps_keys (suc (suc zero)) i kind t below = member_keeps i kind (within (member_row (departments n)) n i below)
  keeps_keys (suc (suc (suc zero))) i kind t below = note_keeps i kind (within note_row n i below)
  keeps_keys (suc (suc (suc (suc k)))) i kind t below = absurd (omega arith)
