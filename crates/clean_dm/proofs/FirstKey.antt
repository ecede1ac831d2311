-- The first foreign key of a row that dangles, and the first row that does.
use Rattle.std.proofs.Common.{◌≡◌, ◌∙◌, ◌+◌, ◌<◌, ◌≤◌, ℕ, Bool, true, false, not, IsTrue, List, [], ◌∷◌, Some, None, length, refl, sym, ap, subst, inl, inr, arith}
use Rattle.std.specs.Prelude.{◌↔◌, slice_get}
use Rattle.std.proofs.lemmas.Bool.Decides.{eqb_tells}
use Rattle.std.proofs.lemmas.Option.{slice_get_within}
use Rattle.members_dm.specs.Membership.{IsIn}
use Rattle.members_dm.specs.Places.{IsEarlier}
use Rattle.schema_dm.specs.Schemas.{table_at}
use Rattle.schema_dm.specs.declared.table.ForeignKey.{ForeignKey}
use Rattle.table_csv.specs.Cells.{Row, cells_at}
use Rattle.table_csv.specs.Databases.{Data, rows_at}
use Rattle.keys_dm.specs.KeyCells.{AreRowsWith, row_at}
use Rattle.clean_dm.specs.Parts.{DanglesIn}
use Rattle.clean_dm.specs.RowSets.{Has, IsFirstOf, Loses}
use Rattle.clean_dm.specs.Working.{AreCandidates, AreCandidatesBut, Dangles, IsFirstDangling, IsFirstKey, NoneDangles}
use Rattle.clean_dm.specs.declared.row_set.RowSet.{RowSet}

-- what the rows with a row's cells tell of those that are left
pub dangles_by_rows : (IsThere : ℕ → Type 0) (targets : List Row) (key : ForeignKey) (row : Row) (positions : List ℕ) (has : Bool) → AreRowsWith targets key.target_columns (cells_at key.columns row) positions → ¬ IsIn None (cells_at key.columns row)
    → IsTrue has ↔ ((j : ℕ) × IsIn j positions × IsThere j) → IsTrue (not has) ↔ DanglesIn IsThere targets key row
dangles_by_rows IsThere targets key row positions true found whole told = (
  (λ h. absurd (let no : false ≡ true = h in cc)),
  (λ h. absurd (let one = told.0 refl in h.1 one.0 one.2 ((found.exact one.0).0 one.1))),
)
dangles_by_rows IsThere targets key row positions false found whole told = (
  (λ h. (whole, (λ j there r. let no : false ≡ true = told.1 (j, (found.exact j).1 r, there) in cc))),
  (λ h. refl),
)

module _ (D : Data) (left : RowSet) (t i : ℕ) where
  abbrev keys : List ForeignKey
  keys = (table_at D.tables t).foreign

  abbrev NoneBefore : ℕ → Type 0
  NoneBefore n = (number : ℕ) → number < n → ¬ Dangles D left t i number

  -- keys are numbered from 1
  pub none_at_first : NoneBefore (0 + 1)
  none_at_first number less dangles = (let at = dangles.1.1 in omega arith)

  pub none_on : (place : ℕ) (key : ForeignKey) → slice_get keys place ≡ Some key → ¬ DanglesIn (Has left key.target) (rows_at D.rows key.target) key (row_at (rows_at D.rows t) i) → NoneBefore (place + 1) → NoneBefore (place + 1 + 1)
  none_on place key there keeps none number less dangles = elim (eqb_tells number (place + 1)) [
    | inl e ↦
        (let at : number ≡ dangles.1.0 + 1 = dangles.1.1 in
        let last : number ≡ place + 1 = e.1 in
        let k : dangles.1.0 ≡ place = omega arith in
        let one : Some key ≡ Some dangles.0 = sym there ∙ ap (slice_get keys) (sym k) ∙ dangles.1.2 in
        let same : dangles.0 ≡ key = cc in
        keeps (subst (λ (f : ForeignKey). DanglesIn (Has left f.target) (rows_at D.rows f.target) f (row_at (rows_at D.rows t) i)) same dangles.2))
    | inr e ↦ (let apart : number ≡ place + 1 → ⊥ = e.1 in none number (omega arith) dangles)
  ]

  pub none_at_all : (n : ℕ) → length keys ≤ n → NoneBefore (n + 1) → (number : ℕ) → ¬ Dangles D left t i number
  none_at_all n whole none number dangles =
      let below = slice_get_within keys dangles.1.0 dangles.0 dangles.1.2 in
      let at : number ≡ dangles.1.0 + 1 = dangles.1.1 in
      none number (omega arith) dangles

  pub first_key_found : (place : ℕ) (key : ForeignKey) → Has left t i → slice_get keys place ≡ Some key → DanglesIn (Has left key.target) (rows_at D.rows key.target) key (row_at (rows_at D.rows t) i) → NoneBefore (place + 1) → IsFirstKey D left t i (place + 1)
  first_key_found place key there read dangles none = record {
    there = there;
    dangles = (key, (place, refl, read), dangles);
    first = λ other h less. none other less h;
  }

-- ---- candidates, the first of them taken out

module _ (D : Data) (left due rest : RowSet) (candidates : AreCandidates D left due) where
  pub candidates_but : (t i : ℕ) → Loses due rest t i → AreCandidatesBut D left rest t i
  candidates_but t i loses = record {
    rows = λ u j h. candidates.rows u j ((loses.each u j).0 h).0;
    all = λ u j number there dangles apart. (loses.each u j).1 (candidates.all u j number there dangles, apart);
  }

  pub candidates_less : (t i : ℕ) → Loses due rest t i → (Has left t i → (number : ℕ) → ¬ Dangles D left t i number) → AreCandidates D left rest
  candidates_less t i loses keeps = record {
    rows = λ u j h. candidates.rows u j ((loses.each u j).0 h).0;
    all = λ u j number there dangles. (loses.each u j).1 (
      candidates.all u j number there dangles,
      (λ same.
          keeps (subst {A = ℕ × ℕ} (λ (q : ℕ × ℕ). Has left q.0 q.1) (λ z. (same.0 z, same.1 z)) there) number
          (subst {A = ℕ × ℕ} (λ (q : ℕ × ℕ). Dangles D left q.0 q.1 number) (λ z. (same.0 z, same.1 z)) dangles)),
    );
  }

  pub none_dangles : ((t i : ℕ) → ¬ Has due t i) → NoneDangles D left
  none_dangles none t i number there dangles = none t i (candidates.all t i number there dangles)

  pub first_row_found : (t i number : ℕ) → IsFirstOf due t i → IsFirstKey D left t i number → IsFirstDangling D left t i number
  first_row_found t i number first key = record {
    there = key.there;
    dangles = key.dangles;
    first = λ u j other there dangles earlier. by u j other there dangles earlier;
  }
    where
      by : (u j other : ℕ) → Has left u j → Dangles D left u j other → ¬ IsEarlier (u ∷ j ∷ other ∷ []) (t ∷ i ∷ number ∷ [])
      by u j other there dangles (inl less) = first.first u j (candidates.all u j other there dangles) (inl less)
      by u j other there dangles (inr same) = elim same.1 [
        | inl less ↦ first.first u j (candidates.all u j other there dangles) (inr (same.0, inl less))
        | inr row ↦ elim row.1 [
          | inl less ↦ key.first other (subst {A = ℕ × ℕ} (λ (q : ℕ × ℕ). Dangles D left q.0 q.1 other) (λ z. (same.0 z, row.0 z)) dangles) less
          | inr none ↦ none.1
        ]
      ]
