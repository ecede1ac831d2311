-- What kept keys give of the rows of a binary relation.
use Rattle.std.proofs.Common.{◌≡◌, ◌⊎◌, ℕ, ◌<◌, List, [], ◌∷◌, length, refl, sym, ap, ◌∙◌, subst, inl, inr, Some, None}
use Rattle.std.specs.Prelude.{◌≢◌, ◌↔◌, slice_index_or}
use Rattle.std.proofs.lemmas.Option.{get_or_from_slice_get}
use Rattle.std.proofs.lemmas.Bool.Decides.{eqb_tells}
use Rattle.members_dm.specs.Membership.{IsIn}
use Rattle.schema_dm.specs.Relations.{IsBinaryRelation, IsPairKey, IsSideAt}
use Rattle.schema_dm.specs.Schemas.{table_at}
use Rattle.schema_dm.specs.declared.table.Binary.{Binary}
use Rattle.schema_dm.specs.declared.table.ForeignKey.{ForeignKey}
use Rattle.schema_dm.specs.declared.table.Table.{Table}
use Rattle.table_csv.specs.Cells.{Cell, Row, cells_at}
use Rattle.table_csv.specs.Databases.{Data, rows_at}
use Rattle.keys_dm.specs.Kept.{HasMatches, HasOneMatch}
use Rattle.keys_dm.specs.KeyCells.{row_at}
use Rattle.keys_dm.specs.Violations.{KeepsKeys}
use Rattle.keys_dm.specs.declared.violation.ViolationKind.TheVariants.{NullKey, RepeatedKey}
use Rattle.graphs_dm.specs.OwnNodes.{HasRow}
use Rattle.graphs_dm.specs.RowFacts.{References}
use Rattle.graphs_dm.specs.Relations.{no_key}
use Rattle.graphs_dm.proofs.Decisions.{Told, told_below, told_match}

-- the row that a row references, or 0 where it references none
abbrev pub row_or_zero : {P : ℕ → Type 0} {n : ℕ} → Told ((j : ℕ) × (j < n) × P j) → ℕ
row_or_zero (inl h) = h.0
row_or_zero (inr n) = 0

abbrev pub told_referenced : (D : Data) (t i : ℕ) (key : ForeignKey) → Told ((j : ℕ) × (j < length (rows_at D.rows key.target)) × References D t i key j)
told_referenced D t i key = told_below (length (rows_at D.rows key.target)) (λ j. References D t i key j) (λ j. told_match D t i j key)

pub referenced_row : Data → ℕ → ForeignKey → ℕ → ℕ
referenced_row D t key i = row_or_zero {P = λ j. References D t i key j} {n = length (rows_at D.rows key.target)} (told_referenced D t i key)

side_key : (tables : List Table) (t number place : ℕ) → (at : IsSideAt tables (table_at tables t).foreign place number) → (at.0 ≡ slice_index_or (table_at tables t).foreign number no_key)
side_key tables t number place at = sym (get_or_from_slice_get (table_at tables t).foreign number at.0 no_key at.1)

module _ (D : Data) (kept : KeepsKeys D) (matched : HasMatches D) where
  -- no cell of a relation's key is NULL
  pub pair_cells : (t i place : ℕ) (sides : Binary) → HasRow D t i → IsBinaryRelation D.tables t sides → (place ≡ 0) ⊎ (place ≡ 1) → ¬ IsIn None (cells_at (place ∷ []) (row_at (rows_at D.rows t) i))
  pair_cells t i place sides has is which (inr h) = h
  pair_cells t i place sides has is which (inl null) = elim is.pair_key [
    | inl e ↦ kept t i NullKey has.table has.row (0 ∷ 1 ∷ [], e, elim which [ inl z ↦ inl (ap cell (sym z) ∙ null) | inr o ↦ inr (inl (ap cell (sym o) ∙ null)) ])
    | inr e ↦ kept t i NullKey has.table has.row (1 ∷ 0 ∷ [], e, elim which [ inl z ↦ inr (inl (ap cell (sym z) ∙ null)) | inr o ↦ inl (ap cell (sym o) ∙ null) ])
  ]
    where
      cell : ℕ → Cell
      cell p = slice_index_or (row_at (rows_at D.rows t) i) p None

  -- a key of a relation's side references one row
  module _ (t : ℕ) (place : ℕ) (sides : Binary) (key : ForeignKey) (is : IsBinaryRelation D.tables t sides) (which : (place ≡ 0) ⊎ (place ≡ 1)) (on : key.columns ≡ place ∷ []) (among : IsIn key (table_at D.tables t).foreign) where
    no_null : (i : ℕ) → HasRow D t i → ¬ IsIn None (cells_at key.columns (row_at (rows_at D.rows t) i))
    no_null i has = subst (λ (ps : List ℕ). ¬ IsIn None (cells_at ps (row_at (rows_at D.rows t) i))) (sym on) (pair_cells t i place sides has is which)

    one : (i : ℕ) → HasRow D t i → HasOneMatch (rows_at D.rows key.target) key (row_at (rows_at D.rows t) i)
    one i has = matched t i key has.table has.row among (no_null i has)

    pub row_references : (i : ℕ) → HasRow D t i → References D t i key (referenced_row D t key i)
    unfolding referenced_row
    row_references i has = go (told_referenced D t i key)
      where
        go : (told : Told ((j : ℕ) × (j < length (rows_at D.rows key.target)) × References D t i key j)) → References D t i key (row_or_zero {P = λ j. References D t i key j} {n = length (rows_at D.rows key.target)} told)
        go (inl h) = h.2
        go (inr n) = (let m = one i has in absurd (n (m.position, m.matches.0, (no_null i has, m.matches))))

    pub row_is : (i j : ℕ) → HasRow D t i → References D t i key j ↔ (j ≡ referenced_row D t key i)
    row_is i j has = (
      (λ r. let m = one i has in m.alone j r.1 ∙ sym (m.alone (referenced_row D t key i) (row_references i has).1)),
      (λ e. subst (λ k. References D t i key k) (sym e) (row_references i has)),
    )

    pub row_below : (i : ℕ) → HasRow D t i → referenced_row D t key i < length (rows_at D.rows key.target)
    row_below i has = (row_references i has).1.0

  -- two rows of a relation that reference the same two rows are one
  pub one_row : (t i j : ℕ) (sides : Binary) → HasRow D t i → HasRow D t j → IsBinaryRelation D.tables t sides
      → ((place : ℕ) → (place ≡ 0) ⊎ (place ≡ 1) → slice_index_or (row_at (rows_at D.rows t) i) place None ≡ slice_index_or (row_at (rows_at D.rows t) j) place None) → i ≡ j
  one_row t i j sides has_i has_j is same = elim (eqb_tells j i) [
    | inl e ↦ sym e.1
    | inr e ↦ absurd (repeated e.1 is.pair_key)
  ]
    where
      row : ℕ → Row
      row k = row_at (rows_at D.rows t) k

      whole : (a b : ℕ) → (a ≡ 0) ⊎ (a ≡ 1) → (b ≡ 0) ⊎ (b ≡ 1) → ¬ IsIn None (cells_at (a ∷ b ∷ []) (row_at (rows_at D.rows t) i))
      whole a b p q (inl h) = pair_cells t i a sides has_i is p (inl h)
      whole a b p q (inr (inl h)) = pair_cells t i b sides has_i is q (inl h)
      whole a b p q (inr (inr h)) = h

      repeat : (a b : ℕ) → (a ≡ 0) ⊎ (a ≡ 1) → (b ≡ 0) ⊎ (b ≡ 1) → (table_at D.tables t).primary ≡ Some (a ∷ b ∷ []) → j ≢ i → ⊥
      repeat a b p q e apart =
          kept t i RepeatedKey has_i.table has_i.row (a ∷ b ∷ [], e, (whole a b p q, (j, apart, (has_j.row, (λ k. sym (same a p) k ∷ sym (same b q) k ∷ [])))))

      repeated : j ≢ i → IsPairKey (table_at D.tables t) → ⊥
      repeated apart (inl e) = repeat 0 1 (inl refl) (inr refl) e apart
      repeated apart (inr e) = repeat 1 0 (inr refl) (inl refl) e apart
