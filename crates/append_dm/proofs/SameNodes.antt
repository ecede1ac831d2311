-- The rows of a database keep their nodes where a batch comes behind them.
use Rattle.std.proofs.Common.{◌≡◌, ◌∙◌, ◌+◌, ◌<◌, ◌≤◌, ◌==◌, ◌&&◌, ℕ, zero, suc, Bool, false, not, List, [], ◌∷◌, Option, Some, None, cond, length, refl, sym, ap, arith, inl, inr, zero-add, suc-add}
use Rattle.std.specs.Prelude.{◌≢◌}
use Rattle.std.specs.List.{filter, range_with_len}
use Rattle.std.specs.Option.{option_eq}
use Rattle.std.proofs.lemmas.Bool.{cases_Bool}
use Rattle.value_dm.specs.Equality.{DecidesEqual, lists_decide}
use Rattle.value_dm.specs.ValueEquality.{values_decide}
use Rattle.value_dm.specs.contracts.value.ValuePartialEq.TheImpl.{eq-value}
use Rattle.members_dm.specs.Membership.{IsIn}
use Rattle.schema_dm.specs.Sameness.{options_decide}
use Rattle.schema_dm.specs.Schemas.{table_at}
use Rattle.facts_dm.specs.Facts.{blank, iri}
use Rattle.names_dm.specs.Labels.{row_label}
use Rattle.names_dm.specs.Rows.{row_iri}
use Rattle.table_csv.specs.Cells.{Cell, Row, cells_at}
use Rattle.table_csv.specs.Databases.{Data, rows_at}
use Rattle.keys_dm.specs.KeyCells.{row_at}
use Rattle.keys_dm.specs.Violations.{KeepsKeys}
use Rattle.keys_dm.specs.declared.violation.ViolationKind.TheVariants.{NullKey, RepeatedKey}
use Rattle.graphs_dm.specs.Nodes.{has_null, has_own_key, node_in, primary_parts, row_node, rows_with, same_cells, tell_one_row}
use Rattle.append_dm.proofs.AppendedRows.{HasBoth, many, more_rows, old_row, with_lists}

cells_decide : DecidesEqual {K = List Cell} same_cells
cells_decide = lists_decide {test = option_eq eq-value.it} (options_decide values_decide)

-- ---- positions that pass a test

none_pass : (q : ℕ → Bool) (a k : ℕ) → ((j : ℕ) → a ≤ j → j < a + k → q j ≡ false) → filter q (range_with_len a k) ≡ []
none_pass q a zero none = refl
none_pass q a (suc k) none = rw (none a (omega arith) (omega arith)) (none_pass q (a + 1) k (λ j above below. none j (omega arith) (omega arith)))

no_more : (p q : ℕ → Bool) (a n k : ℕ) → ((j : ℕ) → a ≤ j → j < a + n → p j ≡ q j) → ((j : ℕ) → a + n ≤ j → j < a + n + k → q j ≡ false)
    → filter p (range_with_len a n) ≡ filter q (range_with_len a (n + k))
no_more p q a zero k same none = rw zero-add (sym (none_pass q a k (λ j above below. none j (omega arith) (omega arith))))
no_more p q a (suc n) k same none =
    let more = no_more p q (a + 1) n k (λ j above below. same j (omega arith) (omega arith)) (λ j above below. none j (omega arith) (omega arith)) in
    let here : p a ≡ q a = same a (omega arith) (omega arith) in
    rw suc-add (elim (cases_Bool (q a)) [
      | inl holds ↦ rw (here ∙ holds, holds) (ap (λ xs. a ∷ xs) more)
      | inr fails ↦ rw (here ∙ fails, fails) more
    ])

-- ---- nodes

module _ (base : List ℕ) (old batch : Data) (lists : List (List Row)) (h : HasBoth old batch lists) (kept : KeepsKeys (with_lists old lists)) where
  module _ (t i : ℕ) (below : t < length old.tables) (within : i < length (rows_at old.rows t)) where
    -- no row behind has the cells of the row's key
    apart : (places : List ℕ) → (table_at old.tables t).primary ≡ Some places → (j : ℕ) → length (rows_at old.rows t) ≤ j → j < length (rows_at lists t)
        → same_cells (cells_at places (row_at (rows_at lists t) j)) (cells_at places (row_at (rows_at old.rows t) i)) ≡ false
    apart places primary j past there = elim (cases_Bool (same_cells (cells_at places (row_at (rows_at lists t) j)) (cells_at places (row_at (rows_at old.rows t) i)))) [
      | inr differ ↦ differ
      | inl same ↦
          let row = row_at (rows_at lists t) i in
          let equal = (cells_decide (cells_at places (row_at (rows_at lists t) j)) (cells_at places (row_at (rows_at old.rows t) i))).0 same in
          let twin : cells_at places (row_at (rows_at lists t) j) ≡ cells_at places row = equal ∙ ap (cells_at places) (sym (old_row old batch lists h t i within)) in
          let no_null : ¬ IsIn None (cells_at places row) = λ null. kept t i NullKey below (more_rows old batch lists h t i within) (places, primary, null) in
          let other : j ≢ i = λ e. omega (arith, e, past, within) in
          absurd (kept t i RepeatedKey below (more_rows old batch lists h t i within) (places, primary, (no_null, (j, other, (there, twin)))))
    ]

    same_rows : (places : List ℕ) → (table_at old.tables t).primary ≡ Some places
        → rows_with (rows_at old.rows t) places (cells_at places (row_at (rows_at old.rows t) i)) ≡ rows_with (rows_at lists t) places (cells_at places (row_at (rows_at old.rows t) i))
    unfolding rows_with
    same_rows places primary =
        let key = cells_at places (row_at (rows_at old.rows t) i) in
        let n = many old batch lists h t in
        no_more (λ j. same_cells (cells_at places (row_at (rows_at old.rows t) j)) key) (λ j. same_cells (cells_at places (row_at (rows_at lists t) j)) key)
        0 (length (rows_at old.rows t)) (length (rows_at batch.rows t))
        (λ j above less. ap (λ (row : Row). same_cells (cells_at places row) key) (sym (old_row old batch lists h t j (omega arith))))
        (λ j past less. apart places primary j (omega arith) (omega arith))
        ∙ ap (λ m. filter (λ j. same_cells (cells_at places (row_at (rows_at lists t) j)) key) (range_with_len 0 m)) (sym n)

    same_told : (places : List ℕ) → (table_at old.tables t).primary ≡ Some places
        → tell_one_row (rows_at old.rows t) places (cells_at places (row_at (rows_at old.rows t) i)) ≡ tell_one_row (rows_at lists t) places (cells_at places (row_at (rows_at old.rows t) i))
    unfolding tell_one_row
    same_told places primary = ap (λ (js : List ℕ). not (has_null (cells_at places (row_at (rows_at old.rows t) i))) && (length js == 1)) (same_rows places primary)

    same_key : (primary : Option (List ℕ)) → (table_at old.tables t).primary ≡ primary
        → has_own_key (rows_at old.rows t) primary (row_at (rows_at old.rows t) i) ≡ has_own_key (rows_at lists t) primary (row_at (rows_at old.rows t) i)
    same_key None e = refl
    same_key (Some places) e = same_told places e

    same_in : node_in base (table_at old.tables t) (rows_at old.rows t) t i ≡ node_in base (table_at old.tables t) (rows_at lists t) t i
    same_in =
        rw (old_row old batch lists h t i within) (ap (λ (b : Bool). cond b
        (iri (row_iri base (table_at old.tables t).name (primary_parts (table_at old.tables t).columns (row_at (rows_at old.rows t) i) (table_at old.tables t).primary)))
        (blank (row_label (t + 1) (i + 1)))) (same_key (table_at old.tables t).primary refl))

    pub same_node : row_node base old t i ≡ row_node base (with_lists old lists) t i
    unfolding row_node
    same_node = same_in
