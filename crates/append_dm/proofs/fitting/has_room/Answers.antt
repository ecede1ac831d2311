use Rattle.std.proofs.Common.{◌≡◌, ◌∙◌, ◌≤◌, ◌+◌, ℕ, List, [], inl, inr, length, ap, refl, arith}
use Rattle.std.proofs.lemmas.Bool.{cases_lt}
use Rattle.schema_dm.specs.declared.table.Table.{Table}
use Rattle.table_csv.specs.Cells.{Row}
use Rattle.table_csv.specs.Databases.{rows_at}
use Rattle.table_csv.proofs.Databases.{one_list_each}
use Rattle.append_dm.proofs.AppendedRows.{mapped_past}
use Rattle.append_dm.proofs.fitting.has_room.Goals as goal

pub returns : goal.returns
returns c = ((λ told. few), (λ room. refl))
  where
    few : (t : ℕ) → length (rows_at c.args.old.now.rows t) + length (rows_at c.args.batch.now.rows t) ≤ 4194304
    few t = elim (cases_lt t c.loop-t.t) [
      | inl below ↦ c.loop-t.invariant t below
      | inr past ↦
          let many : length c.tables-t-end.result.now ≡ length c.args.old.now.tables = ap (λ (ts : List Table). length ts) (c.tables-t-end.ensures.value ∙ c.schema.ensures.value) in
          let end = c.loop-t.auto.t-end in
          let last = c.loop-t-test.false in
          let long = one_list_each c.args.old.now c.schema.ensures.fits in
          let first : rows_at c.args.old.now.rows t ≡ [] = mapped_past c.args.old.now.rows t [] (omega arith) in
          let none : length (rows_at c.args.old.now.rows t) ≡ 0 = ap (λ (rows : List Row). length rows) first in
          let tables : length c.args.batch.now.tables ≡ length c.args.old.now.tables = ap (λ (ts : List Table). length ts) c.requires.same in
          let lists = c.requires.lists in
          let also : length (rows_at c.args.batch.now.rows t) ≡ 0 = ap (λ (rows : List Row). length rows) (mapped_past c.args.batch.now.rows t [] (omega arith)) in
          omega arith
    ]
