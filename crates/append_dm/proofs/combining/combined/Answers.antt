use Rattle.std.proofs.Common.{◌≡◌, ◌∙◌, ◌++◌, true, false, List, length, map, ap, sym, subst, arith}
use Rattle.members_dm.specs.InOrder.{positions_below}
use Rattle.schema_dm.specs.declared.table.Table.{Table}
use Rattle.table_csv.specs.Databases.{Data, IsDatabase, rows_at}
use Rattle.append_dm.specs.Appended.{appended}
use Rattle.append_dm.proofs.AppendedRows.{is_database}
use Rattle.append_dm.proofs.combining.combined.Goals as goal

pub unreachable-requires : goal.unreachable-requires
unreachable-requires c =
    let old = c.args.old.now in
    let batch = c.args.batch.now in
    let schema : c.in_ok-schema.schema ≡ old.tables = c.in_ok-schema.ensures ∙ c.schema.ensures.value in
    let many : length c.tables-tables.result.now ≡ length old.tables = ap (λ (ts : List Table). length ts) (c.tables-tables.ensures.value ∙ schema) in
    let end = c.loop-t.auto.t-end in
    let last = c.loop-t-test.false in
    let all : c.loop-t.t ≡ length old.tables = omega arith in
    let lists : c.loop-t.lists ≡ (appended old batch).rows =
    c.loop-t.invariant ∙ ap (λ n. map (λ t. rows_at old.rows t ++ rows_at batch.rows t) (positions_below n)) all in
    let whole : ◌≡◌ {A = Data} (record { tables = c.in_ok-schema.schema; rows = c.loop-t.lists }) (appended old batch) = λ i. record { tables = schema i; rows = lists i } in
    let database = is_database old batch c.schema.ensures.fits c.schema-batch_schema.ensures.fits c.requires in
    let none : false ≡ true = c.in-None.ensures.fits.1 (subst IsDatabase (sym whole) database) in
    cc
