use Rattle.std.proofs.Common.{◌≡◌, ◌∙◌, ap, length, List, arith}
use Rattle.schema_dm.specs.declared.table.Table.{Table}
use Rattle.clean_dm.specs.Removing.{IsLeft}
use Rattle.clean_dm.proofs.KeptLoops.{numbered, row_within, rows_of_left}
use Rattle.clean_dm.proofs.KeptRows.{kept_keeps}
use Rattle.clean_dm.proofs.Largest.{left_is_largest, left_is_lawful}
use Rattle.clean_dm.proofs.keeping.kept.Goals as goal

pub gone_of-requires : goal.gone_of-requires
gone_of-requires c = numbered c.args.database.now c.args.removals.now c.schema.ensures.fits c.requires

pub returns-clause-rows : goal.returns-clause-rows
returns-clause-rows c =
    let long : length c.tables-tables.result.now ≡ length c.args.database.now.tables = ap (λ (tables : List Table). length tables) (c.tables-tables.ensures.value ∙ c.schema.ensures.value) in
    let end = c.loop-table.auto.table-end in
    let last = c.loop-table-test.false in
    rows_of_left c.args.database.now c.args.removals.now c.in_ok-gone.gone c.loop-table.lists c.loop-table.table c.in_ok-gone.ensures (omega arith) (omega arith) c.loop-table.invariant.0 c.loop-table.invariant.1

pub returns-clause-keys : goal.returns-clause-keys
returns-clause-keys c =
    let long : length c.tables-tables.result.now ≡ length c.args.database.now.tables = ap (λ (tables : List Table). length tables) (c.tables-tables.ensures.value ∙ c.schema.ensures.value) in
    let end = c.loop-table.auto.table-end in
    let last = c.loop-table-test.false in
    let rows = rows_of_left c.args.database.now c.args.removals.now c.in_ok-gone.gone c.loop-table.lists c.loop-table.table c.in_ok-gone.ensures (omega arith) (omega arith) c.loop-table.invariant.0 c.loop-table.invariant.1 in
    λ certificate. kept_keeps c.args.database.now (IsLeft c.args.removals.now) c.loop-table.lists rows (left_is_lawful c.args.database.now c.args.removals.now certificate.done) (row_within c.args.database.now c.schema.ensures.fits)

pub returns-clause-largest : goal.returns-clause-largest
returns-clause-largest c = left_is_largest c.args.database.now c.args.removals.now
