use Rattle.std.proofs.Common.{◌≡◌, ◌∙◌, ap, arith, length}
use Rattle.clean_dm.proofs.KeptLoops.{row_within}
use Rattle.clean_dm.proofs.turns.row_of.Goals as goal

pub returns-then-table-tables-clause-none : goal.returns-then-table-tables-clause-none
returns-then-table-tables-clause-none c = λ t i of row.
    let below = row_within c.args.database.now c.schema.ensures.fits t i row in
    let many : length c.tables.result.now ≡ length c.args.database.now.tables = ap length (c.tables.ensures.value ∙ c.schema.ensures.value) in
    let table = of.0 in
    let above = c.if-table-tables.true in
    omega arith
