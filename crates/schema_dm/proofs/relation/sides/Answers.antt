use Rattle.schema_dm.proofs.Sides.{if_none, without_left, without_right}
use Rattle.schema_dm.proofs.relation.sides.Goals as goal

pub returns-in_err-left-clause-none : goal.returns-in_err-left-clause-none
returns-in_err-left-clause-none c =
    if_none c.from_residual.result
    (without_left c.args.tables.now c.args.place c.index-tables-place.result c.as_slice-keys.result.now c.requires c.index-tables-place.is c.as_slice-keys.ensures c.in_err-left.ensures.none)

pub returns-in_err-right-clause-none : goal.returns-in_err-right-clause-none
returns-in_err-right-clause-none c =
    if_none c.from_residual-in_err-right.result
    (without_right c.args.tables.now c.args.place c.index-tables-place.result c.as_slice-keys.result.now c.requires c.index-tables-place.is c.as_slice-keys.ensures c.in_err-right.ensures.none)
