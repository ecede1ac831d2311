use Rattle.std.proofs.Common.{sym, subst}
use Rattle.roles_dm.specs.Roles.{TellsOneKind}
use Rattle.roles_dm.proofs.ColumnLemmas.{kind_told, no_range}
use Rattle.roles_dm.proofs.columns.one_kind.Goals as goal

pub returns-in_err-range : goal.returns-in_err-range
returns-in_err-range c base G i is words datatypes at =
    subst (TellsOneKind base G i) (sym c.from_residual.ensures)
    (no_range base c.args.graph.now G is c.args.words.now words c.args.datatypes.now datatypes c.args.number i at c.in_err-range.ensures)

pub returns : goal.returns
returns c base G i is words datatypes at =
    kind_told base c.args.graph.now G is c.args.words.now words c.args.datatypes.now datatypes c.args.number i at c.in_ok-range.range c.kind_numbered.result c.in_ok-range.ensures c.kind_numbered.ensures
