use Rattle.std.proofs.Common.{sym, ◌∙◌}
use Rattle.graphs_dm.specs.Graphs.{first_row}
use Rattle.graphs_dm.specs.Levels.{row_level}
use Rattle.graphs_dm.proofs.LevelTexts.{none_before}
use Rattle.graphs_dm.proofs.rows.append_later_row.Goals as goal

pub returns-then-is_before_first : goal.returns-then-is_before_first
returns-then-is_before_first c =
    none_before c.args.source.now.base.now (first_row c.args.source.now.first_rows.now c.args.t) c.args.i
    (row_level c.args.source.now.base.now c.args.source.now.database.now c.args.source.now.plan.now c.args.t) c.args.out.now.items (sym c.is_before_first.ensures ∙ c.if-is_before_first.true)
