use Rattle.std.proofs.Common.{ℕ, ◌+◌, List, sym, subst, take}
use Rattle.std.specs.List.{AllZip}
use Rattle.table_csv.specs.Cells.{Row}
use Rattle.graph_tables_dm.specs.TableReadings.{IsPairRow}
use Rattle.graph_tables_dm.proofs.LoopLemmas.{zip_more_at}
use Rattle.graph_tables_dm.proofs.relations.pair_rows.Goals as goal

pub loop-pair-preserved : goal.loop-pair-preserved
loop-pair-preserved c =
    let R = IsPairRow c.args.graph.now c.args.roles.now c.args.link.now c.args.left_first in
    subst (λ (rows : List Row). AllZip {A = ℕ × ℕ} R (take (c.loop-pair.pair-index + 1) c.args.pairs.now) rows) (sym c.in_ok-push.ensures.ok)
    (zip_more_at {X = ℕ × ℕ} R c.args.pairs.now c.loop-pair.rows c.loop-pair.pair-index (0, 0) c.in_ok-pair_row.field-0 c.loop-pair-test.true c.loop-pair.invariant c.in_ok-pair_row.ensures)
