use Rattle.pattern_dm.proofs.Solving.{solutions_once}
use Rattle.pattern_dm.proofs.solver.solve.Goals as goal

pub returns : goal.returns
returns c = solutions_once c.args.graph.now c.args.pattern.now c.in_ok-rows.rows c.len-count.ensures.lawful.apart c.in_ok-rows.ensures
