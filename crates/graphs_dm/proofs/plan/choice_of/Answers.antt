use Rattle.std.proofs.Common.{◌≡◌, rules}
use Rattle.graphs_dm.specs.declared.graph_name.GraphName.TheVariants.{Map}
use Rattle.graphs_dm.proofs.PlanSteps.{choice_is}
use Rattle.graphs_dm.proofs.plan.choice_of.Goals as goal

pub returns-in-Map : goal.returns-in-Map
returns-in-Map c =
    let is : c.args.name ≡ Map = search rules in
    choice_is c.args.name is c.args.schema.now c.args.t c.is_binary.result c.is_binary.ensures.found c.is_binary.ensures.none
