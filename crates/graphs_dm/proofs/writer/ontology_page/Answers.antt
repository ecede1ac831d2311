use Rattle.std.proofs.Common.{◌≡◌, ◌∙◌, rules}
use Rattle.graphs_dm.specs.declared.graph_name.GraphName.TheVariants.{Direct}
use Rattle.graphs_dm.proofs.GraphLevels.{direct_part}
use Rattle.graphs_dm.proofs.writer.ontology_page.Goals as goal

pub returns-in-Direct : goal.returns-in-Direct
returns-in-Direct c =
    let is : c.args.name ≡ Direct = search rules in
    c.new-page.ensures.items ∙ direct_part c.args.name is c.args.base.now c.args.database.now c.args.plan.now
