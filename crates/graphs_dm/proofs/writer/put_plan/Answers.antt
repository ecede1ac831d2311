use Rattle.std.proofs.Common.{◌∙◌, ◌++◌, List, [], ℕ, ap}
use Rattle.outside_dm.proofs.Putting.{Writes-same}
use Rattle.graphs_dm.specs.Levels.{tables_level, text_of}
use Rattle.graphs_dm.proofs.GraphLevels.{two_parts}
use Rattle.graphs_dm.proofs.writer.put_plan.Goals as goal

pub returns : goal.returns
returns g c =
    let base = c.args.base.now in
    let D = c.args.database.now in
    let plan = c.args.plan.now in
    Writes-same (ap (λ (l : List ℕ). l ++ text_of base (tables_level base D plan [])) c.in-Ok-ontology_page.ensures ∙ two_parts c.args.name base D plan) c.put_all.ensures
