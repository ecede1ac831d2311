use Rattle.keys_dm.proofs.OneMatch.{kept_matches}
use Rattle.graphs_dm.proofs.NodeLaws.{own_nodes}
use Rattle.graph_layouts_dm.proofs.KeysStand.{keys_stand}
use Rattle.graph_layouts_dm.proofs.MapGraphStands.{map_stands}
use Rattle.graph_layouts_dm.proofs.SomePlain.{some_plain}
use Rattle.graph_layouts_dm.proofs.laws.graphs_stand.Goals as goal

pub returns-clause-some : goal.returns-clause-some
returns-clause-some c = some_plain c.args.database.now c.schema.ensures.fits

pub returns-clause-map_keys : goal.returns-clause-map_keys
returns-clause-map_keys c = λ triples plain is are.
    let base = c.args.base.now in
    let D = c.args.database.now in
    keys_stand base D c.schema.ensures.fits (own_nodes base D c.schema.ensures.fits) plain is triples are

pub returns-clause-map : goal.returns-clause-map
returns-clause-map c = λ triples plain kept is are.
    let base = c.args.base.now in
    let D = c.args.database.now in
    map_stands base D c.schema.ensures.fits (own_nodes base D c.schema.ensures.fits) plain is kept (kept_matches D c.schema.ensures.fits.schema kept) triples are
