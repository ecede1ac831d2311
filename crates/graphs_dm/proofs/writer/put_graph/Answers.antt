use Rattle.graphs_dm.proofs.GraphLevels.{its_triples, puts, puts_short}
use Rattle.graphs_dm.proofs.KeyNodes.{nodes_by_keys}
use Rattle.graphs_dm.proofs.NodeLaws.{own_nodes}
use Rattle.graphs_dm.proofs.writer.put_graph.Goals as goal

pub returns-in_default-clause-graph : goal.returns-in_default-clause-graph
returns-in_default-clause-graph g c = puts_short c.args.name c.args.base.now c.args.database.now c.schema-schema.ensures.fits c.requires.defined (g.K.Sink.state c.args.out.now)

pub returns-in_default-clause-triples : goal.returns-in_default-clause-triples
returns-in_default-clause-triples g c = λ text is. its_triples c.args.name c.args.base.now c.args.database.now text is

pub returns-in_default-clause-nodes : goal.returns-in_default-clause-nodes
returns-in_default-clause-nodes g c = own_nodes c.args.base.now c.args.database.now c.schema-schema.ensures.fits

pub returns-in_default-clause-keyed : goal.returns-in_default-clause-keyed
returns-in_default-clause-keyed g c = nodes_by_keys c.args.base.now c.args.database.now

pub returns-clause-graph : goal.returns-clause-graph
returns-clause-graph g c =
    puts c.args.name c.args.base.now c.args.database.now c.schema-schema.ensures.fits c.requires.defined c.in-Ok.plan c.in-Ok.ensures (g.K.Sink.state c.args.out.now) (g.K.Sink.state c.put_plan.new.out) c.put_plan.result c.put_plan.ensures

pub returns-clause-triples : goal.returns-clause-triples
returns-clause-triples g c = λ text is. its_triples c.args.name c.args.base.now c.args.database.now text is

pub returns-clause-nodes : goal.returns-clause-nodes
returns-clause-nodes g c = own_nodes c.args.base.now c.args.database.now c.schema-schema.ensures.fits

pub returns-clause-keyed : goal.returns-clause-keyed
returns-clause-keyed g c = nodes_by_keys c.args.base.now c.args.database.now
