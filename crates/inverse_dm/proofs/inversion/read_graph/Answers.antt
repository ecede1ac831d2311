use Rattle.inverse_dm.proofs.inversion.read_graph.Goals as goal

pub returns-clause-read : goal.returns-clause-read
returns-clause-read c = record {
  graph = c.in_ok-graph.ensures.graph;
  words = c.in_ok-words.ensures;
  roles = c.in_ok-roles.ensures c.args.triples.now c.in_ok-graph.ensures.graph c.in_ok-words.ensures c.in_ok-datatypes.ensures;
}
