use Rattle.std.proofs.Common.{◌≡◌, List, take, subst, arith}
use Rattle.std.proofs.lemmas.List.{take_all}
use Rattle.names_dm.specs.Statements.{Statement}
use Rattle.store_dm.specs.Graphs.{AreNumbered}
use Rattle.store_dm.proofs.NumberLemmas.{built_exact, all_named}
use Rattle.store_dm.proofs.graph.Graph.build_from.Goals as goal

pub graph_of-requires-clause-named : goal.graph_of-requires-clause-named
graph_of-requires-clause-named c = all_named c.loop-triple.terms c.loop-triple.triads.items (take c.loop-triple.triple-index c.args.triples.now) c.loop-triple.invariant.named

pub returns-clause-built : goal.returns-clause-built
returns-clause-built c =
    let all : take c.loop-triple.triple-index c.args.triples.now ≡ c.args.triples.now = take_all c.loop-triple.triple-index c.args.triples.now (omega arith) in
    built_exact c.loop-triple.terms c.loop-triple.triads.items c.args.triples.now c.in_ok-graph.graph
    (subst (λ (ts : List Statement). AreNumbered c.loop-triple.terms c.loop-triple.triads.items ts) all c.loop-triple.invariant) c.in_ok-graph.ensures.terms_are c.in_ok-graph.ensures.triples_are
