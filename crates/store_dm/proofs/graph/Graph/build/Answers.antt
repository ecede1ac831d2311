use Rattle.std.proofs.Common.{◌≡◌, Contains, ◌↔◌, ◌∙◌, sym, map-id, subst, List}
use Rattle.std.proofs.lemmas.Iterator.Consumers.{YieldsList-end}
use Rattle.std.proofs.lemmas.Iterator.Adapters.{YieldsList-from_vec}
use Rattle.std.proofs.lemmas.Result.{IfOk-weaker}
use Rattle.names_dm.specs.Statements.{Statement}
use Rattle.store_dm.specs.Graphs.{AreNumbered, GraphValue, HasTriple, IsGraphOf}
use Rattle.store_dm.proofs.NumberLemmas.{built_exact, all_named}
use Rattle.store_dm.proofs.graph.Graph.build.Goals as goal

pub returns : goal.returns
returns c =
    let v = c.into_vec-triple-items.result in
    let gives = c.into_iter-triple-iterator.ensures.into_iter_gives in
    let end = YieldsList-end (YieldsList-from_vec {s = c.into_iter-triple-iterator.result} v.items gives.0 (gives.1 ∙ v.ok.0)) c.loop-triple.yielded c.loop-triple.triple-iterator c.loop-triple.yielded_by c.next.result c.next.new.self c.in-None.is c.next.ensures.steps in
    let all : c.loop-triple.yielded ≡ c.args.triples = sym (map-id c.loop-triple.yielded) ∙ end.0 ∙ c.into_vec-triple-items.ensures in
    IfOk-weaker c.graph_of.result (λ (g : GraphValue). IsGraphOf c.loop-triple.terms c.loop-triple.triads.items g) (λ (g : GraphValue). (t : Statement) → HasTriple g t ↔ Contains c.args.triples t)
    (λ g h. built_exact c.loop-triple.terms c.loop-triple.triads.items c.args.triples g
    (subst (λ (ts : List Statement). AreNumbered c.loop-triple.terms c.loop-triple.triads.items ts) all c.loop-triple.invariant) h.terms_are h.triples_are)
    c.graph_of.ensures

pub graph_of-requires-clause-named : goal.graph_of-requires-clause-named
graph_of-requires-clause-named c = all_named c.loop-triple.terms c.loop-triple.triads.items c.loop-triple.yielded c.loop-triple.invariant.named
