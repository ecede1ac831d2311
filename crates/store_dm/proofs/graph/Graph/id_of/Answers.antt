use Rattle.std.proofs.Common.{◌↔◌, IsSome, subst}
use Rattle.store_dm.specs.Graphs.{GraphValue, HoldsTerm}
use Rattle.store_dm.proofs.NumberLemmas.{holds_term}
use Rattle.store_dm.proofs.graph.Graph.id_of.Goals as goal

pub returns-clause-found : goal.returns-clause-found
returns-clause-found c = subst (λ (g : GraphValue). IsSome c.id_of.result ↔ HoldsTerm g c.args.term.now) c.self.view_is
    (let law = holds_term (record { terms = c.self.inside.terms; triples = c.self.inside.by_subject }) c.args.term.now c.self.invariant.used in
    ((λ h. law.0 (c.id_of.ensures.found.0 h)), (λ h. c.id_of.ensures.found.1 (law.1 h))))
