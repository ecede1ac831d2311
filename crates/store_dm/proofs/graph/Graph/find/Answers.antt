use Rattle.std.proofs.Common.{ℕ, Contains, ◌↔◌, subst, map}
use Rattle.store_dm.specs.declared.matches.Beginning.TheVariants.{Subject, Predicate, Object}
use Rattle.store_dm.specs.Triads.{FitsAll}
use Rattle.store_dm.specs.Graphs.{GraphValue}
use Rattle.store_dm.specs.Turns.{numbers, turned}
use Rattle.store_dm.proofs.TurnLemmas.{matches_exact, numbers_apart, AllPairs-map}
use Rattle.store_dm.proofs.graph.Graph.find.Goals as goal

pub returns-in-Subject-clause-exact : goal.returns-in-Subject-clause-exact
returns-in-Subject-clause-exact c = subst (λ (g : GraphValue). (x y z : ℕ) → Contains (map (numbers Subject) c.range.result.now) (x, y, z) ↔ (Contains g.triples (turned Subject x y z) × FitsAll (turned Subject c.args.s c.args.p c.args.o) (turned Subject x y z)))
    c.self.view_is
    (matches_exact Subject c.args.s c.args.p c.args.o c.self.inside.by_subject c.self.inside.by_subject c.range.result.now (λ x y z. ((λ h. h), (λ h. h))) c.range.ensures.exact)

pub returns-in-Subject-clause-once : goal.returns-in-Subject-clause-once
returns-in-Subject-clause-once c = AllPairs-map (numbers Subject) (numbers_apart Subject) c.range.result.now c.range.ensures.once

pub returns-in-Predicate-clause-exact : goal.returns-in-Predicate-clause-exact
returns-in-Predicate-clause-exact c = subst (λ (g : GraphValue). (x y z : ℕ) → Contains (map (numbers Predicate) c.range-in-Predicate.result.now) (x, y, z) ↔ (Contains g.triples (turned Subject x y z) × FitsAll (turned Subject c.args.s c.args.p c.args.o) (turned Subject x y z)))
    c.self.view_is
    (matches_exact Predicate c.args.s c.args.p c.args.o c.self.inside.by_subject c.self.inside.by_predicate c.range-in-Predicate.result.now c.self.invariant.turned.predicates c.range-in-Predicate.ensures.exact)

pub returns-in-Predicate-clause-once : goal.returns-in-Predicate-clause-once
returns-in-Predicate-clause-once c = AllPairs-map (numbers Predicate) (numbers_apart Predicate) c.range-in-Predicate.result.now c.range-in-Predicate.ensures.once

pub returns-in-Object-clause-exact : goal.returns-in-Object-clause-exact
returns-in-Object-clause-exact c = subst (λ (g : GraphValue). (x y z : ℕ) → Contains (map (numbers Object) c.range-in-Object.result.now) (x, y, z) ↔ (Contains g.triples (turned Subject x y z) × FitsAll (turned Subject c.args.s c.args.p c.args.o) (turned Subject x y z)))
    c.self.view_is
    (matches_exact Object c.args.s c.args.p c.args.o c.self.inside.by_subject c.self.inside.by_object c.range-in-Object.result.now c.self.invariant.turned.objects c.range-in-Object.ensures.exact)

pub returns-in-Object-clause-once : goal.returns-in-Object-clause-once
returns-in-Object-clause-once c = AllPairs-map (numbers Object) (numbers_apart Object) c.range-in-Object.result.now c.range-in-Object.ensures.once
