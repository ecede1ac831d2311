use Rattle.std.proofs.Common.{◌≢◌, Contains, AllPairs, ◌↔◌, subst, sym, List}
use Rattle.store_dm.specs.declared.listing.Triad.{Triad}
use Rattle.store_dm.specs.Triads.{FitsAll}
use Rattle.store_dm.proofs.TriadLemmas.{start_first, range_exact, range_once}
use Rattle.store_dm.proofs.listing.range_of.Goals as goal

pub part-requires-clause-low : goal.part-requires-clause-low
part-requires-clause-low c = start_first c.args.items.now c.requires.rising c.args.from c.requires.prefix c.start_of-start.result c.end_of-end.result
    c.start_of-start.ensures.bound c.end_of-end.ensures.bound c.start_of-start.ensures.point c.end_of-end.ensures.point

pub returns-clause-exact : goal.returns-clause-exact
returns-clause-exact c = λ x.
    subst (λ (ys : List Triad). Contains ys x ↔ (Contains c.args.items.now x × FitsAll c.args.from x)) (sym c.part.ensures)
    (range_exact c.args.items.now c.requires.rising c.args.from c.requires.prefix c.start_of-start.result c.end_of-end.result
    c.start_of-start.ensures.bound c.end_of-end.ensures.bound c.start_of-start.ensures.point c.end_of-end.ensures.point x)

pub returns-clause-once : goal.returns-clause-once
returns-clause-once c =
    subst (λ (ys : List Triad). AllPairs (λ (x y : Triad). x ≢ y) ys) (sym c.part.ensures)
    (range_once c.args.items.now c.requires.rising c.args.from c.requires.prefix c.start_of-start.result c.end_of-end.result
    c.start_of-start.ensures.bound c.end_of-end.ensures.bound c.start_of-start.ensures.point c.end_of-end.ensures.point)
