use Rattle.std.proofs.Common.{◌++◌, ◌∷◌, ◌∙◌, [], List, subst, sym, ap}
use Rattle.names_dm.specs.declared.term.Term.{Term}
use Rattle.names_dm.specs.declared.term.Term.TheVariants.{Iri}
use Rattle.names_dm.specs.Statements.{Statement}
use Rattle.store_dm.specs.declared.listing.Triad.{Triad}
use Rattle.store_dm.specs.Terms.{IsNumbered}
use Rattle.store_dm.specs.Graphs.{AreNumbered}
use Rattle.store_dm.proofs.NumberLemmas.{add_numbered}
use Rattle.store_dm.proofs.graph.add_copied.Goals as goal

pub returns : goal.returns
returns c = λ ts so_far.
    let t : Statement = c.args.triple.now in
    let first : IsNumbered c.args.terms.now c.number_copied.new.self t.subject c.in_ok-first.first = subst (λ (x : Term). IsNumbered c.args.terms.now c.number_copied.new.self x c.in_ok-first.first) c.subject.ensures.subject c.in_ok-first.ensures.number in
    let second : IsNumbered c.number_copied.new.self c.number.new.self (Iri t.predicate) c.in_ok-second.second = subst (λ (x : Term). IsNumbered c.number_copied.new.self c.number.new.self x c.in_ok-second.second) (ap Iri (c.in_ok-copy.ensures ∙ c.predicate.ensures)) c.in_ok-second.ensures.number in
    let third : IsNumbered c.number.new.self c.number_copied-2.new.self t.object c.in_ok-third.third = subst (λ (x : Term). IsNumbered c.number.new.self c.number_copied-2.new.self x c.in_ok-third.third) c.object.ensures c.in_ok-third.ensures.number in
    subst (λ (xs : List Triad). AreNumbered c.number_copied-2.new.self xs (ts ++ t ∷ [])) (sym c.in_ok-push.ensures.items)
    (add_numbered c.args.terms.now c.number_copied.new.self c.number.new.self c.number_copied-2.new.self c.args.triads.now.items ts t c.in_ok-first.first c.in_ok-second.second c.in_ok-third.third
    first second third c.number_copied-2.ensures.apart so_far)
