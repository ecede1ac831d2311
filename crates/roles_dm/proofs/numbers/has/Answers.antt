use Rattle.store_dm.specs.Turns.{matches_left}
use Rattle.roles_dm.proofs.NumberLemmas.{has_found}
use Rattle.std.proofs.Common.{◌↔◌, IsTrue, subst, sym, Bool}
use Rattle.roles_dm.specs.Numbers.{HasNumbers}
use Rattle.roles_dm.proofs.numbers.has.Goals as goal

pub returns : goal.returns
returns c = subst (λ (b : Bool). IsTrue b ↔ HasNumbers c.args.graph.now c.args.subject c.args.predicate c.args.object) (sym c.is_some.ensures)
    (has_found c.args.graph.now c.args.subject c.args.predicate c.args.object (matches_left c.find.result) (matches_left c.next.new.self) c.next.result c.if-subject-eq0.false c.if-predicate-eq0.false c.if-object-eq0.false c.find.ensures.exact c.next.ensures.steps)
