use Rattle.std.proofs.Common.{subst, sym}
use Rattle.store_dm.specs.Turns.{matches_left}
use Rattle.roles_dm.specs.Numbers.{TellsOnly}
use Rattle.roles_dm.proofs.NumberLemmas.{only_none, only_one, only_several}
use Rattle.roles_dm.proofs.numbers.only_object.Goals as goal

pub returns-in-None : goal.returns-in-None
returns-in-None c =
    only_one c.args.graph.now c.len-count.ensures.lawful c.args.subject c.args.predicate c.if-subject-eq0.false c.if-predicate-eq0.false (matches_left c.find-found.result) c.find-found.ensures.exact
    (c.in_ok-object.field-0-0, c.in_ok-object.field-0-1, c.in_ok-object.object) (matches_left c.next.new.self) c.in_ok-object.ensures.steps c.in-None.ensures.steps.0

pub returns-in_err-object : goal.returns-in_err-object
returns-in_err-object c =
    subst (TellsOnly c.args.graph.now c.args.subject c.args.predicate) (sym c.from_residual.ensures)
    (only_none c.args.graph.now c.len-count.ensures.lawful c.args.subject c.args.predicate c.if-subject-eq0.false c.if-predicate-eq0.false (matches_left c.find-found.result) c.find-found.ensures.exact c.in_err-object.ensures.steps.0)

pub returns-in-Some : goal.returns-in-Some
returns-in-Some c =
    only_several c.args.graph.now c.len-count.ensures.lawful c.args.subject c.args.predicate c.if-subject-eq0.false c.if-predicate-eq0.false (matches_left c.find-found.result) c.find-found.ensures.exact
    (c.in_ok-object.field-0-0, c.in_ok-object.field-0-1, c.in_ok-object.object) c.in-Some.field-0 (matches_left c.next.new.self) (matches_left c.next-2.new.self) c.in_ok-object.ensures.steps c.in-Some.ensures.steps c.find-found.ensures.once
