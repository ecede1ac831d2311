use Rattle.std.proofs.Common.{ℕ, MatchOption, Option, sym, subst}
use Rattle.store_dm.specs.Turns.{matches_left}
use Rattle.roles_dm.specs.Numbers.{HasNumbers}
use Rattle.graph_tables_dm.proofs.LoopLemmas.{no_object, object_within, some_object}
use Rattle.graph_tables_dm.proofs.lookups.first_object.Goals as goal

pub returns-in_err-object-clause-found : goal.returns-in_err-object-clause-found
returns-in_err-object-clause-found c =
    let g = c.args.graph.now in
    subst (λ (r : Option ℕ). MatchOption r ((object : ℕ) → ¬ HasNumbers g c.args.subject c.args.predicate object) (HasNumbers g c.args.subject c.args.predicate)) (sym c.from_residual.ensures)
    (no_object g c.len-count.ensures.lawful c.args.subject c.args.predicate c.if-subject-eq0.false c.if-predicate-eq0.false (matches_left c.find.result) c.find.ensures.exact c.in_err-object.ensures.steps.0)

pub returns-clause-found : goal.returns-clause-found
returns-clause-found c =
    some_object c.args.graph.now c.len-count.ensures.lawful c.args.subject c.args.predicate c.if-subject-eq0.false c.if-predicate-eq0.false (matches_left c.find.result) c.find.ensures.exact
    (c.in_ok-object.field-0-0, c.in_ok-object.field-0-1, c.in_ok-object.object) (matches_left c.next.new.self) c.in_ok-object.ensures.steps

pub returns-clause-low : goal.returns-clause-low
returns-clause-low c =
    (object_within c.args.graph.now c.len-count.ensures.lawful c.args.subject c.args.predicate c.in_ok-object.object
    (some_object c.args.graph.now c.len-count.ensures.lawful c.args.subject c.args.predicate c.if-subject-eq0.false c.if-predicate-eq0.false (matches_left c.find.result) c.find.ensures.exact
    (c.in_ok-object.field-0-0, c.in_ok-object.field-0-1, c.in_ok-object.object) (matches_left c.next.new.self) c.in_ok-object.ensures.steps)).0

pub returns-clause-high : goal.returns-clause-high
returns-clause-high c =
    (object_within c.args.graph.now c.len-count.ensures.lawful c.args.subject c.args.predicate c.in_ok-object.object
    (some_object c.args.graph.now c.len-count.ensures.lawful c.args.subject c.args.predicate c.if-subject-eq0.false c.if-predicate-eq0.false (matches_left c.find.result) c.find.ensures.exact
    (c.in_ok-object.field-0-0, c.in_ok-object.field-0-1, c.in_ok-object.object) (matches_left c.next.new.self) c.in_ok-object.ensures.steps)).1
