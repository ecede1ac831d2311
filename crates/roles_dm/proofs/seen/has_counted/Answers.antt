use Rattle.std.proofs.Common.{◌∙◌, ℕ, List, ap, length, map-id, refl, subst, sym}
use Rattle.std.proofs.lemmas.Iterator.Consumers.{YieldsList-end, YieldsList-from_first, YieldsList-turn}
use Rattle.members_dm.specs.Membership.{IsIn}
use Rattle.store_dm.specs.Turns.{matches_left}
use Rattle.roles_dm.specs.Seen.{Counts}
use Rattle.roles_dm.proofs.ColumnLemmas.{fails}
use Rattle.roles_dm.proofs.SeenLemmas.{found_counted, none_counted, none_more, object_within, there_by}
use Rattle.roles_dm.proofs.seen.has_counted.Goals as goal

pub counts-requires-clause-low : goal.counts-requires-clause-low
counts-requires-clause-low c =
    let found = matches_left c.find-object-items.result in
    let turn = YieldsList-turn (YieldsList-from_first (λ (x : ℕ × ℕ × ℕ). x) matches_left found (ap matches_left c.into_iter-object-iterator.ensures.into_iter_gives)) c.loop-object.yielded _ c.loop-object.yielded_by c.next.result c.next.new.self (c.in-Some.field-0-0, c.in-Some.field-0-1, c.in-Some.object) c.in-Some.is c.next.ensures.steps in
    (object_within c.args.graph.now c.len-count.ensures.lawful c.args.roles.now c.args.subject c.args.property c.if-subject-eq0.false c.if-property-eq0.false found c.find-object-items.ensures.exact
    (c.in-Some.field-0-0, c.in-Some.field-0-1, c.in-Some.object) (there_by found (length c.loop-object.yielded) (c.in-Some.field-0-0, c.in-Some.field-0-1, c.in-Some.object) turn)).0

pub counts-requires-clause-high : goal.counts-requires-clause-high
counts-requires-clause-high c =
    let found = matches_left c.find-object-items.result in
    let turn = YieldsList-turn (YieldsList-from_first (λ (x : ℕ × ℕ × ℕ). x) matches_left found (ap matches_left c.into_iter-object-iterator.ensures.into_iter_gives)) c.loop-object.yielded _ c.loop-object.yielded_by c.next.result c.next.new.self (c.in-Some.field-0-0, c.in-Some.field-0-1, c.in-Some.object) c.in-Some.is c.next.ensures.steps in
    (object_within c.args.graph.now c.len-count.ensures.lawful c.args.roles.now c.args.subject c.args.property c.if-subject-eq0.false c.if-property-eq0.false found c.find-object-items.ensures.exact
    (c.in-Some.field-0-0, c.in-Some.field-0-1, c.in-Some.object) (there_by found (length c.loop-object.yielded) (c.in-Some.field-0-0, c.in-Some.field-0-1, c.in-Some.object) turn)).1

pub loop-object-preserved : goal.loop-object-preserved
loop-object-preserved c = none_more c.args.graph.now c.args.roles.now c.args.property c.loop-object.yielded (c.in-Some.field-0-0, c.in-Some.field-0-1, c.in-Some.object) c.loop-object.invariant (fails c.in_ok-told.told c.in_ok-told.ensures c.if-told.false)

pub returns-then-told : goal.returns-then-told
returns-then-told c =
    let found = matches_left c.find-object-items.result in
    let turn = YieldsList-turn (YieldsList-from_first (λ (x : ℕ × ℕ × ℕ). x) matches_left found (ap matches_left c.into_iter-object-iterator.ensures.into_iter_gives)) c.loop-object.yielded _ c.loop-object.yielded_by c.next.result c.next.new.self (c.in-Some.field-0-0, c.in-Some.field-0-1, c.in-Some.object) c.in-Some.is c.next.ensures.steps in
    let counted = found_counted c.args.graph.now c.len-count.ensures.lawful c.args.roles.now c.args.subject c.args.property c.if-subject-eq0.false c.if-property-eq0.false found c.find-object-items.ensures.exact
    (c.in-Some.field-0-0, c.in-Some.field-0-1, c.in-Some.object) (there_by found (length c.loop-object.yielded) (c.in-Some.field-0-0, c.in-Some.field-0-1, c.in-Some.object) turn) (c.in_ok-told.ensures.0 c.if-told.true) in
    ((λ _. counted), (λ _. refl))

pub returns : goal.returns
returns c =
    let found = matches_left c.find-object-items.result in
    let end = YieldsList-end (YieldsList-from_first (λ (x : ℕ × ℕ × ℕ). x) matches_left found (ap matches_left c.into_iter-object-iterator.ensures.into_iter_gives)) c.loop-object.yielded _ c.loop-object.yielded_by c.next.result c.next.new.self c.in-None.is c.next.ensures.steps in
    none_counted c.args.graph.now c.len-count.ensures.lawful c.args.roles.now c.args.subject c.args.property c.if-subject-eq0.false c.if-property-eq0.false found c.find-object-items.ensures.exact
    (subst (λ (xs : List (ℕ × ℕ × ℕ)). (x : ℕ × ℕ × ℕ) → IsIn x xs → ¬ Counts c.args.graph.now c.args.roles.now c.args.property x.2) (sym (map-id c.loop-object.yielded) ∙ end.0) c.loop-object.invariant)
