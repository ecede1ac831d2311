use Rattle.std.proofs.Common.{subst, sym}
use Rattle.members_dm.specs.Membership.{IsIn}
use Rattle.members_dm.proofs.ElementsLemmas.{item_within}
use Rattle.clean_dm.specs.declared.references.Reference.{Reference}
use Rattle.clean_dm.proofs.ReferenceLemmas.{gains_all, matching_on}
use Rattle.clean_dm.proofs.candidates.add_referencing.Goals as goal

pub add_matching-requires-clause-reference : goal.add_matching-requires-clause-reference
add_matching-requires-clause-reference c =
    c.requires.references.each c.reference-item.result (rw (← c.as_slice-reference-items.ensures) (subst (λ (r : Reference). IsIn r c.as_slice-reference-items.result.now) (sym c.reference-item.is) (item_within c.as_slice-reference-items.result.now c.loop-reference.reference-index c.reference-item.result c.loop-reference-test.true)))

pub loop-reference-preserved : goal.loop-reference-preserved
loop-reference-preserved c =
    matching_on c.args.database.now c.args.due.now c.loop-reference.due c.add_matching.new.due c.args.table c.args.row c.loop-reference.reference-index c.as_slice-reference-items.result.now c.reference-item.result c.loop-reference-test.true c.reference-item.is c.loop-reference.invariant c.in_ok-add_matching.ensures

pub returns : goal.returns
returns c =
    gains_all c.args.database.now c.args.due.now c.loop-reference.due c.args.table c.args.row c.loop-reference.reference-index c.as_slice-reference-items.result.now c.loop-reference-test.false (rw c.as_slice-reference-items.ensures c.requires.references) c.loop-reference.invariant
