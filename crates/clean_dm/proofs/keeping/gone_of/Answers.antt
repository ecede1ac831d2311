use Rattle.std.proofs.Common.{get_or, subst, arith, List}
use Rattle.members_dm.specs.Membership.{IsIn}
use Rattle.members_dm.proofs.ElementsLemmas.{item_within}
use Rattle.keys_dm.specs.declared.violation.ViolationKind.TheVariants.{NullKey}
use Rattle.clean_dm.specs.declared.removal.Removal.{Removal}
use Rattle.clean_dm.proofs.KeptLoops.{gone_on}
use Rattle.clean_dm.proofs.keeping.gone_of.Goals as goal

abbrev no_removal : Removal
no_removal = record { table = 0; row = 0; kind = NullKey }

pub overflow_sub-removal : goal.overflow_sub-removal
overflow_sub-removal c =
    let h = c.requires (get_or c.as_slice-removal-items.result.now c.loop-removal.removal-index no_removal) (subst (λ (rs : List Removal). IsIn (get_or c.as_slice-removal-items.result.now c.loop-removal.removal-index no_removal) rs) c.as_slice-removal-items.ensures (item_within c.as_slice-removal-items.result.now c.loop-removal.removal-index no_removal c.loop-removal-test.true)) in
    omega (arith, h.0)

pub overflow_cast-removal : goal.overflow_cast-removal
overflow_cast-removal c =
    let h = c.requires (get_or c.as_slice-removal-items.result.now c.loop-removal.removal-index no_removal) (subst (λ (rs : List Removal). IsIn (get_or c.as_slice-removal-items.result.now c.loop-removal.removal-index no_removal) rs) c.as_slice-removal-items.ensures (item_within c.as_slice-removal-items.result.now c.loop-removal.removal-index no_removal c.loop-removal-test.true)) in
    omega (arith, h.1)

pub overflow_sub-removal-in-loop-removal : goal.overflow_sub-removal-in-loop-removal
overflow_sub-removal-in-loop-removal c =
    let h = c.requires (get_or c.as_slice-removal-items.result.now c.loop-removal.removal-index no_removal) (subst (λ (rs : List Removal). IsIn (get_or c.as_slice-removal-items.result.now c.loop-removal.removal-index no_removal) rs) c.as_slice-removal-items.ensures (item_within c.as_slice-removal-items.result.now c.loop-removal.removal-index no_removal c.loop-removal-test.true)) in
    omega (arith, h.2)

pub loop-removal-preserved : goal.loop-removal-preserved
loop-removal-preserved c =
    let h = c.requires (get_or c.as_slice-removal-items.result.now c.loop-removal.removal-index no_removal) (subst (λ (rs : List Removal). IsIn (get_or c.as_slice-removal-items.result.now c.loop-removal.removal-index no_removal) rs) c.as_slice-removal-items.ensures (item_within c.as_slice-removal-items.result.now c.loop-removal.removal-index no_removal c.loop-removal-test.true)) in
    gone_on c.as_slice-removal-items.result.now c.loop-removal.removal-index no_removal c.loop-removal.gone c.insert.new.self c.loop-removal-test.true h.0 h.2 c.loop-removal.invariant c.in_ok-insert.ensures
