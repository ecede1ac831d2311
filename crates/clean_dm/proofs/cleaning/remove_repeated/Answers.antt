use Rattle.std.proofs.Common.{get_or, sym, subst}
use Rattle.members_dm.specs.Places.{IsListing}
use Rattle.table_csv.proofs.Zips.{one_read}
use Rattle.keys_dm.specs.Violations.{ViolatesAt}
use Rattle.keys_dm.specs.declared.violation.Violation.{Violation}
use Rattle.keys_dm.specs.declared.violation.ViolationKind.TheVariants.{NullKey}
use Rattle.clean_dm.proofs.RepeatedSteps.{repeated_on, unique_at_end, within_limits}
use Rattle.clean_dm.proofs.cleaning.remove_repeated.Goals as goal

abbrev no_violation : Violation
no_violation = record { table = 0; row = 0; kind = NullKey }

pub remove_if_left-requires : goal.remove_if_left-requires
remove_if_left-requires c =
    let listing : IsListing (ViolatesAt c.args.database.now) c.as_slice-violation-items.result.now = subst (IsListing (ViolatesAt c.args.database.now)) (sym c.as_slice-violation-items.ensures) c.in_ok-found.ensures.listed in
    within_limits c.args.database.now c.loop-violation.cleaning.removals c.loop-violation.cleaning.left c.as_slice-violation-items.result.now c.loop-violation.violation-index (get_or c.as_slice-violation-items.result.now c.loop-violation.violation-index no_violation) listing c.loop-violation-test.true
    (one_read c.as_slice-violation-items.result.now c.loop-violation.violation-index no_violation (get_or c.as_slice-violation-items.result.now c.loop-violation.violation-index no_violation) c.loop-violation-test.true) c.loop-violation.invariant c.requires.fits

pub loop-violation-preserved : goal.loop-violation-preserved
loop-violation-preserved c =
    let listing : IsListing (ViolatesAt c.args.database.now) c.as_slice-violation-items.result.now = subst (IsListing (ViolatesAt c.args.database.now)) (sym c.as_slice-violation-items.ensures) c.in_ok-found.ensures.listed in
    repeated_on c.args.database.now c.loop-violation.cleaning.removals c.loop-violation.cleaning.left c.as_slice-violation-items.result.now c.loop-violation.violation-index (get_or c.as_slice-violation-items.result.now c.loop-violation.violation-index no_violation) listing c.loop-violation-test.true
    (one_read c.as_slice-violation-items.result.now c.loop-violation.violation-index no_violation (get_or c.as_slice-violation-items.result.now c.loop-violation.violation-index no_violation) c.loop-violation-test.true) c.loop-violation.invariant
    c.remove_if_left.new.cleaning.removals c.remove_if_left.new.cleaning.left c.in_ok-remove_if_left.ensures.not c.in_ok-remove_if_left.ensures.left

pub returns-clause-unique : goal.returns-clause-unique
returns-clause-unique c =
    let listing : IsListing (ViolatesAt c.args.database.now) c.as_slice-violation-items.result.now = subst (IsListing (ViolatesAt c.args.database.now)) (sym c.as_slice-violation-items.ensures) c.in_ok-found.ensures.listed in
    unique_at_end c.args.database.now c.loop-violation.cleaning.removals c.loop-violation.cleaning.left c.as_slice-violation-items.result.now c.loop-violation.violation-index listing c.loop-violation-test.false c.loop-violation.invariant
