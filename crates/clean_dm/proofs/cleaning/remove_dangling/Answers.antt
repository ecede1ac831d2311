use Rattle.std.proofs.Common.{refl, ◌<◌, subst, sym, List}
use Rattle.clean_dm.specs.Working.{AreCandidatesBut, IsFirstDangling, NoneDangles}
use Rattle.clean_dm.specs.declared.removal.Removal.{Removal}
use Rattle.clean_dm.proofs.DanglingSteps.{WhileDangling, done_dangling, while_on}
use Rattle.keys_dm.specs.declared.violation.ViolationKind.TheVariants.{Dangling}
use Rattle.clean_dm.proofs.Largest.{removal_of}
use Rattle.clean_dm.proofs.cleaning.remove_dangling.Goals as goal

pub remove-requires-clause-row : goal.remove-requires-clause-row
remove-requires-clause-row c = (let few : c.in-Some.first.row < 4194304 = c.in-Some.ensures.few in few)

pub loop-first-preserved : goal.loop-first-preserved
loop-first-preserved c =
    let first : IsFirstDangling c.args.database.now c.loop-first.cleaning.left c.in-Some.first.table c.in-Some.first.row c.in-Some.first.number = c.in-Some.ensures.some in
    let but : AreCandidatesBut c.args.database.now c.loop-first.cleaning.left c.next_dangling.new.due c.in-Some.first.table c.in-Some.first.row = c.in-Some.ensures.rest in
    let removal : Removal = removal_of c.in-Some.first.table c.in-Some.first.row (Dangling c.in-Some.first.number) in
    let after = while_on c.args.database.now c.loop-first.cleaning.removals removal c.loop-first.cleaning.left c.remove.new.cleaning.left c.loop-first.due c.next_dangling.new.due c.add_referencing.new.due c.in-Some.first.table c.in-Some.first.row c.in-Some.first.number
    c.loop-first.invariant refl first c.in_ok-remove.ensures.left but c.in_ok-add_referencing.ensures in
    subst (λ (removals : List Removal). WhileDangling c.args.database.now removals c.remove.new.cleaning.left c.add_referencing.new.due) (sym c.in_ok-remove.ensures.removals) after

pub returns-clause-done : goal.returns-clause-done
returns-clause-done c =
    let none : NoneDangles c.args.database.now c.loop-first.cleaning.left = c.in_default.ensures.none in
    done_dangling c.args.database.now c.loop-first.cleaning.removals c.loop-first.cleaning.left c.loop-first.invariant.way c.loop-first.invariant.unique none
