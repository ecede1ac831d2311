use Rattle.std.proofs.Common.{◌≡◌, ◌≤◌, List, Some, ap, arith, get_or, length, subst}
use Rattle.std.specs.Prelude.{slice_get}
use Rattle.keys_dm.specs.declared.violation.ViolationKind.TheVariants.{NullKey}
use Rattle.clean_dm.specs.declared.removal.Removal.{Removal}
use Rattle.clean_dm.proofs.CheckingLemmas.{item_read}
use Rattle.clean_dm.proofs.TurnLemmas.{all_turns, exist_all, exist_on, refused_turn, turns_on}
use Rattle.clean_dm.proofs.turns.turns_of.Goals as goal

abbrev no_removal : Removal
no_removal = record { table = 0; row = 0; kind = NullKey }

pub returns-then-not-branch-clause-none : goal.returns-then-not-branch-clause-none
returns-then-not-branch-clause-none c =
    let item : Removal = get_or c.as_slice-removal-items.result.now c.loop-turn.turn no_removal in
    let read : slice_get c.args.removals.now c.loop-turn.turn ≡ Some item =
    subst (λ (rs : List Removal). slice_get rs c.loop-turn.turn ≡ Some item) c.as_slice-removal-items.ensures (item_read c.as_slice-removal-items.result.now c.loop-turn.turn no_removal c.loop-turn-test.true) in
    refused_turn c.args.database.now c.args.removals.now c.loop-turn.turn item c.loop-turn.turns c.take_turn.new.turns read c.loop-turn.invariant.0 (c.in_ok-take_turn.ensures.refused c.if-not-branch.true)

pub loop-turn-preserved : goal.loop-turn-preserved
loop-turn-preserved c =
    let item : Removal = get_or c.as_slice-removal-items.result.now c.loop-turn.turn no_removal in
    let read : slice_get c.args.removals.now c.loop-turn.turn ≡ Some item =
    subst (λ (rs : List Removal). slice_get rs c.loop-turn.turn ≡ Some item) c.as_slice-removal-items.ensures (item_read c.as_slice-removal-items.result.now c.loop-turn.turn no_removal c.loop-turn-test.true) in
    let taken = c.in_ok-take_turn.ensures.taken c.if-not-branch.false in (
      turns_on c.args.database.now c.args.removals.now c.loop-turn.turn item c.loop-turn.turns c.take_turn.new.turns read c.loop-turn.invariant.0 taken,
      exist_on c.args.database.now c.args.removals.now c.loop-turn.turn item c.loop-turn.turns c.take_turn.new.turns read c.loop-turn.invariant.1 taken,
    )

pub returns-clause-some : goal.returns-clause-some
returns-clause-some c =
    let many : length c.as_slice-removal-items.result.now ≡ length c.args.removals.now = ap length c.as_slice-removal-items.ensures in
    let whole : length c.args.removals.now ≤ c.loop-turn.turn = omega (arith, c.loop-turn-test.false) in
    all_turns c.args.removals.now c.loop-turn.turn c.loop-turn.turns whole c.loop-turn.invariant.0

pub returns-clause-exist : goal.returns-clause-exist
returns-clause-exist c =
    let many : length c.as_slice-removal-items.result.now ≡ length c.args.removals.now = ap length c.as_slice-removal-items.ensures in
    let whole : length c.args.removals.now ≤ c.loop-turn.turn = omega (arith, c.loop-turn-test.false) in
    exist_all c.args.database.now c.args.removals.now c.loop-turn.turn whole c.loop-turn.invariant.1
