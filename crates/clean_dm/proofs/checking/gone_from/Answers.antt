use Rattle.std.proofs.Common.{◌≡◌, ap, arith, length, sym}
use Rattle.std.proofs.lemmas.Option.{slice_get_within}
use Rattle.clean_dm.proofs.CheckingLemmas.{gone_behind, gone_never}
use Rattle.clean_dm.proofs.checking.gone_from.Goals as goal

pub overflow_add-result-in-Some : goal.overflow_add-result-in-Some
overflow_add-result-in-Some c =
    let at = (c.requires c.args.table c.args.row c.in-Some.turn).0 (sym c.in-Some.ensures) in
    let below = slice_get_within c.args.removals.now c.in-Some.turn at.0 at.1 in
    let many : length c.as_slice-count.result.now ≡ length c.args.removals.now = ap length c.as_slice-count.ensures in
    omega (arith, below, many, c.as_slice-count.type_inv.0)

pub returns-in-None : goal.returns-in-None
returns-in-None c = rw c.as_slice-count.ensures (gone_never c.args.removals.now c.args.turns.now c.requires c.args.table c.args.row (sym c.in-None.ensures))

pub returns-in-Some : goal.returns-in-Some
returns-in-Some c = gone_behind c.args.removals.now c.args.turns.now c.requires c.args.table c.args.row c.in-Some.turn (sym c.in-Some.ensures)
