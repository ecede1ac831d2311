use Rattle.std.proofs.Common.{◌≡◌, ◌==◌, not, filter, slice_index}
use Rattle.members_dm.specs.InOrder.{positions_below}
use Rattle.solutions_dm.proofs.marks.marked.Given as goal

abbrev pub invariant-loop-i : goal.invariant-loop-i
invariant-loop-i l = l.places.items ≡ filter (λ i. not (slice_index l.mask i == 0)) (positions_below l.i)
