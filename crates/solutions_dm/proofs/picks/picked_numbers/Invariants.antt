use Rattle.std.proofs.Common.{◌≡◌, map, take, slice_index}
use Rattle.solutions_dm.proofs.picks.picked_numbers.Given as goal

abbrev pub invariant-loop-place : goal.invariant-loop-place
invariant-loop-place l = l.picked ≡ map (slice_index l.numbers) (take l.place-index l.places)
