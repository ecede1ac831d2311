use Rattle.std.proofs.Common.{◌≤◌}
use Rattle.keys_dm.specs.Twins.{FlagsPairs}
use Rattle.keys_dm.proofs.twins.twins_of.Given as goal

abbrev pub invariant-loop-place : goal.invariant-loop-place
invariant-loop-place l = (1 ≤ l.place) × FlagsPairs l.rows l.places l.entries l.place l.flags.items
