use Rattle.std.proofs.Common.{◌≤◌, ◌-◌, length}
use Rattle.lanes_dm.specs.ByteSet.{has_byte}
use Rattle.lanes_dm.proofs.Searches.{NoneBefore}
use Rattle.lanes_dm.proofs.bytes.first_of.Given as goal

abbrev pub invariant-wide : goal.invariant-wide
invariant-wide l = (l.at ≤ length l.bytes) × NoneBefore (has_byte l.class) l.bytes l.at

abbrev pub decreases-wide : goal.decreases-wide
decreases-wide l = length l.bytes - l.at
