use Rattle.std.proofs.Common.{◌≤◌, ◌-◌, drop, length}
use Rattle.outside_dm.proofs.Transferring.{WritesSoFar}
use Rattle.outside_dm.proofs.transfers.pass.Given as goal

-- the front of the piece is written
abbrev pub invariant-loop-taken : goal.invariant-loop-taken
invariant-loop-taken g l = record {
  within : l.taken ≤ length l.piece;
  front : WritesSoFar g.W.Writer.has_made g.W.Writer.held l.fn.writer l.writer l.piece (drop l.taken l.piece);
}

abbrev pub decreases-loop-taken : goal.decreases-loop-taken
decreases-loop-taken g l = length l.piece - l.taken
