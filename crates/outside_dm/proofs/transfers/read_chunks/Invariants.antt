use Rattle.std.proofs.Common.{◌≤◌, ◌+◌, ◌-◌}
use Rattle.outside_dm.proofs.Transferring.{ReadsSoFar}
use Rattle.outside_dm.proofs.transfers.read_chunks.Given as goal

-- what was read is appended
abbrev pub invariant-loop-taken : goal.invariant-loop-taken
invariant-loop-taken g l = record {
  reads : ReadsSoFar g.F.Reader.has_made l.fn.reader l.reader l.fn.into.items l.into.items l.taken;
  bound : l.taken ≤ 268435456 + 8192;
}

abbrev pub decreases-loop-taken : goal.decreases-loop-taken
decreases-loop-taken g l = 268435456 + 1 - l.taken
