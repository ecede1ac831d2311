use Rattle.std.proofs.Common.{◌≡◌, drop}
use Rattle.outside_dm.specs.Failing.{kept_at}
use Rattle.outside_dm.proofs.memory_sink.first_cut.Given as goal

-- no cut so far has the number
abbrev pub invariant-loop-cut : goal.invariant-loop-cut
invariant-loop-cut l = kept_at l.cuts l.call ≡ kept_at (drop l.cut-index l.cuts) l.call
