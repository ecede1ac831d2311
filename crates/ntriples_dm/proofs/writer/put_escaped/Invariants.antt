use Rattle.std.proofs.Common.{◌≡◌, ◌++◌, ℕ, List, length}
use Rattle.std.specs.List.{flat_map}
use Rattle.outside_dm.specs.Putting.{Written}
use Rattle.ntriples_dm.specs.Written.{escaped}
use Rattle.ntriples_dm.proofs.writer.put_escaped.Given as goal

-- what has been put, and what stands for the rest, are the whole
abbrev pub invariant-loop-place : goal.invariant-loop-place
invariant-loop-place g l =
    (done : List ℕ) × (flat_map escaped l.fn.bytes ≡ done ++ flat_map escaped l.rest) × Written done (g.K.Sink.state l.fn.out) (g.K.Sink.state l.out)

-- the bytes that are left
abbrev pub decreases-loop-place : goal.decreases-loop-place
decreases-loop-place g l = length l.rest
