use Rattle.std.proofs.Common.{◌≤◌, ◌+◌, length}
use Rattle.ntriples_reader_dm.proofs.Cuts.{AreSoFar}
use Rattle.ntriples_reader_dm.proofs.lines.read_lines.Given as goal

abbrev pub invariant-lines : goal.invariant-lines
invariant-lines l = AreSoFar l.bytes l.triples l.number l.rest × (l.number + length l.rest ≤ length l.bytes)

abbrev pub decreases-lines : goal.decreases-lines
decreases-lines l = length l.rest
