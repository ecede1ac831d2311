use Rattle.std.proofs.Common.{◌≡◌, ℕ}
use Rattle.std.specs.Prelude.{nat_lt}
use Rattle.lanes_dm.specs.ByteSet.{has_byte}
use Rattle.ntriples_reader_dm.proofs.classes.controls.Given as goal

abbrev pub invariant-loop-b : goal.invariant-loop-b
invariant-loop-b l = (x : ℕ) → has_byte l.class x ≡ nat_lt x l.b
