use Rattle.std.proofs.Common.{◌≡◌, take}
use Rattle.append_dm.proofs.fitting.are_same.Given as goal

abbrev pub invariant-loop-place : goal.invariant-loop-place
invariant-loop-place l = take l.place l.tables ≡ take l.place l.others
