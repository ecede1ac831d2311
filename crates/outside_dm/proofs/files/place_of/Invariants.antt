use Rattle.std.proofs.Common.{take}
use Rattle.outside_dm.specs.Files.{NoneNamed}
use Rattle.outside_dm.proofs.files.place_of.Given as goal

-- no file so far has the name
abbrev pub invariant-loop-place : goal.invariant-loop-place
invariant-loop-place l = NoneNamed l.name (take l.place l.files)
