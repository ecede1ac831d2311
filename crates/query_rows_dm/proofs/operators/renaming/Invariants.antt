use Rattle.std.proofs.Common.{◌≡◌, take}
use Rattle.query_rows_dm.specs.Operators.{renamed, renames}
use Rattle.query_rows_dm.proofs.operators.renaming.Given as goal

abbrev pub invariant-loop-name : goal.invariant-loop-name
invariant-loop-name l = l.made ≡ renames (renamed l.from l.to) (take l.name-index l.names)
