use Rattle.std.proofs.Common.{◌≡◌, take}
use Rattle.query_rows_dm.specs.Operators.{renames}
use Rattle.query_rows_dm.proofs.operators.keeping.Given as goal

abbrev pub invariant-loop-name : goal.invariant-loop-name
invariant-loop-name l = l.made ≡ renames (λ x. x) (take l.name-index l.names)
