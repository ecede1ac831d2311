use Rattle.std.proofs.Common.{◌≡◌, ◌++◌, take}
use Rattle.solutions_dm.proofs.numbers.add_column.Given as goal

abbrev pub invariant-loop-number : goal.invariant-loop-number
invariant-loop-number l = l.numbers ≡ l.fn.numbers ++ take l.number-index l.column
