use Rattle.std.proofs.Common.{◌≡◌, ◌++◌, take}
use Rattle.algebra_dm.proofs.name_lists.together.Given as goal

abbrev pub invariant-loop-name : goal.invariant-loop-name
invariant-loop-name l = l.all.items ≡ l.fn.names ++ take l.name-index l.name-items
