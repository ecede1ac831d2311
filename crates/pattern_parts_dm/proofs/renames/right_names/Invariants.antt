use Rattle.std.proofs.Common.{◌≡◌, take}
use Rattle.keeping_dm.specs.Guards.{right_names}
use Rattle.pattern_parts_dm.proofs.renames.right_names.Given as goal

abbrev pub invariant-loop-name : goal.invariant-loop-name
invariant-loop-name l = l.made ≡ right_names (take l.name-index l.names)
