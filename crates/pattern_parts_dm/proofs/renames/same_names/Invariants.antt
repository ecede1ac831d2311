use Rattle.std.proofs.Common.{◌≡◌, take}
use Rattle.keeping_dm.specs.Guards.{same_names}
use Rattle.pattern_parts_dm.proofs.renames.same_names.Given as goal

abbrev pub invariant-loop-name : goal.invariant-loop-name
invariant-loop-name l = l.made ≡ same_names (take l.name-index l.names)
