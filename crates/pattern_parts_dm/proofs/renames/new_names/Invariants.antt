use Rattle.std.proofs.Common.{◌≡◌, take}
use Rattle.keeping_dm.specs.Guards.{new_names}
use Rattle.pattern_parts_dm.proofs.renames.new_names.Given as goal

abbrev pub invariant-loop-name : goal.invariant-loop-name
invariant-loop-name l = l.made ≡ new_names l.from l.to (take l.name-index l.names)
