use Rattle.std.proofs.Common.{◌≡◌, map, take}
use Rattle.names_dm.specs.Variables.{variable_of}
use Rattle.query_lines_dm.proofs.names.header.Given as goal

abbrev pub invariant-loop-name : goal.invariant-loop-name
invariant-loop-name l = l.vars ≡ map variable_of (take l.name-index l.names)
