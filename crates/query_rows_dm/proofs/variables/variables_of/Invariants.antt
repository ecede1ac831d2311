use Rattle.std.proofs.Common.{◌≡◌, map, take}
use Rattle.members_dm.specs.Elements.{Each}
use Rattle.names_dm.specs.Variables.{variable_of}
use Rattle.query_rows_dm.specs.Relations.{OwnsVariable}
use Rattle.query_rows_dm.proofs.variables.variables_of.Given as goal

abbrev pub invariant-loop-name : goal.invariant-loop-name
invariant-loop-name l = (l.vars ≡ map variable_of (take l.name-index l.names)) × Each OwnsVariable (take l.name-index l.names)
