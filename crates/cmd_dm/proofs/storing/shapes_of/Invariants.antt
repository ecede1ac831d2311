use Rattle.std.proofs.Common.{◌≡◌}
use Rattle.std.specs.Prelude.{map, take}
use Rattle.cmd_dm.specs.Folder.{shape_of}
use Rattle.cmd_dm.proofs.storing.shapes_of.Given as goal

abbrev pub invariant-loop-table : goal.invariant-loop-table
invariant-loop-table l = l.shapes ≡ map shape_of (take l.table-index l.tables)
