use Rattle.std.specs.Prelude.{map, take}
use Rattle.outside_dm.specs.Storing.{Stored}
use Rattle.cmd_dm.specs.Folder.{entry_of}
use Rattle.cmd_dm.proofs.storing.store_all.Given as goal

-- the first files have been stored
abbrev pub invariant-loop-file : goal.invariant-loop-file
invariant-loop-file g l = Stored (map entry_of (take l.file-index l.files)) (g.S.Shelf.state l.fn.shelf) (g.S.Shelf.state l.shelf)
