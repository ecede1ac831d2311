use Rattle.std.specs.Prelude.{take}
use Rattle.std.specs.List.{AllZip}
use Rattle.table_csv.specs.Cells.{AreRowsOf}
use Rattle.cmd_dm.proofs.StepLaws.{ReadSoFar}
use Rattle.cmd_dm.proofs.steps.read_tables.Given as goal

-- the rows of the first tables have been read, and fit them
abbrev pub invariant-loop-place : goal.invariant-loop-place
invariant-loop-place g l =
    ReadSoFar l.folder l.nulls l.tables (g.S.Shelf.state l.fn.shelf) l.place l.list (g.S.Shelf.state l.shelf)
    × AllZip (λ table rows. AreRowsOf table.columns rows) (take l.place l.tables) l.list
