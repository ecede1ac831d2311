use Rattle.std.specs.Prelude.{take}
use Rattle.std.specs.List.{AllZip}
use Rattle.table_csv.specs.Cells.{AreRowsOf}
use Rattle.cmd_dm.proofs.Further.{FewInAll, FurtherSoFar}
use Rattle.cmd_dm.proofs.append.read_further_tables.Given as goal

-- the further rows of the first tables have been read, fit them, and are not too many
abbrev pub invariant-loop-place : goal.invariant-loop-place
invariant-loop-place g l =
    FurtherSoFar l.folder l.nulls l.old.rows l.tables (g.S.Shelf.state l.fn.shelf) l.place l.list (g.S.Shelf.state l.shelf)
    × AllZip (λ table rows. AreRowsOf table.columns rows) (take l.place l.tables) l.list
    × FewInAll l.old.rows l.list
