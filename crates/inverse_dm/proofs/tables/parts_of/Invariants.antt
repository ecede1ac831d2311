use Rattle.std.proofs.Common.{◌≡◌, map}
use Rattle.graph_tables_dm.specs.TableReadings.{plain_of}
use Rattle.inverse_dm.specs.Parts.{rows_of, shape_of}
use Rattle.inverse_dm.proofs.tables.parts_of.Given as goal

-- the parts are those of the tables so far
abbrev pub invariant-loop-table : goal.invariant-loop-table
invariant-loop-table l = record {
  shape : l.parts.shape ≡ shape_of (map plain_of l.yielded);
  rows : l.parts.rows ≡ rows_of (map plain_of l.yielded);
}
