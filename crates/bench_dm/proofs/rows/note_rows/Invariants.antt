use Rattle.std.proofs.Common.{◌≡◌}
use Rattle.bench_dm.specs.Rows.{note_row, rows_to}
use Rattle.bench_dm.proofs.rows.note_rows.Given as goal

abbrev pub invariant-loop-k : goal.invariant-loop-k
invariant-loop-k l = l.rows ≡ rows_to note_row l.k
