use Rattle.std.proofs.Common.{◌≡◌}
use Rattle.bench_dm.specs.Rows.{dept_row, rows_to}
use Rattle.bench_dm.proofs.rows.dept_rows.Given as goal

abbrev pub invariant-loop-k : goal.invariant-loop-k
invariant-loop-k l = l.rows ≡ rows_to dept_row l.k
