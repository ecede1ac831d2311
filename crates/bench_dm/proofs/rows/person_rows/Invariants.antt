use Rattle.std.proofs.Common.{◌≡◌}
use Rattle.bench_dm.specs.Rows.{person_row, rows_to}
use Rattle.bench_dm.proofs.rows.person_rows.Given as goal

abbrev pub invariant-loop-k : goal.invariant-loop-k
invariant-loop-k l = l.rows ≡ rows_to (person_row l.departments) l.k
