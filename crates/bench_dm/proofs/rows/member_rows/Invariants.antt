use Rattle.std.proofs.Common.{◌≡◌}
use Rattle.bench_dm.specs.Rows.{member_row, rows_to}
use Rattle.bench_dm.proofs.rows.member_rows.Given as goal

abbrev pub invariant-loop-k : goal.invariant-loop-k
invariant-loop-k l = l.rows ≡ rows_to (member_row l.departments) l.k
