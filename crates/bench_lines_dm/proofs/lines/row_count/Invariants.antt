use Rattle.std.proofs.Common.{◌≡◌, ◌≤◌, ◌*◌, length, take}
use Rattle.std.specs.Prelude.{sum_by}
use Rattle.bench_lines_dm.proofs.lines.row_count.Given as goal

abbrev pub invariant-loop-t : goal.invariant-loop-t
invariant-loop-t l = (l.count ≡ sum_by length (take l.t l.database.rows)) × (l.count ≤ 4194304 * l.t)
