use Rattle.std.proofs.Common.{ℕ, ◌<◌, ◌≤◌, ◌+◌, length}
use Rattle.table_csv.specs.Databases.{rows_at}
use Rattle.append_dm.proofs.fitting.has_room.Given as goal

abbrev pub invariant-loop-t : goal.invariant-loop-t
invariant-loop-t l = (t : ℕ) → t < l.t → length (rows_at l.old.rows t) + length (rows_at l.batch.rows t) ≤ 4194304
