use Rattle.std.proofs.Common.{◌≡◌, ◌++◌, map}
use Rattle.members_dm.specs.InOrder.{positions_below}
use Rattle.table_csv.specs.Databases.{rows_at}
use Rattle.append_dm.proofs.combining.combined.Given as goal

abbrev pub invariant-loop-t : goal.invariant-loop-t
invariant-loop-t l = l.lists ≡ map (λ t. rows_at l.old.rows t ++ rows_at l.batch.rows t) (positions_below l.t)
