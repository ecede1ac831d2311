use Rattle.std.proofs.Common.{◌≡◌, map, length}
use Rattle.members_dm.specs.InOrder.{positions_below}
use Rattle.table_csv.specs.Databases.{rows_at}
use Rattle.append_dm.proofs.batch.first_rows.Given as goal

abbrev pub invariant-loop-t : goal.invariant-loop-t
invariant-loop-t l = l.firsts.items ≡ map (λ t. length (rows_at l.old.rows t)) (positions_below l.t)
