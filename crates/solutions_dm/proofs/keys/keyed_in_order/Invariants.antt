use Rattle.solutions_dm.specs.Keys.{ArePlaces, key_at}
use Rattle.solutions_dm.proofs.keys.keyed_in_order.Given as goal

abbrev pub invariant-loop-row : goal.invariant-loop-row
invariant-loop-row l = ArePlaces (key_at l.rows.columns l.names) l.row l.made.items
