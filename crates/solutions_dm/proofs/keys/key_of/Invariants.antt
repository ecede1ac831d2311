use Rattle.std.proofs.Common.{◌≡◌, take}
use Rattle.solutions_dm.specs.Keys.{key_at}
use Rattle.solutions_dm.proofs.keys.key_of.Given as goal

abbrev pub invariant-loop-name : goal.invariant-loop-name
invariant-loop-name l = l.key.items ≡ key_at l.rows.columns (take l.name-index l.names) l.row
