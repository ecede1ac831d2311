use Rattle.std.proofs.Common.{◌≡◌, ◌≤◌, ◌-◌, length, true}
use Rattle.std.specs.List.{AllWithin}
use Rattle.solutions_dm.specs.Keys.{is_below}
use Rattle.solutions_dm.specs.declared.keys.Keyed.{Keyed}
use Rattle.solutions_dm.proofs.runs.first_not_below.Given as goal

abbrev pub invariant-skip : goal.invariant-skip
invariant-skip l = (l.fn.from ≤ l.at) × (l.at ≤ length l.rows) × AllWithin (λ (k : Keyed). is_below k.key.items l.key ≡ true) l.rows l.fn.from l.at

abbrev pub decreases-skip : goal.decreases-skip
decreases-skip l = length l.rows - l.at
