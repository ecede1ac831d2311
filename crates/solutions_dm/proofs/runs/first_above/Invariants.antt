use Rattle.std.proofs.Common.{◌≡◌, ◌≤◌, ◌-◌, length, false}
use Rattle.std.specs.List.{AllWithin}
use Rattle.solutions_dm.specs.Keys.{is_below}
use Rattle.solutions_dm.specs.declared.keys.Keyed.{Keyed}
use Rattle.solutions_dm.proofs.runs.first_above.Given as goal

abbrev pub invariant-run : goal.invariant-run
invariant-run l = (l.fn.from ≤ l.at) × (l.at ≤ length l.rows) × AllWithin (λ (k : Keyed). is_below l.key k.key.items ≡ false) l.rows l.fn.from l.at

abbrev pub decreases-run : goal.decreases-run
decreases-run l = length l.rows - l.at
