use Rattle.std.proofs.Common.{◌≤◌, ◌-◌, length}
use Rattle.solutions_dm.specs.Keys.{key_at}
use Rattle.solutions_dm.specs.Repeats.{AreOfEach}
use Rattle.solutions_dm.proofs.repeats.first_rows.Given as goal

abbrev pub invariant-runs : goal.invariant-runs
invariant-runs l = (l.at ≤ length l.keyed) × AreOfEach (key_at l.rows.columns l.names) l.rows.rows l.keyed l.at l.kept.items

abbrev pub decreases-runs : goal.decreases-runs
decreases-runs l = length l.keyed - l.at
