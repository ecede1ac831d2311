use Rattle.std.proofs.Common.{◌+◌, ◌*◌}
use Rattle.sparql_text_dm.proofs.conditions.+condition.Given as goal

abbrev pub decreases-condition_within : goal.decreases-condition_within
decreases-condition_within l = 5 * l.levels + 1

abbrev pub decreases-negation : goal.decreases-negation
decreases-negation l = 5 * l.levels + 2

abbrev pub decreases-connected : goal.decreases-connected
decreases-connected l = 5 * l.levels + 2

abbrev pub decreases-grouped : goal.decreases-grouped
decreases-grouped l = 5 * l.levels + 3

abbrev pub decreases-proper_within : goal.decreases-proper_within
decreases-proper_within l = 5 * l.levels
