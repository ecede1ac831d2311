use Rattle.std.proofs.Common.{◌+◌, ◌*◌}
use Rattle.sparql_text_dm.proofs.patterns.+pattern.Given as goal

abbrev pub decreases-select : goal.decreases-select
decreases-select l = 6 * l.levels + 1

abbrev pub decreases-optional_part : goal.decreases-optional_part
decreases-optional_part l = 6 * l.levels + 1

abbrev pub decreases-left_join : goal.decreases-left_join
decreases-left_join l = 6 * l.levels + 2

abbrev pub decreases-union : goal.decreases-union
decreases-union l = 6 * l.levels + 1

abbrev pub decreases-minus : goal.decreases-minus
decreases-minus l = 6 * l.levels + 1

abbrev pub decreases-both : goal.decreases-both
decreases-both l = 6 * l.levels + 1

abbrev pub decreases-operation : goal.decreases-operation
decreases-operation l = 6 * l.levels + 4

abbrev pub decreases-content : goal.decreases-content
decreases-content l = 6 * l.levels + 5

abbrev pub decreases-pattern : goal.decreases-pattern
decreases-pattern l = 6 * l.levels
