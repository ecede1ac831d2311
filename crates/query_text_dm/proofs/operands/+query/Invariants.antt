use Rattle.std.proofs.Common.{◌+◌, ◌*◌}
use Rattle.query_text_dm.proofs.operands.+query.Given as goal

abbrev pub decreases-compared : goal.decreases-compared
decreases-compared l = 5 * l.levels + 1

abbrev pub decreases-eq : goal.decreases-eq
decreases-eq l = 5 * l.levels + 2

abbrev pub decreases-ne : goal.decreases-ne
decreases-ne l = 5 * l.levels + 2

abbrev pub decreases-named : goal.decreases-named
decreases-named l = 5 * l.levels + 1

abbrev pub decreases-is_null : goal.decreases-is_null
decreases-is_null l = 5 * l.levels + 2

abbrev pub decreases-not_null : goal.decreases-not_null
decreases-not_null l = 5 * l.levels + 2

abbrev pub decreases-project : goal.decreases-project
decreases-project l = 5 * l.levels + 1

abbrev pub decreases-rename : goal.decreases-rename
decreases-rename l = 5 * l.levels + 2

abbrev pub decreases-two : goal.decreases-two
decreases-two l = 5 * l.levels + 1

abbrev pub decreases-join : goal.decreases-join
decreases-join l = 5 * l.levels + 2

abbrev pub decreases-union : goal.decreases-union
decreases-union l = 5 * l.levels + 2

abbrev pub decreases-diff : goal.decreases-diff
decreases-diff l = 5 * l.levels + 2

abbrev pub decreases-operands : goal.decreases-operands
decreases-operands l = 5 * l.levels + 3

abbrev pub decreases-inside : goal.decreases-inside
decreases-inside l = 5 * l.levels + 4

abbrev pub decreases-query : goal.decreases-query
decreases-query l = 5 * l.levels
