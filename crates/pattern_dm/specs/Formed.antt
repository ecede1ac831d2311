-- Which patterns are well-formed.
use Rattle.std.specs.Prelude.{◌≢◌, List, []}
use Rattle.solutions_dm.specs.declared.selects.Rename.{Rename}
use Rattle.solutions_dm.specs.Selects.{AreTargetsApart}
use Rattle.pattern_dm.specs.declared.pattern.Pattern.{Pattern, end_of-Pattern, more_of-Pattern}
use Rattle.pattern_dm.specs.declared.pattern.Pattern.TheVariants.{Empty, Triple, And', LeftJoin', Union', Minus', Filter', Select'}

-- there are renames, and no two have one target
abbrev pub AreSelectable : List Rename → Type 0
AreSelectable rs = (rs ≢ []) × AreTargetsApart rs

-- the list of each Select is
abbrev pub IsWellFormed : Pattern → Type 0
IsWellFormed Empty = Unit {0}
IsWellFormed (Triple s p o) = Unit {0}
IsWellFormed (And' a (more_of-Pattern p end_of-Pattern) b (more_of-Pattern q end_of-Pattern)) = IsWellFormed p × IsWellFormed q
IsWellFormed (LeftJoin' a (more_of-Pattern p end_of-Pattern) b (more_of-Pattern q end_of-Pattern) f) = IsWellFormed p × IsWellFormed q
IsWellFormed (Union' a (more_of-Pattern p end_of-Pattern) b (more_of-Pattern q end_of-Pattern)) = IsWellFormed p × IsWellFormed q
IsWellFormed (Minus' a (more_of-Pattern p end_of-Pattern) b (more_of-Pattern q end_of-Pattern)) = IsWellFormed p × IsWellFormed q
IsWellFormed (Filter' a (more_of-Pattern p end_of-Pattern) f) = IsWellFormed p
IsWellFormed (Select' a (more_of-Pattern p end_of-Pattern) rs) = IsWellFormed p × AreSelectable rs
