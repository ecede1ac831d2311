-- What it is to be well-formed, at each constructor as src/ writes it.
use Rattle.std.proofs.Common.{◌↔◌, List}
use denote.Hole.Carrier.{hidden}
use Rattle.solutions_dm.specs.declared.selects.Rename.{Rename}
use Rattle.pattern_dm.specs.declared.pattern.Condition.{Condition}
use Rattle.pattern_dm.specs.declared.pattern.Pattern.{Pattern}
use Rattle.pattern_dm.specs.declared.pattern.Pattern.TheVariants.{And, LeftJoin, Union, Minus, Filter, Select}
use Rattle.pattern_dm.specs.declared.pattern.Pattern.TheBlock.{shape-the_row-Pattern-0, hidden-the_row-Pattern-0}
use Rattle.pattern_dm.specs.Formed.{AreSelectable, IsWellFormed}

pub formed_and : (p q : Pattern) → IsWellFormed (And p q) ↔ (IsWellFormed p × IsWellFormed q)
unfolding shape-the_row-Pattern-0 hidden-the_row-Pattern-0 hidden
formed_and p q = ((λ h. h), (λ h. h))

pub formed_left : (p q : Pattern) (f : Condition) → IsWellFormed (LeftJoin p q f) ↔ (IsWellFormed p × IsWellFormed q)
unfolding shape-the_row-Pattern-0 hidden-the_row-Pattern-0 hidden
formed_left p q f = ((λ h. h), (λ h. h))

pub formed_union : (p q : Pattern) → IsWellFormed (Union p q) ↔ (IsWellFormed p × IsWellFormed q)
unfolding shape-the_row-Pattern-0 hidden-the_row-Pattern-0 hidden
formed_union p q = ((λ h. h), (λ h. h))

pub formed_minus : (p q : Pattern) → IsWellFormed (Minus p q) ↔ (IsWellFormed p × IsWellFormed q)
unfolding shape-the_row-Pattern-0 hidden-the_row-Pattern-0 hidden
formed_minus p q = ((λ h. h), (λ h. h))

pub formed_filter : (p : Pattern) (f : Condition) → IsWellFormed (Filter p f) ↔ IsWellFormed p
unfolding shape-the_row-Pattern-0 hidden-the_row-Pattern-0 hidden
formed_filter p f = ((λ h. h), (λ h. h))

pub formed_select : (p : Pattern) (rs : List Rename) → IsWellFormed (Select p rs) ↔ (IsWellFormed p × AreSelectable rs)
unfolding shape-the_row-Pattern-0 hidden-the_row-Pattern-0 hidden
formed_select p rs = ((λ h. h), (λ h. h))
