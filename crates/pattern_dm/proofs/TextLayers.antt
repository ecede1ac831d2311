-- The texts at the constructors as src/ writes them.
use Rattle.std.proofs.Common.{◌≡◌, ◌++◌, List, codes, map, refl}
use denote.Hole.Carrier.{hidden}
use Rattle.solutions_dm.specs.declared.selects.Rename.{Rename}
use Rattle.pattern_dm.specs.declared.pattern.Condition.{Condition}
use Rattle.pattern_dm.specs.declared.pattern.Condition.TheVariants as conditions
use Rattle.pattern_dm.specs.declared.pattern.Condition.TheBlock.{shape-the_row-Condition-0, hidden-the_row-Condition-0}
use Rattle.pattern_dm.specs.declared.pattern.Pattern.{Pattern}
use Rattle.pattern_dm.specs.declared.pattern.Pattern.TheVariants as patterns
use Rattle.pattern_dm.specs.declared.pattern.Pattern.TheBlock.{shape-the_row-Pattern-0, hidden-the_row-Pattern-0}
use Rattle.pattern_dm.specs.Texts.{condition_text, filter_text, filter_unless_true, pattern_text, rename_text, spaced}

pub text_not : (f : Condition) → condition_text (conditions.Not f) ≡ codes "( ! " ++ condition_text f ++ codes " )"
unfolding shape-the_row-Condition-0 hidden-the_row-Condition-0 hidden
text_not f = refl

pub text_both : (f g : Condition) → condition_text (conditions.And f g) ≡ codes "( " ++ condition_text f ++ codes " && " ++ condition_text g ++ codes " )"
unfolding shape-the_row-Condition-0 hidden-the_row-Condition-0 hidden
text_both f g = refl

pub text_or : (f g : Condition) → condition_text (conditions.Or f g) ≡ codes "( " ++ condition_text f ++ codes " || " ++ condition_text g ++ codes " )"
unfolding shape-the_row-Condition-0 hidden-the_row-Condition-0 hidden
text_or f g = refl

pub text_and : (p q : Pattern) → pattern_text (patterns.And p q) ≡ codes "{ " ++ pattern_text p ++ codes " " ++ pattern_text q ++ codes " }"
unfolding shape-the_row-Pattern-0 hidden-the_row-Pattern-0 hidden
text_and p q = refl

pub text_left : (p q : Pattern) (f : Condition) → pattern_text (patterns.LeftJoin p q f) ≡ codes "{ " ++ pattern_text p ++ codes " OPTIONAL { " ++ pattern_text q ++ filter_unless_true f ++ codes " } }"
unfolding shape-the_row-Pattern-0 hidden-the_row-Pattern-0 hidden
text_left p q f = refl

pub text_union : (p q : Pattern) → pattern_text (patterns.Union p q) ≡ codes "{ " ++ pattern_text p ++ codes " UNION " ++ pattern_text q ++ codes " }"
unfolding shape-the_row-Pattern-0 hidden-the_row-Pattern-0 hidden
text_union p q = refl

pub text_minus : (p q : Pattern) → pattern_text (patterns.Minus p q) ≡ codes "{ " ++ pattern_text p ++ codes " MINUS " ++ pattern_text q ++ codes " }"
unfolding shape-the_row-Pattern-0 hidden-the_row-Pattern-0 hidden
text_minus p q = refl

pub text_filter : (p : Pattern) (f : Condition) → pattern_text (patterns.Filter p f) ≡ codes "{ " ++ pattern_text p ++ filter_text f ++ codes " }"
unfolding shape-the_row-Pattern-0 hidden-the_row-Pattern-0 hidden
text_filter p f = refl

pub text_select : (p : Pattern) (rs : List Rename) → pattern_text (patterns.Select p rs) ≡ codes "{ SELECT " ++ spaced (map rename_text rs) ++ codes " WHERE " ++ pattern_text p ++ codes " }"
unfolding shape-the_row-Pattern-0 hidden-the_row-Pattern-0 hidden
text_select p rs = refl
