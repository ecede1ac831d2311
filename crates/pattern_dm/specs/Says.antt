-- What a condition says of a mapping (SPARQL 1.1 Query Language, section 17.2): that it is true, or that it is false. Where it says
-- neither, it is an error.
use Rattle.std.specs.Prelude.{◌≡◌, ◌≢◌, ◌⊎◌, Option, Some, None, Bool, true, false, not}
use Rattle.names_dm.specs.declared.term.Term.{Term}
use Rattle.names_dm.specs.declared.term.Term.TheVariants as terms
use Rattle.pattern_dm.specs.declared.pattern.Operand.{Operand}
use Rattle.pattern_dm.specs.declared.pattern.Operand.TheVariants as operands
use Rattle.pattern_dm.specs.declared.pattern.Condition.{Condition, end_of-Condition, more_of-Condition}
use Rattle.pattern_dm.specs.declared.pattern.Condition.TheVariants.{True, Bound, SameTerm, Not', And', Or'}
use Rattle.pattern_dm.specs.Mappings.{Mapping}

-- what an operand stands for, or None where it is an unbound variable
abbrev pub value_of : Operand → Mapping → Option Term
value_of (operands.Var x) m = m x
value_of (operands.Iri i) m = Some (terms.Iri i)
value_of (operands.Literal l) m = Some (terms.Literal l)

-- both are there and are one term; or both are there and aren't
abbrev pub AreSame : Bool → Option Term → Option Term → Type 0
AreSame true p q = (a : Term) × (p ≡ Some a) × (q ≡ Some a)
AreSame false p q = (a b : Term) × (p ≡ Some a) × (q ≡ Some b) × (a ≢ b)

abbrev pub Says : Condition → Bool → Mapping → Type 0
Says True true m = Unit {0}
Says True false m = ⊥
Says (Bound x) true m = m x ≢ None
Says (Bound x) false m = m x ≡ None
Says (SameTerm p q) b m = AreSame b (value_of p m) (value_of q m)
Says (Not' s (more_of-Condition f end_of-Condition)) b m = Says f (not b) m
Says (And' s (more_of-Condition f end_of-Condition) s' (more_of-Condition g end_of-Condition)) true m = Says f true m × Says g true m
Says (And' s (more_of-Condition f end_of-Condition) s' (more_of-Condition g end_of-Condition)) false m = Says f false m ⊎ Says g false m
Says (Or' s (more_of-Condition f end_of-Condition) s' (more_of-Condition g end_of-Condition)) true m = Says f true m ⊎ Says g true m
Says (Or' s (more_of-Condition f end_of-Condition) s' (more_of-Condition g end_of-Condition)) false m = Says f false m × Says g false m
