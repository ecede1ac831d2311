-- Which mappings are solutions of a pattern over a set of triples (SPARQL 1.1 Query Language, section 18, each solution once).
use Rattle.std.specs.Prelude.{◌≡◌, ◌⊎◌, ℕ, List, Some, None, true}
use Rattle.names_dm.specs.declared.term.Term.TheVariants as terms
use Rattle.names_dm.specs.Statements.{Statement}
use Rattle.pattern_dm.specs.declared.pattern.Operand.{Operand}
use Rattle.pattern_dm.specs.declared.pattern.Operand.TheVariants as operands
use Rattle.pattern_dm.specs.declared.pattern.Pattern.{Pattern, end_of-Pattern, more_of-Pattern}
use Rattle.pattern_dm.specs.declared.pattern.Pattern.TheVariants.{Empty, Triple, And', LeftJoin', Union', Minus', Filter', Select'}
use Rattle.pattern_dm.specs.Mappings.{Mapping}
use Rattle.pattern_dm.specs.Operators as operators
use Rattle.pattern_dm.specs.Says.{Says, value_of}

abbrev pub IsVariable : Operand → List ℕ → Type 0
IsVariable (operands.Var y) x = y ≡ x
IsVariable (operands.Iri i) x = ⊥
IsVariable (operands.Literal l) x = ⊥

-- the operands stand for the terms of the triple
abbrev pub Makes : Operand → Operand → Operand → Mapping → Statement → Type 0
Makes s p o m t = (value_of s m ≡ Some t.subject) × (value_of p m ≡ Some (terms.Iri t.predicate)) × (value_of o m ≡ Some t.object)

-- it binds no other variable
abbrev pub BindsNoOther : Operand → Operand → Operand → Mapping → Type 0
BindsNoOther s p o m = (x : List ℕ) → ¬ IsVariable s x → ¬ IsVariable p x → ¬ IsVariable o x → m x ≡ None

abbrev pub Solution : (Statement → Type 0) → Pattern → Mapping → Type 0
Solution g Empty m = (x : List ℕ) → m x ≡ None
Solution g (Triple s p o) m = (t : Statement) × g t × Makes s p o m t × BindsNoOther s p o m
Solution g (And' a (more_of-Pattern p end_of-Pattern) b (more_of-Pattern q end_of-Pattern)) m = operators.Join (Solution g p) (Solution g q) m
Solution g (LeftJoin' a (more_of-Pattern p end_of-Pattern) b (more_of-Pattern q end_of-Pattern) f) m = operators.LeftJoin (Solution g p) (Solution g q) f m
Solution g (Union' a (more_of-Pattern p end_of-Pattern) b (more_of-Pattern q end_of-Pattern)) m = Solution g p m ⊎ Solution g q m
Solution g (Minus' a (more_of-Pattern p end_of-Pattern) b (more_of-Pattern q end_of-Pattern)) m = operators.Minus (Solution g p) (Solution g q) m
Solution g (Filter' a (more_of-Pattern p end_of-Pattern) f) m = Solution g p m × Says f true m
Solution g (Select' a (more_of-Pattern p end_of-Pattern) rs) m = operators.Select (Solution g p) rs m
