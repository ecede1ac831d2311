-- Operands as terms, and as parts of a triple to look for.
use Rattle.std.specs.Prelude.{◌≡◌, Option, Some}
use Rattle.names_dm.specs.declared.term.Term.{Term}
use Rattle.names_dm.specs.declared.term.Term.TheVariants as terms
use Rattle.store_dm.specs.Graphs.{GraphValue, HoldsTerm}
use Rattle.store_dm.specs.Terms.{term_at}
use Rattle.store_dm.specs.declared.slots.Slot.{Slot}
use Rattle.store_dm.specs.declared.slots.Slot.TheVariants as slots
use Rattle.pattern_dm.specs.Mappings.{Mapping}
use Rattle.pattern_dm.specs.declared.operands.Side.{Side}
use Rattle.pattern_dm.specs.declared.operands.Side.TheVariants as sides
use Rattle.pattern_dm.specs.declared.pattern.Operand.{Operand}
use Rattle.pattern_dm.specs.declared.pattern.Operand.TheVariants as operands

abbrev pub side_of : Operand → Side
side_of (operands.Var x) = sides.Var x
side_of (operands.Iri i) = sides.Term (terms.Iri i)
side_of (operands.Literal l) = sides.Term (terms.Literal l)

-- the slot is the variable, or the number of the term, or the term is in no triple
abbrev pub IsSlot : GraphValue → Side → Slot → Type 0
IsSlot g (sides.Var x) (slots.Var y) = y ≡ x
IsSlot g (sides.Var x) (slots.Fixed k) = ⊥
IsSlot g (sides.Var x) slots.Missing = ⊥
IsSlot g (sides.Term t) (slots.Var y) = ⊥
IsSlot g (sides.Term t) (slots.Fixed k) = term_at g.terms k ≡ Some t
IsSlot g (sides.Term t) slots.Missing = ¬ HoldsTerm g t

abbrev pub IsSlotOf : GraphValue → Operand → Slot → Type 0
IsSlotOf g operand slot = IsSlot g (side_of operand) slot

-- what it stands for, or None where it is an unbound variable
abbrev pub side_value : Side → Mapping → Option Term
side_value (sides.Var x) m = m x
side_value (sides.Term t) m = Some t
