-- Operands and conditions, by the masks of their parts.
use Rattle.std.proofs.Common.{◌≡◌, ◌↔◌, ℕ, List, Option, Bool, true, false, refl, sym, ap, ◌∙◌, subst}
use denote.Hole.Carrier.{hidden}
use Rattle.names_dm.specs.declared.term.Term.{Term}
use Rattle.solutions_dm.specs.Table.{Table}
use Rattle.pattern_dm.specs.declared.masks.Masks.{Masks}
use Rattle.pattern_dm.specs.declared.operands.Side.{Side}
use Rattle.pattern_dm.specs.declared.pattern.Operand.{Operand}
use Rattle.pattern_dm.specs.declared.pattern.Operand.TheVariants as operands
use Rattle.pattern_dm.specs.declared.pattern.Condition.{Condition}
use Rattle.pattern_dm.specs.declared.pattern.Condition.TheVariants.{SameTerm, Not, And, Or}
use Rattle.pattern_dm.specs.declared.pattern.Condition.TheBlock.{shape-the_row-Condition-0, hidden-the_row-Condition-0}
use Rattle.pattern_dm.specs.Mappings.{Mapping}
use Rattle.pattern_dm.specs.Masks.{AreMasks, AreSplit, Marks, both_flags, either_flags}
use Rattle.pattern_dm.specs.Says.{AreSame, Says, value_of}
use Rattle.pattern_dm.specs.Sides.{side_of, side_value}
use Rattle.pattern_dm.specs.Solved.{mapping_at}
use Rattle.pattern_dm.proofs.MaskLemmas.{marks_met, marks_joined, split_as}

value_side : (o : Operand) (m : Mapping) → side_value (side_of o) m ≡ value_of o m
value_side (operands.Var x) m = refl
value_side (operands.Iri i) m = refl
value_side (operands.Literal l) m = refl

same_as : (b : Bool) (p q r s : Option Term) → p ≡ r → q ≡ s → AreSame b p q ↔ AreSame b r s
same_as b p q r s e f =
    ((λ h. subst (λ z. AreSame b r z) f (subst (λ z. AreSame b z q) e h)), (λ h. subst (λ z. AreSame b p z) (sym f) (subst (λ z. AreSame b z s) (sym e) h)))

pub operand_masks : (terms : List Term) (s : Table) (first second : Operand) (a b : Side) (masks : Masks) → a ≡ side_of first → b ≡ side_of second →
    AreSplit s.rows (λ i. AreSame true (side_value a (mapping_at terms s i)) (side_value b (mapping_at terms s i))) (λ i. AreSame false (side_value a (mapping_at terms s i)) (side_value b (mapping_at terms s i))) masks →
    AreMasks terms (SameTerm first second) s masks
operand_masks terms s first second a b masks e f h =
    let at : (i : ℕ) → side_value a (mapping_at terms s i) ≡ value_of first (mapping_at terms s i) = λ i. ap (λ z. side_value z (mapping_at terms s i)) e ∙ value_side first (mapping_at terms s i) in
    let bt : (i : ℕ) → side_value b (mapping_at terms s i) ≡ value_of second (mapping_at terms s i) = λ i. ap (λ z. side_value z (mapping_at terms s i)) f ∙ value_side second (mapping_at terms s i) in
    split_as s.rows _ _ (λ i. Says (SameTerm first second) true (mapping_at terms s i)) (λ i. Says (SameTerm first second) false (mapping_at terms s i)) masks
    (λ i l. same_as true _ _ _ _ (at i) (bt i)) (λ i l. same_as false _ _ _ _ (at i) (bt i)) h

-- ---- conditions of conditions

pub not_masks : (terms : List Term) (s : Table) (f : Condition) (a r : Masks) → r.holds.items ≡ a.fails.items → r.fails.items ≡ a.holds.items → AreMasks terms f s a → AreMasks terms (Not f) s r
unfolding shape-the_row-Condition-0 hidden-the_row-Condition-0 hidden
not_masks terms s f a r e d h = record {
  holds = subst (Marks s.rows (λ i. Says f false (mapping_at terms s i))) (sym e) h.fails;
  fails = subst (Marks s.rows (λ i. Says f true (mapping_at terms s i))) (sym d) h.holds;
}

pub and_masks : (terms : List Term) (s : Table) (f g : Condition) (a b r : Masks) → (r.holds.items ≡ both_flags a.holds.items b.holds.items) × (r.fails.items ≡ either_flags a.fails.items b.fails.items) → AreMasks terms f s a → AreMasks terms g s b → AreMasks terms (And f g) s r
unfolding shape-the_row-Condition-0 hidden-the_row-Condition-0 hidden
and_masks terms s f g a b r e h k = record {
  holds = marks_met s.rows (λ i. Says f true (mapping_at terms s i)) (λ i. Says g true (mapping_at terms s i)) a.holds.items b.holds.items r.holds.items h.holds k.holds e.0;
  fails = marks_joined s.rows (λ i. Says f false (mapping_at terms s i)) (λ i. Says g false (mapping_at terms s i)) a.fails.items b.fails.items r.fails.items h.fails k.fails e.1;
}

pub or_masks : (terms : List Term) (s : Table) (f g : Condition) (a b r : Masks) → (r.holds.items ≡ either_flags a.holds.items b.holds.items) × (r.fails.items ≡ both_flags a.fails.items b.fails.items) → AreMasks terms f s a → AreMasks terms g s b → AreMasks terms (Or f g) s r
unfolding shape-the_row-Condition-0 hidden-the_row-Condition-0 hidden
or_masks terms s f g a b r e h k = record {
  holds = marks_joined s.rows (λ i. Says f true (mapping_at terms s i)) (λ i. Says g true (mapping_at terms s i)) a.holds.items b.holds.items r.holds.items h.holds k.holds e.0;
  fails = marks_met s.rows (λ i. Says f false (mapping_at terms s i)) (λ i. Says g false (mapping_at terms s i)) a.fails.items b.fails.items r.fails.items h.fails k.fails e.1;
}
