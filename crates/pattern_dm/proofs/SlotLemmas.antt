-- The rows of a triple pattern are its solutions.
use Rattle.std.proofs.Common.{◌≡◌, ◌<◌, ◌≤◌, ◌↔◌, ℕ, zero, suc, List, [], ◌∷◌, Some, Bool, true, false, cond, length, slice_get, refl, sym, ap, ◌∙◌, subst, arith, inl, inr}
use Rattle.std.proofs.lemmas.Bool.{cond-false, false_from_ne_true}
use Rattle.names_dm.specs.declared.term.Term.{Term}
use Rattle.names_dm.specs.declared.term.Term.TheVariants as terms_of
use Rattle.names_dm.specs.Statements.{Statement}
use Rattle.solutions_dm.specs.Columns.{number_at}
use Rattle.solutions_dm.specs.Table.{Table, HasRow}
use Rattle.store_dm.specs.declared.listing.Triad.{Triad}
use Rattle.store_dm.specs.declared.slots.Slot.{Slot}
use Rattle.store_dm.specs.declared.slots.Slot.TheVariants as slots
use Rattle.store_dm.specs.Graphs.{GraphValue, HasTriple, HoldsTerm, IsLawful, Names}
use Rattle.store_dm.specs.Slots as store
use Rattle.store_dm.specs.Slots.{Has, IsBound, IsTripleRow, is_variable}
use Rattle.store_dm.specs.Terms.{term_at}
use Rattle.store_dm.proofs.RowLemmas.{variable_is, no_variable}
use Rattle.pattern_dm.specs.declared.pattern.Operand.{Operand}
use Rattle.pattern_dm.specs.declared.pattern.Operand.TheVariants as operands
use Rattle.pattern_dm.specs.Mappings.{Mapping}
use Rattle.pattern_dm.specs.Says.{value_of}
use Rattle.pattern_dm.specs.Sides.{IsSlotOf}
use Rattle.pattern_dm.specs.Solution.{IsVariable, Makes, BindsNoOther}
use Rattle.pattern_dm.specs.Solved.{HasSolution, AreNumbers}
use Rattle.pattern_dm.proofs.Bridge.{number_not_zero, one_number, row_solution, same_mapping}

number_within : (terms : List Term) (k : ℕ) (t : Term) → term_at terms k ≡ Some t → k ≤ length terms
number_within terms zero t e = omega arith
number_within terms (suc k) t e = let l = within terms k e in omega arith
  where
    within : (ts : List Term) (k : ℕ) → slice_get ts k ≡ Some t → k < length ts
    within [] k e = absurd (cc e)
    within (x ∷ xs) zero e = omega arith
    within (x ∷ xs) (suc k) e = let l = within xs k e in omega arith

module _ (g : GraphValue) (lawful : IsLawful g) where
  pub slot_bound : (o : Operand) (a : Slot) → IsSlotOf g o a → IsBound a
  slot_bound o (slots.Var y) h = tt
  slot_bound (operands.Var x) (slots.Fixed k) h = absurd h
  slot_bound (operands.Iri i) (slots.Fixed k) h = number_not_zero g.terms k (terms_of.Iri i) h
  slot_bound (operands.Literal l) (slots.Fixed k) h = number_not_zero g.terms k (terms_of.Literal l) h
  slot_bound o slots.Missing h = tt

  -- a slot is a variable where the operand is
  slot_variable : (o : Operand) (a : Slot) (x : List ℕ) → IsSlotOf g o a → store.IsVariable a x → IsVariable o x
  slot_variable (operands.Var y) (slots.Var z) x h e = sym h ∙ e
  slot_variable (operands.Var y) (slots.Fixed k) x h e = absurd e
  slot_variable (operands.Var y) slots.Missing x h e = absurd e
  slot_variable (operands.Iri i) (slots.Var z) x h e = absurd h
  slot_variable (operands.Iri i) (slots.Fixed k) x h e = absurd e
  slot_variable (operands.Iri i) slots.Missing x h e = absurd e
  slot_variable (operands.Literal l) (slots.Var z) x h e = absurd h
  slot_variable (operands.Literal l) (slots.Fixed k) x h e = absurd e
  slot_variable (operands.Literal l) slots.Missing x h e = absurd e

  variable_slot : (o : Operand) (a : Slot) (x : List ℕ) → IsSlotOf g o a → IsVariable o x → store.IsVariable a x
  variable_slot (operands.Var y) (slots.Var z) x h e = h ∙ e
  variable_slot (operands.Var y) (slots.Fixed k) x h e = absurd h
  variable_slot (operands.Var y) slots.Missing x h e = absurd h
  variable_slot (operands.Iri i) a x h e = absurd e
  variable_slot (operands.Literal l) a x h e = absurd e

  -- the number of a slot is that of what the operand stands for
  slot_value : (o : Operand) (a : Slot) (n : List ℕ → ℕ) (k : ℕ) → IsSlotOf g o a → Has a n k → value_of o (λ x. term_at g.terms (n x)) ≡ term_at g.terms k
  slot_value (operands.Var x) (slots.Var y) n k h e = ap (λ z. term_at g.terms (n z)) (sym h) ∙ ap (term_at g.terms) e
  slot_value (operands.Var x) (slots.Fixed j) n k h e = absurd h
  slot_value (operands.Var x) slots.Missing n k h e = absurd h
  slot_value (operands.Iri i) (slots.Var y) n k h e = absurd h
  slot_value (operands.Iri i) (slots.Fixed j) n k h e = sym h ∙ ap (term_at g.terms) e
  slot_value (operands.Iri i) slots.Missing n k h e = absurd e
  slot_value (operands.Literal l) (slots.Var y) n k h e = absurd h
  slot_value (operands.Literal l) (slots.Fixed j) n k h e = sym h ∙ ap (term_at g.terms) e
  slot_value (operands.Literal l) slots.Missing n k h e = absurd e

  -- a term that the graph holds has its number in the slot
  value_slot : (o : Operand) (a : Slot) (n : List ℕ → ℕ) (m : Mapping) (k : ℕ) (t : Term) → IsSlotOf g o a → ((x : List ℕ) → m x ≡ term_at g.terms (n x)) → value_of o m ≡ Some t → term_at g.terms k ≡ Some t → HoldsTerm g t → Has a n k
  value_slot (operands.Var x) (slots.Var y) n m k t h e v w held = one_number g.terms lawful.apart (n y) k t (ap (λ z. term_at g.terms (n z)) h ∙ sym (e x) ∙ v) w
  value_slot (operands.Var x) (slots.Fixed j) n m k t h e v w held = absurd h
  value_slot (operands.Var x) slots.Missing n m k t h e v w held = absurd h
  value_slot (operands.Iri i) (slots.Var y) n m k t h e v w held = absurd h
  value_slot (operands.Iri i) (slots.Fixed j) n m k t h e v w held = one_number g.terms lawful.apart j k t (h ∙ v) w
  value_slot (operands.Iri i) slots.Missing n m k t h e v w held = h (subst (HoldsTerm g) (some_same t (terms_of.Iri i) (sym v)) held)
    where
      some_same : (x y : Term) → Some x ≡ Some y → x ≡ y
      some_same x y e = cc e
  value_slot (operands.Literal l) (slots.Var y) n m k t h e v w held = absurd h
  value_slot (operands.Literal l) (slots.Fixed j) n m k t h e v w held = one_number g.terms lawful.apart j k t (h ∙ v) w
  value_slot (operands.Literal l) slots.Missing n m k t h e v w held = h (subst (HoldsTerm g) (some_same t (terms_of.Literal l) (sym v)) held)
    where
      some_same : (x y : Term) → Some x ≡ Some y → x ≡ y
      some_same x y e = cc e

  module _ (s p o : Operand) (a b c : Slot) (ha : IsSlotOf g s a) (hb : IsSlotOf g p b) (hc : IsSlotOf g o c) (rows : Table)
      (exact : (n : List ℕ → ℕ) → HasRow rows n ↔ IsTripleRow g a b c n) where
    abbrev IsPatternRow : Mapping → Type 0
    IsPatternRow m = (t : Statement) × HasTriple g t × Makes s p o m t × BindsNoOther s p o m

    triple_back : (m : Mapping) → HasSolution g.terms rows m → IsPatternRow m
    triple_back m h =
        let n = number_at rows.columns h.0 in
        let r = (exact n).0 (h.0, h.1, λ x. refl) in
        let t = lawful.named r.0 r.1 in
        let e : m ≡ (λ x. term_at g.terms (n x)) = same_mapping m (λ x. term_at g.terms (n x)) h.2 in (
          t.0,
          (r.0, r.1, t.1),
          (ap (value_of s) e ∙ slot_value s a n r.0.first ha r.2 ∙ t.1.0, ap (value_of p) e ∙ slot_value p b n r.0.second hb r.3 ∙ t.1.1, ap (value_of o) e ∙ slot_value o c n r.0.third hc r.4 ∙ t.1.2),
          (λ x f k l. h.2 x ∙ ap (term_at g.terms) (r.5 x (λ v. f (slot_variable s a x ha v)) (λ v. k (slot_variable p b x hb v)) (λ v. l (slot_variable o c x hc v)))),
        )

    -- the numbers of a solution
    numbers_of : Triad → List ℕ → ℕ
    numbers_of r x = cond (is_variable a x) r.first (cond (is_variable b x) r.second (cond (is_variable c x) r.third 0))

    variable_value : (q : Operand) (x : List ℕ) (m : Mapping) → IsVariable q x → m x ≡ value_of q m
    variable_value (operands.Var y) x m e = ap m (sym e)
    variable_value (operands.Iri i) x m e = absurd e
    variable_value (operands.Literal l) x m e = absurd e

    triple_forth : (m : Mapping) → IsPatternRow m → HasSolution g.terms rows m
    unfolding numbers_of
    triple_forth m h =
        let t = h.0 in
        let r = h.1.0 in
        let names = h.1.2 in
        let makes = h.2 in
        let e : (x : List ℕ) → m x ≡ term_at g.terms (numbers_of r x) = λ x. go t r names makes h.3 x (is_variable a x) (is_variable b x) (is_variable c x) refl refl refl in
        row_solution g.terms rows (numbers_of r) m ((exact (numbers_of r)).1 (
          r,
          h.1.1,
          value_slot s a (numbers_of r) m r.first t.subject ha e makes.0 names.0 (r, h.1.1, inl names.0),
          value_slot p b (numbers_of r) m r.second (terms_of.Iri t.predicate) hb e makes.1 names.1 (r, h.1.1, inr (inl names.1)),
          value_slot o c (numbers_of r) m r.third t.object hc e makes.2 names.2 (r, h.1.1, inr (inr names.2)),
          (λ x f k l. cond-false _ _ _ (false_from_ne_true _ (λ z. f (variable_is a x z))) ∙ cond-false _ _ _ (false_from_ne_true _ (λ z. k (variable_is b x z))) ∙ cond-false _ _ _ (false_from_ne_true _ (λ z. l (variable_is c x z)))),
        )) e
      where
        go : (t : Statement) (r : Triad) → Names g.terms r t → Makes s p o m t → BindsNoOther s p o m → (x : List ℕ) (u v w : Bool) → is_variable a x ≡ u → is_variable b x ≡ v → is_variable c x ≡ w →
            m x ≡ term_at g.terms (cond u r.first (cond v r.second (cond w r.third 0)))
        go t r names makes others x true v w i j k = variable_value s x m (slot_variable s a x ha (variable_is a x i)) ∙ makes.0 ∙ sym names.0
        go t r names makes others x false true w i j k = variable_value p x m (slot_variable p b x hb (variable_is b x j)) ∙ makes.1 ∙ sym names.1
        go t r names makes others x false false true i j k = variable_value o x m (slot_variable o c x hc (variable_is c x k)) ∙ makes.2 ∙ sym names.2
        go t r names makes others x false false false i j k = others x (λ z. no_variable a x i (variable_slot s a x ha z)) (λ z. no_variable b x j (variable_slot p b x hb z)) (λ z. no_variable c x k (variable_slot o c x hc z))

    pub triple_exact : (m : Mapping) → HasSolution g.terms rows m ↔ IsPatternRow m
    triple_exact m = (triple_back m, triple_forth m)

    has_within : (q : Slot) (n : List ℕ → ℕ) (k : ℕ) (x : List ℕ) → Has q n k → is_variable q x ≡ true → k ≤ length g.terms → n x ≤ length g.terms
    has_within (slots.Var y) n k x h e l = subst (λ j. j ≤ length g.terms) (sym h ∙ ap n (variable_is (slots.Var y) x e)) l
    has_within (slots.Fixed j) n k x h e l = absurd (variable_is (slots.Fixed j) x e)
    has_within slots.Missing n k x h e l = absurd h

    pub triple_numbers : AreNumbers g.terms rows
    triple_numbers i x l =
        let n = number_at rows.columns i in
        let r = (exact n).0 (i, l, λ x. refl) in
        let t = lawful.named r.0 r.1 in
        go n r t (is_variable a x) (is_variable b x) (is_variable c x) refl refl refl
      where
        go : (n : List ℕ → ℕ) (r : IsTripleRow g a b c n) → ((t : Statement) × Names g.terms r.0 t) → (u v w : Bool) → is_variable a x ≡ u → is_variable b x ≡ v → is_variable c x ≡ w → n x ≤ length g.terms
        go n r t true v w i j k = has_within a n r.0.first x r.2 i (number_within g.terms r.0.first t.0.subject t.1.0)
        go n r t false true w i j k = has_within b n r.0.second x r.3 j (number_within g.terms r.0.second (terms_of.Iri t.0.predicate) t.1.1)
        go n r t false false true i j k = has_within c n r.0.third x r.4 k (number_within g.terms r.0.third t.0.object t.1.2)
        go n r t false false false i j k = let z = r.5 x (no_variable a x i) (no_variable b x j) (no_variable c x k) in omega (arith, z)
