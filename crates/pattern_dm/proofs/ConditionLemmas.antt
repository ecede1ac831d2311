-- What the masks of columns say of conditions.
use Rattle.std.proofs.Common.{◌≡◌, ◌≢◌, ◌≤◌, ◌↔◌, ℕ, zero, suc, List, Option, Some, None, true, false, length, slice_index, refl, sym, ap, ◌∙◌, subst, Contains}
use Rattle.std.proofs.lemmas.Option.{slice_get_within, get_or_from_slice_get}
use Rattle.names_dm.specs.declared.term.Term.{Term}
use Rattle.solutions_dm.specs.Columns.{number_at, has_column}
use Rattle.solutions_dm.specs.Table.{Table}
use Rattle.solutions_dm.proofs.ColumnLemmas.{number_at_none}
use Rattle.store_dm.specs.Graphs.{GraphValue, HoldsTerm, IsLawful}
use Rattle.store_dm.specs.Terms.{AreOneToOne, term_at}
use Rattle.pattern_dm.specs.declared.masks.Masks.{Masks}
use Rattle.pattern_dm.specs.declared.pattern.Condition.TheVariants.{Bound}
use Rattle.pattern_dm.specs.Masks.{AreMasks, AreSplit}
use Rattle.pattern_dm.specs.Says.{AreSame}
use Rattle.pattern_dm.specs.Solved.{AreNumbers, mapping_at}
use Rattle.pattern_dm.proofs.Bridge.{term_of_number, number_not_zero, none_is_zero, one_number}
use Rattle.pattern_dm.proofs.MaskLemmas.{split_as}

some_same : (x y : Term) → Some x ≡ Some y → x ≡ y
some_same x y e = cc e

same_unbound : (p q : Option Term) → p ≡ None → AreSame true p q → ⊥
same_unbound p q e h = none_some h.0 (sym e ∙ h.1)
  where
    none_some : (t : Term) → None ≡ Some t → ⊥
    none_some t e = cc e

different_unbound : (p q : Option Term) → p ≡ None → AreSame false p q → ⊥
different_unbound p q e h = none_some h.0 (sym e ∙ h.2)
  where
    none_some : (t : Term) → None ≡ Some t → ⊥
    none_some t e = cc e

pub same_swap : (p q : Option Term) → AreSame true p q ↔ AreSame true q p
same_swap p q = ((λ h. (h.0, h.2, h.1)), (λ h. (h.0, h.2, h.1)))

pub different_swap : (p q : Option Term) → AreSame false p q ↔ AreSame false q p
different_swap p q = ((λ h. (h.1, h.0, h.3, h.2, (λ e. h.4 (sym e)))), (λ h. (h.1, h.0, h.3, h.2, (λ e. h.4 (sym e)))))

-- two terms
pub same_terms : (x y : Term) → (x ≡ y) ↔ AreSame true (Some x) (Some y)
same_terms x y = ((λ e. (y, ap Some e, refl)), (λ h. some_same x h.0 h.1 ∙ sym (some_same y h.0 h.2)))

pub different_terms : (x y : Term) → (x ≢ y) ↔ AreSame false (Some x) (Some y)
different_terms x y = ((λ n. (x, y, refl, refl, n)), (λ h e. h.4 (sym (some_same x h.0 h.2) ∙ e ∙ some_same y h.1 h.3)))

-- ---- the numbers of terms

module _ (terms : List Term) where
  -- two numbers
  number_same : (a b : ℕ) → AreOneToOne terms → a ≤ length terms → b ≤ length terms → ((a ≡ b) × ((a ≢ 0) × (b ≢ 0))) ↔ AreSame true (term_at terms a) (term_at terms b)
  number_same a b one l k = (
    (λ h. let t = term_of_number terms a l h.1.0 in (t.0, t.1, ap (term_at terms) (sym h.0) ∙ t.1)),
    (λ h. (one_number terms one a b h.0 h.1 h.2, (number_not_zero terms a h.0 h.1, number_not_zero terms b h.0 h.2))),
  )

  number_different : (a b : ℕ) → AreOneToOne terms → a ≤ length terms → b ≤ length terms → ((a ≢ b) × ((a ≢ 0) × (b ≢ 0))) ↔ AreSame false (term_at terms a) (term_at terms b)
  number_different a b one l k = (
    (λ h. let t = term_of_number terms a l h.1.0 in let u = term_of_number terms b k h.1.1 in
        (t.0, u.0, t.1, u.1, (λ e. h.0 (one_number terms one a b u.0 (t.1 ∙ ap Some e) u.1)))),
    (λ h. ((λ e. h.4 (some_same h.0 h.1 (sym h.2 ∙ ap (term_at terms) e ∙ h.3))), (number_not_zero terms a h.0 h.2, number_not_zero terms b h.1 h.3))),
  )

  -- a number and a term that has one
  term_same : (a k : ℕ) (t : Term) → AreOneToOne terms → term_at terms k ≡ Some t → (a ≡ k) ↔ AreSame true (term_at terms a) (Some t)
  term_same a k t one e = (
    (λ h. (t, ap (term_at terms) h ∙ e, refl)),
    (λ h. one_number terms one a k t (h.1 ∙ sym h.2) e),
  )

  term_different : (a k : ℕ) (t : Term) → AreOneToOne terms → a ≤ length terms → term_at terms k ≡ Some t → ((a ≢ k) × (a ≢ 0)) ↔ AreSame false (term_at terms a) (Some t)
  term_different a k t one l e = (
    (λ h. let u = term_of_number terms a l h.1 in (u.0, t, u.1, refl, (λ f. h.0 (one_number terms one a k t (u.1 ∙ ap Some f) e)))),
    (λ h. ((λ f. h.4 (some_same h.0 h.1 (sym h.2 ∙ ap (term_at terms) f ∙ e ∙ h.3))), number_not_zero terms a h.0 h.2)),
  )

  term_in : (n : ℕ) (t : Term) → term_at terms n ≡ Some t → Contains terms t
  term_in zero t e = absurd (cc e)
  term_in (suc k) t e = (k, slice_get_within terms k t e, get_or_from_slice_get terms k t t e)

module _ (g : GraphValue) (lawful : IsLawful g) (t : Term) (gone : ¬ HoldsTerm g t) where
  no_number : (a : ℕ) → term_at g.terms a ≡ Some t → ⊥
  no_number a e = gone (lawful.used t (term_in g.terms a t e))

  missing_same : (a : ℕ) → ⊥ ↔ AreSame true (term_at g.terms a) (Some t)
  missing_same a = ((λ h. absurd h), (λ h. no_number a (h.1 ∙ sym h.2)))

  missing_different : (a : ℕ) → a ≤ length g.terms → (a ≢ 0) ↔ AreSame false (term_at g.terms a) (Some t)
  missing_different a l = (
    (λ n. let u = term_of_number g.terms a l n in (u.0, t, u.1, refl, (λ e. no_number a (u.1 ∙ ap Some e)))),
    (λ h. number_not_zero g.terms a h.0 h.2),
  )

-- ---- columns

module _ (terms : List Term) (s : Table) (x : List ℕ) (masks : Masks) where
  unbound_at : (i : ℕ) → has_column s.columns x ≡ false → mapping_at terms s i x ≡ None
  unbound_at i e = ap (term_at terms) (number_at_none s.columns i x e)

  pub bound_nowhere : has_column s.columns x ≡ false → AreSplit s.rows (λ _. false ≡ true) (λ _. true ≡ true) masks → AreMasks terms (Bound x) s masks
  bound_nowhere e h = split_as s.rows (λ _. false ≡ true) (λ _. true ≡ true) (λ i. mapping_at terms s i x ≢ None) (λ i. mapping_at terms s i x ≡ None) masks
      (λ i l. ((λ f. cc f), (λ n. absurd (n (unbound_at i e))))) (λ i l. ((λ _. unbound_at i e), (λ _. refl))) h

  pub bound_where : (numbers : List ℕ) → length numbers ≡ s.rows → ((i : ℕ) → number_at s.columns i x ≡ slice_index numbers i) → AreNumbers terms s →
      AreSplit (length numbers) (λ i. slice_index numbers i ≢ 0) (λ i. slice_index numbers i ≡ 0) masks → AreMasks terms (Bound x) s masks
  bound_where numbers long at o h = split_as s.rows (λ i. slice_index numbers i ≢ 0) (λ i. slice_index numbers i ≡ 0) (λ i. mapping_at terms s i x ≢ None) (λ i. mapping_at terms s i x ≡ None) masks
      (λ i l. ((λ n e. n (sym (at i) ∙ none_is_zero terms (number_at s.columns i x) (o i x l) e)), (λ n z. n (ap (term_at terms) (at i ∙ z)))))
      (λ i l. ((λ z. ap (term_at terms) (at i ∙ z)), (λ e. sym (at i) ∙ none_is_zero terms (number_at s.columns i x) (o i x l) e)))
      (subst (λ n. AreSplit n (λ i. slice_index numbers i ≢ 0) (λ i. slice_index numbers i ≡ 0) masks) long h)

  -- a variable without a column, beside anything
  pub error_left : (q : ℕ → Option Term) → has_column s.columns x ≡ false → AreSplit s.rows (λ _. ⊥) (λ _. ⊥) masks →
      AreSplit s.rows (λ i. AreSame true (mapping_at terms s i x) (q i)) (λ i. AreSame false (mapping_at terms s i x) (q i)) masks
  error_left q e h = split_as s.rows (λ _. ⊥) (λ _. ⊥) _ _ masks
      (λ i l. ((λ f. absurd f), (λ f. same_unbound (mapping_at terms s i x) (q i) (unbound_at i e) f))) (λ i l. ((λ f. absurd f), (λ f. different_unbound (mapping_at terms s i x) (q i) (unbound_at i e) f))) h

  pub error_right : (p : ℕ → Option Term) → has_column s.columns x ≡ false → AreSplit s.rows (λ _. ⊥) (λ _. ⊥) masks →
      AreSplit s.rows (λ i. AreSame true (p i) (mapping_at terms s i x)) (λ i. AreSame false (p i) (mapping_at terms s i x)) masks
  error_right p e h = split_as s.rows (λ _. ⊥) (λ _. ⊥) _ _ masks
      (λ i l. ((λ f. absurd f), (λ f. same_unbound (mapping_at terms s i x) (p i) (unbound_at i e) ((same_swap (p i) (mapping_at terms s i x)).0 f))))
      (λ i l. ((λ f. absurd f), (λ f. different_unbound (mapping_at terms s i x) (p i) (unbound_at i e) ((different_swap (p i) (mapping_at terms s i x)).0 f)))) h

  pub same_columns : (y : List ℕ) (a b : List ℕ) → AreOneToOne terms → AreNumbers terms s → length a ≡ s.rows → ((i : ℕ) → number_at s.columns i x ≡ slice_index a i) → ((i : ℕ) → number_at s.columns i y ≡ slice_index b i) →
      AreSplit (length a) (λ i. (slice_index a i ≡ slice_index b i) × ((slice_index a i ≢ 0) × (slice_index b i ≢ 0))) (λ i. (slice_index a i ≢ slice_index b i) × ((slice_index a i ≢ 0) × (slice_index b i ≢ 0))) masks →
      AreSplit s.rows (λ i. AreSame true (mapping_at terms s i x) (mapping_at terms s i y)) (λ i. AreSame false (mapping_at terms s i x) (mapping_at terms s i y)) masks
  same_columns y a b one o long at_a at_b h = split_as s.rows (λ i. (slice_index a i ≡ slice_index b i) × ((slice_index a i ≢ 0) × (slice_index b i ≢ 0))) (λ i. (slice_index a i ≢ slice_index b i) × ((slice_index a i ≢ 0) × (slice_index b i ≢ 0))) _ _ masks
      (λ i l. subst (λ m. ((m ≡ slice_index b i) × ((m ≢ 0) × (slice_index b i ≢ 0))) ↔ AreSame true (mapping_at terms s i x) (mapping_at terms s i y)) (at_a i)
      (subst (λ n. ((number_at s.columns i x ≡ n) × ((number_at s.columns i x ≢ 0) × (n ≢ 0))) ↔ AreSame true (mapping_at terms s i x) (mapping_at terms s i y)) (at_b i)
      (number_same terms (number_at s.columns i x) (number_at s.columns i y) one (o i x l) (o i y l))))
      (λ i l. subst (λ m. ((m ≢ slice_index b i) × ((m ≢ 0) × (slice_index b i ≢ 0))) ↔ AreSame false (mapping_at terms s i x) (mapping_at terms s i y)) (at_a i)
      (subst (λ n. ((number_at s.columns i x ≢ n) × ((number_at s.columns i x ≢ 0) × (n ≢ 0))) ↔ AreSame false (mapping_at terms s i x) (mapping_at terms s i y)) (at_b i)
      (number_different terms (number_at s.columns i x) (number_at s.columns i y) one (o i x l) (o i y l))))
      (subst (λ n. AreSplit n (λ i. (slice_index a i ≡ slice_index b i) × ((slice_index a i ≢ 0) × (slice_index b i ≢ 0))) (λ i. (slice_index a i ≢ slice_index b i) × ((slice_index a i ≢ 0) × (slice_index b i ≢ 0))) masks) long h)

  module _ (numbers : List ℕ) (long : length numbers ≡ s.rows) (at : (i : ℕ) → number_at s.columns i x ≡ slice_index numbers i) (o : AreNumbers terms s) (t : Term) where
    pub term_column : (k : ℕ) → AreOneToOne terms → term_at terms k ≡ Some t → AreSplit (length numbers) (λ i. slice_index numbers i ≡ k) (λ i. (slice_index numbers i ≢ k) × (slice_index numbers i ≢ 0)) masks →
        AreSplit s.rows (λ i. AreSame true (mapping_at terms s i x) (Some t)) (λ i. AreSame false (mapping_at terms s i x) (Some t)) masks
    term_column k one e h = split_as s.rows (λ i. slice_index numbers i ≡ k) (λ i. (slice_index numbers i ≢ k) × (slice_index numbers i ≢ 0)) _ _ masks
        (λ i l. subst (λ m. (m ≡ k) ↔ AreSame true (mapping_at terms s i x) (Some t)) (at i) (term_same terms (number_at s.columns i x) k t one e))
        (λ i l. subst (λ m. ((m ≢ k) × (m ≢ 0)) ↔ AreSame false (mapping_at terms s i x) (Some t)) (at i) (term_different terms (number_at s.columns i x) k t one (o i x l) e))
        (subst (λ n. AreSplit n (λ i. slice_index numbers i ≡ k) (λ i. (slice_index numbers i ≢ k) × (slice_index numbers i ≢ 0)) masks) long h)

pub missing_column : (g : GraphValue) (s : Table) (x : List ℕ) (masks : Masks) (numbers : List ℕ) (t : Term) → IsLawful g → AreNumbers g.terms s → length numbers ≡ s.rows → ((i : ℕ) → number_at s.columns i x ≡ slice_index numbers i) → ¬ HoldsTerm g t →
    AreSplit (length numbers) (λ _. ⊥) (λ i. slice_index numbers i ≢ 0) masks → AreSplit s.rows (λ i. AreSame true (mapping_at g.terms s i x) (Some t)) (λ i. AreSame false (mapping_at g.terms s i x) (Some t)) masks
missing_column g s x masks numbers t lawful o long at gone h = split_as s.rows (λ _. ⊥) (λ i. slice_index numbers i ≢ 0) _ _ masks
    (λ i l. missing_same g lawful t gone (number_at s.columns i x))
    (λ i l. subst (λ m. (m ≢ 0) ↔ AreSame false (mapping_at g.terms s i x) (Some t)) (at i) (missing_different g lawful t gone (number_at s.columns i x) (o i x l)))
    (subst (λ n. AreSplit n (λ _. ⊥) (λ i. slice_index numbers i ≢ 0) masks) long h)
