-- No name of a query is empty where none is at its outermost node and in its parts.
use Rattle.std.proofs.Common.{◌≡◌, ◌≢◌, ◌↔◌, ◌&&◌, Bool, true, false, IsTrue, [], ◌∷◌, ◌++◌, refl, sym, ◌∙◌, subst, inl, inr, ⊎_elim}
use Rattle.members_dm.specs.Elements.{Each}
use Rattle.members_dm.specs.Membership.{IsIn}
use Rattle.schema_dm.specs.Naming.{Name}
use Rattle.algebra_dm.specs.Nodes.{names_at, nodes}
use Rattle.algebra_dm.specs.declared.query.Query.{Query}
use Rattle.algebra_dm.proofs.FirstLemmas.{Each-append, Each-front}
use Rattle.algebra_dm.proofs.TreeLemmas.{OnePart, TwoParts}
use Rattle.query_rows_dm.specs.Names.{AreNamed}
use Rattle.query_rows_dm.proofs.EvaluationLemmas.{Each-back}

pub both_true : (r s t : Bool) (A B : Type 0) → (IsTrue r ↔ A) → (IsTrue s ↔ B) → t ≡ (r && s) → IsTrue t ↔ (A × B)
both_true true s t A B h k e = ((λ p. (h.0 refl, k.0 (sym e ∙ p))), (λ p. e ∙ k.1 p.1))
both_true false s t A B h k e = ((λ p. (let z : false ≡ true = sym e ∙ p in absurd (cc))), (λ p. (let z : false ≡ true = h.1 p.0 in absurd (cc))))

pub one_name : (n : Name) → (¬ IsIn [] (n ∷ [])) ↔ (n ≢ [])
one_name n = ((λ h e. h (inl e)), (λ h k. ⊎_elim h (λ z. z) k))

pub two_names : (n m : Name) → (¬ IsIn [] (n ∷ m ∷ [])) ↔ ((n ≢ []) × (m ≢ []))
two_names n m = ((λ h. ((λ e. h (inl e)), (λ e. h (inr (inl e))))), (λ h k. ⊎_elim h.0 (λ j. ⊎_elim h.1 (λ z. z) j) k))

module _ (q : Query) where
  abbrev Here : Query → Type 0
  Here node = ¬ IsIn [] (names_at node)

  pub leaf_named : (N : Type 0) → nodes q ≡ q ∷ [] → ((¬ IsIn [] (names_at q)) ↔ N) → (r : Bool) → (IsTrue r ↔ N) → IsTrue r ↔ AreNamed q
  leaf_named N e names r h = (
    (λ p. subst (Each Here) (sym e) (names.1 (h.0 p), tt)),
    (λ p. h.1 (names.0 (subst (Each Here) e p).0)),
  )

  module _ (N : Type 0) (names : (¬ IsIn [] (names_at q)) ↔ N) where
    pub part_named : (p read : Query) → OnePart q p → read ≡ p → (r s t : Bool) → (IsTrue r ↔ AreNamed read) → (IsTrue s ↔ N) → t ≡ (r && s) → IsTrue t ↔ AreNamed q
    part_named p read one same r s t h k e =
        let b = both_true r s t (AreNamed read) N h k e in (
          (λ j. let x = b.0 j in subst (Each Here) (sym one) (Each-append Here (nodes p) (q ∷ []) (subst AreNamed same x.0) (names.1 x.1, tt))),
          (λ j. let all = subst (Each Here) one j in b.1 (subst AreNamed (sym same) (Each-front Here (nodes p) (q ∷ []) all), names.0 (Each-back Here (nodes p) (q ∷ []) all).0)),
        )

  pub parts_named : (p s read also_read : Query) → TwoParts q p s → (¬ IsIn [] (names_at q)) → read ≡ p → also_read ≡ s → (r u t : Bool) → (IsTrue r ↔ AreNamed read) → (IsTrue u ↔ AreNamed also_read) → t ≡ (r && u) → IsTrue t ↔ AreNamed q
  parts_named p s read also_read two none same also_same r u t h k e =
      let b = both_true r u t (AreNamed read) (AreNamed also_read) h k e in (
        (λ j. let x = b.0 j in subst (Each Here) (sym two) (Each-append Here (nodes p ++ nodes s) (q ∷ []) (Each-append Here (nodes p) (nodes s) (subst AreNamed same x.0) (subst AreNamed also_same x.1)) (none, tt))),
        (λ j. let all = Each-front Here (nodes p ++ nodes s) (q ∷ []) (subst (Each Here) two j) in
            b.1 (subst AreNamed (sym same) (Each-front Here (nodes p) (nodes s) all), subst AreNamed (sym also_same) (Each-back Here (nodes p) (nodes s) all))),
      )
