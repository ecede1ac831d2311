-- Numbers of relations' IRIs, noted one after another.
use Rattle.std.proofs.Common.{◌≡◌, ◌<◌, ◌≤◌, ◌↔◌, ℕ, zero, suc, List, Option, None, Some, Bool, true, false, refl, sym, ap, ◌∙◌, subst, inl, inr, arith, cond, nat_eq, IsTrue, length}
use Rattle.std.specs.Cmp.Lexicographic.{pointwise}
use Rattle.std.proofs.lemmas.Bool.{cases_lt}
use Rattle.std.proofs.lemmas.Option.{slice_get_within}
use Rattle.value_dm.specs.Equality.{numbers_decide}
use Rattle.names_dm.specs.declared.names.RelName.{RelName}
use Rattle.names_dm.specs.Statements.{Statement}
use Rattle.facts_dm.specs.Facts.{link_iri, rel_link}
use Rattle.facts_dm.specs.Meanings.{NamingLaws}
use Rattle.schema_dm.specs.Naming.{Name}
use Rattle.store_dm.specs.Graphs.{GraphValue}
use Rattle.store_dm.specs.Terms.{term_at}
use Rattle.layouts_dm.proofs.Facts.{link-injective}
use Rattle.roles_dm.specs.Naming.{link_term}
use Rattle.roles_dm.specs.Relations.{AreRelations, AreRelationsBelow, IsAlone, IsStated, NotesOneMore, TellsOne, TellsStated, noted, one_more}
use Rattle.roles_dm.specs.declared.relations.Relations.{Relations}

below_or : (n bound : ℕ) → n < suc bound → (P : Type 0) → (n < bound → P) → (n ≡ bound → P) → P
below_or n bound l P f g = elim (cases_lt n bound) [ inl a ↦ f a | inr b ↦ g (omega (arith, l, b)) ]

pub term_within : (g : GraphValue) (n : ℕ) (x : _) → term_at g.terms n ≡ Some x → n < suc (length g.terms)
term_within g zero x e = absurd (let f : None ≡ Some x = e in cc)
term_within g (suc k) x e = let l = slice_get_within g.terms k x e in omega (arith, l)

module _ (base : List ℕ) (laws : NamingLaws base) (g : GraphValue) (G : List Statement) where
  pub relation_named_once : (q r : RelName) → link_term base (rel_link q) ≡ link_term base (rel_link r) → q ≡ r
  relation_named_once q r e =
      let i : link_iri base (rel_link q) ≡ link_iri base (rel_link r) = cc in
      let l : rel_link q ≡ rel_link r = link-injective base laws (rel_link q) (rel_link r) i in cc

  pub name_at : (q r : RelName) (n : ℕ) → term_at g.terms n ≡ Some (link_term base (rel_link q)) → term_at g.terms n ≡ Some (link_term base (rel_link r)) → q ≡ r
  name_at q r n a b =
      let e : Some (link_term base (rel_link q)) ≡ Some (link_term base (rel_link r)) = sym a ∙ b in
      relation_named_once q r (cc e)

  one_table : (t u : Name) (n : ℕ) → IsStated base g G t n → IsStated base g G u n → t ≡ u
  one_table t u n a b = sym a.of_table ∙ ap (λ (q : RelName). q.table) (name_at a.name b.name n a.at b.at) ∙ b.of_table

  keep : (bound : ℕ) (t : Name) (x : Option ℕ) → TellsOne base g G bound t x → ¬ IsStated base g G t bound → TellsOne base g G (suc bound) t x
  keep bound t None h none = λ n l s. below_or n bound l ⊥ (λ a. h n a s) (λ e. none (subst (IsStated base g G t) e s))
  keep bound t (Some zero) h none = h
  keep bound t (Some (suc k)) h none = (
    (let l = h.0 in omega (arith, l)),
    h.1,
    (λ n l s. below_or n bound l (n ≡ suc k) (λ a. h.2 n a s) (λ e. absurd (none (subst (IsStated base g G t) e s)))),
  )

  add : (bound : ℕ) (t : Name) (x : Option ℕ) → 1 ≤ bound → TellsOne base g G bound t x → IsStated base g G t bound → TellsOne base g G (suc bound) t (Some (one_more x bound))
  add zero t x low h s = absurd (omega (arith, low))
  add (suc b) t None low h s = (omega arith, s, (λ n l u. below_or n (suc b) l (n ≡ suc b) (λ a. absurd (h n a u)) (λ e. e)))
  add (suc b) t (Some zero) low h s = h
  add (suc b) t (Some (suc k)) low h s = (suc k, suc b, (λ e. let l = h.0 in omega (arith, l, e)), h.1, s)

  pub step_none : (bound : ℕ) (relations : Relations) → AreRelationsBelow base g G bound relations → TellsStated base g G bound None → AreRelationsBelow base g G (suc bound) relations
  step_none bound relations h none t = keep bound t (noted relations t) (h t) (none t)

  pub step_some : (bound : ℕ) (old new : Relations) (t : Name) → 1 ≤ bound → AreRelationsBelow base g G bound old → IsStated base g G t bound → NotesOneMore old new t bound → AreRelationsBelow base g G (suc bound) new
  step_some bound old new t low h s notes u = subst (TellsOne base g G (suc bound) u) (sym (notes u)) (go (pointwise nat_eq t u) refl)
    where
      go : (b : Bool) → pointwise nat_eq t u ≡ b → TellsOne base g G (suc bound) u (cond b (Some (one_more (noted old t) bound)) (noted old u))
      go true e = subst (λ v. TellsOne base g G (suc bound) v (Some (one_more (noted old t) bound))) ((numbers_decide t u).0 e) (add bound t (noted old t) low (h t) s)
      go false e = keep bound u (noted old u) (h u) (λ v. let f : true ≡ false = sym ((numbers_decide t u).1 (one_table t u bound s v)) ∙ e in cc)

  -- ---- whether a number is the only one

  pub alone_told : (relations : Relations) (t : Name) (n : ℕ) (x : Option ℕ) → AreRelations base g G relations → noted relations t ≡ x → IsStated base g G t n → (r : Bool) → IsTrue r ↔ (x ≡ Some n) → IsTrue r ↔ IsAlone base g G t n
  alone_told relations t n x h is s r test = ((λ e. only (test.0 e)), (λ a. test.1 (told x (subst (TellsOne base g G (suc (length g.terms)) t) is (h t)) a)))
    where
      stated_within : (m : ℕ) → IsStated base g G t m → m < suc (length g.terms)
      stated_within m u = term_within g m (link_term base (rel_link u.name)) u.at

      alone_at : (y : Option ℕ) → TellsOne base g G (suc (length g.terms)) t y → y ≡ Some n → IsAlone base g G t n
      alone_at None k e = absurd (cc e)
      alone_at (Some zero) k e = absurd (let f : zero ≡ n = cc e in not_there n f)
        where
          not_there : (m : ℕ) → zero ≡ m → ⊥
          not_there m f = let at = subst (λ i. term_at g.terms i ≡ Some (link_term base (rel_link s.name))) (sym (let q : zero ≡ n = cc e in q)) s.at in let z : None ≡ Some (link_term base (rel_link s.name)) = at in cc
      alone_at (Some (suc k)) l e = λ m u. l.2 m (stated_within m u) u ∙ (cc e)

      only : x ≡ Some n → IsAlone base g G t n
      only e = alone_at x (subst (TellsOne base g G (suc (length g.terms)) t) is (h t)) e

      told : (y : Option ℕ) → TellsOne base g G (suc (length g.terms)) t y → IsAlone base g G t n → y ≡ Some n
      told None k a = absurd (k n (stated_within n s) s)
      told (Some zero) k a = absurd (k.2 (a k.0 k.3 ∙ sym (a k.1 k.4)))
      told (Some (suc k)) l a = ap Some (a (suc k) l.1)
