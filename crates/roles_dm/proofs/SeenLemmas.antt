-- What is looked up for a subject and a property.
use Rattle.std.proofs.Common.{◌≡◌, ◌≢◌, ◌<◌, ◌≤◌, ◌⊎◌, ◌++◌, ◌∷◌, ◌↔◌, ℕ, zero, suc, List, [], Option, None, Some, Bool, true, false, refl, sym, ap, ◌∙◌, subst, inl, inr, arith, IsTrue, Contains, length, get_or}
use Rattle.std.specs.HashSet.{contains}
use Rattle.std.specs.Prelude.{cond}
use Rattle.std.proofs.lemmas.Option.{slice_get_within}
use Rattle.members_dm.specs.Membership.{IsIn}
use Rattle.value_dm.specs.declared.kind.Kind.{Kind}
use Rattle.schema_dm.specs.Naming.{Name}
use Rattle.names_dm.specs.declared.term.Term.{Term}
use Rattle.store_dm.specs.Graphs.{GraphValue, IsLawful}
use Rattle.store_dm.specs.Terms.{term_at}
use Rattle.roles_dm.specs.Canonical.{IsCanonicalOf}
use Rattle.roles_dm.specs.Roles.{role_at}
use Rattle.roles_dm.specs.Seen.{AreValued, Counts, CountsFor, HasCounted, column_kind, same_pair}
use Rattle.roles_dm.specs.declared.seen.Valued.{Valued}
use Rattle.roles_dm.proofs.FirstLemmas.{same_or}
use Rattle.roles_dm.specs.declared.role.Role.{Role}
use Rattle.roles_dm.specs.declared.role.Role.TheVariants.{Class}
use Rattle.roles_dm.proofs.NumberLemmas.{AreMatches, in_from_contains, item_of, there}

no : {P : Type 0} → ¬ P → IsTrue false ↔ P
no none = ((λ h. absurd (let f : false ≡ true = h in cc)), (λ p. absurd (none p)))

module _ (roles : List Role) (m : ℕ) where
  pub is_class : (role : Role) (t : Name) → role_at roles m ≡ Some role → role ≡ Class t → IsTrue true ↔ ((t : Name) × (role_at roles m ≡ Some (Class t)))
  is_class role t at e = ((λ _. (t, at ∙ ap Some e)), (λ _. refl))

  pub is_none : role_at roles m ≡ None → IsTrue false ↔ ((t : Name) × (role_at roles m ≡ Some (Class t)))
  is_none at = no (λ h. let f : None ≡ Some (Class h.0) = sym at ∙ h.1 in cc)

  pub is_other : (role : Role) → role_at roles m ≡ Some role → ((t : Name) → role ≢ Class t) → IsTrue false ↔ ((t : Name) × (role_at roles m ≡ Some (Class t)))
  is_other role at apart = no (λ h. apart h.0 (let f : Some role ≡ Some (Class h.0) = sym at ∙ h.1 in cc))

module _ (g : GraphValue) (roles : List Role) (p o : ℕ) where
  pub counts_none : role_at roles p ≡ None → IsTrue false ↔ Counts g roles p o
  counts_none at = no (λ h. let f : None ≡ Some h.0 = sym at ∙ h.1 in cc)

  same_role : (a b : Role) → role_at roles p ≡ Some a → role_at roles p ≡ Some b → a ≡ b
  same_role a b x y = let f : Some a ≡ Some b = sym x ∙ y in cc

  same_term : (x y : Term) → term_at g.terms o ≡ Some x → term_at g.terms o ≡ Some y → x ≡ y
  same_term x y a b = let f : Some x ≡ Some y = sym a ∙ b in cc

  pub counts_value : (role : Role) (k : Kind) (x : Term) (r : Bool) → role_at roles p ≡ Some role → column_kind role ≡ Some k → term_at g.terms o ≡ Some x → IsTrue r ↔ IsCanonicalOf k x → IsTrue r ↔ Counts g roles p o
  counts_value role k x r at kind term test = (
    (λ e. (role, at, subst (λ (j : Option Kind). CountsFor g roles j o) (sym kind) (x, term, test.0 e))),
    (λ h.
        let c : CountsFor g roles (Some k) o = subst (λ (j : Option Kind). CountsFor g roles j o) (ap column_kind (same_role h.0 role h.1 at) ∙ kind) h.2 in
        test.1 (subst (IsCanonicalOf k) (same_term c.0 x c.1 term) c.2)),
  )

  pub counts_class : (role : Role) (r : Bool) → role_at roles p ≡ Some role → column_kind role ≡ None → IsTrue r ↔ ((t : Name) × (role_at roles o ≡ Some (Class t))) → IsTrue r ↔ Counts g roles p o
  counts_class role r at kind test = (
    (λ e. (role, at, subst (λ (j : Option Kind). CountsFor g roles j o) (sym kind) (test.0 e))),
    (λ h. test.1 (subst (λ (j : Option Kind). CountsFor g roles j o) (ap column_kind (same_role h.0 role h.1 at) ∙ kind) h.2)),
  )

-- ---- the objects that are found

pub there_by : {X : Type 0} (all : List X) (k : ℕ) (x : X) → (k < length all) × (x ≡ get_or all k x) → Contains all x
there_by all k x h = (k, h.0, sym h.1)

last_in : {X : Type 0} (xs : List X) (y x : X) → IsIn x (xs ++ y ∷ []) → IsIn x xs ⊎ (y ≡ x)
last_in [] y x (inl e) = inr e
last_in [] y x (inr h) = absurd h
last_in (z ∷ zs) y x (inl e) = inl (inl e)
last_in (z ∷ zs) y x (inr h) = elim (last_in zs y x h) [ inl a ↦ inl (inr a) | inr b ↦ inr b ]

pub none_more : (g : GraphValue) (roles : List Role) (p : ℕ) (xs : List (ℕ × ℕ × ℕ)) (y : ℕ × ℕ × ℕ) → ((x : ℕ × ℕ × ℕ) → IsIn x xs → ¬ Counts g roles p x.2) → ¬ Counts g roles p y.2 → (x : ℕ × ℕ × ℕ) → IsIn x (xs ++ y ∷ []) → ¬ Counts g roles p x.2
none_more g roles p xs y none here x h counts = elim (last_in xs y x h) [ inl a ↦ none x a counts | inr e ↦ here (subst (λ (z : ℕ × ℕ × ℕ). Counts g roles p z.2) (sym e) counts) ]

module _ (g : GraphValue) (lawful : IsLawful g) (roles : List Role) (s p : ℕ) (ns : s ≢ 0) (np : p ≢ 0) (found : List (ℕ × ℕ × ℕ)) (exact : AreMatches g s p 0 found) where
  within : (o : ℕ) (x : Term) → term_at g.terms o ≡ Some x → (1 ≤ o) × (o ≤ length g.terms)
  within zero x e = absurd (let f : None ≡ Some x = e in cc)
  within (suc k) x e = (omega arith, (let l = slice_get_within g.terms k x e in omega (arith, l)))

  -- each object that is found is the number of a term
  pub object_within : (x : ℕ × ℕ × ℕ) → Contains found x → (1 ≤ x.2) × (x.2 ≤ length g.terms)
  object_within x h = let named = lawful.named (record { first = x.0; second = x.1; third = x.2 }) ((exact x.0 x.1 x.2).0 h).0 in within x.2 named.0.object named.1.2

  pub found_counted : (x : ℕ × ℕ × ℕ) → Contains found x → Counts g roles p x.2 → HasCounted g roles s p
  found_counted x h counts = (x.2, (item_of g lawful s p ns np found exact x h).2, counts)

  pub none_counted : ((x : ℕ × ℕ × ℕ) → IsIn x found → ¬ Counts g roles p x.2) → IsTrue false ↔ HasCounted g roles s p
  none_counted none = no (λ h. none (s, p, h.0) (in_from_contains {X = ℕ × ℕ × ℕ} (s, p, h.0) found (there g lawful s p ns np found exact h.0 h.1)) h.2)

-- one more pair that was looked up
pub one_more : (g : GraphValue) (roles : List Role) (old new : Valued) (s p : ℕ) → ((a b : ℕ) → contains same_pair new.pairs (a, b) ≡ cond (same_pair (s, p) (a, b)) true (contains same_pair old.pairs (a, b))) → AreValued g roles old → HasCounted g roles s p → AreValued g roles new
one_more g roles old new s p updates valued counted a b has = elim (same_or s p a b) [
  | inl m ↦ subst {A = ℕ × ℕ} (λ z. HasCounted g roles z.0 z.1) (λ i. (m.0 i, m.1 i)) counted
  | inr m ↦ valued a b (sym (updates a b ∙ ap (λ (r : Bool). cond r true (contains same_pair old.pairs (a, b))) m.1) ∙ has)
]
