-- Roles, listed one after another.
use Rattle.std.proofs.Common.{◌≡◌, ◌⊎◌, ◌++◌, ◌∷◌, [], ℕ, zero, suc, List, None, Some, refl, sym, ap, ◌∙◌, subst, inl, inr, length}
use Rattle.std.specs.Prelude.{slice_get}
use Rattle.names_dm.specs.declared.term.Term.{Term}
use Rattle.names_dm.specs.Statements.{Statement}
use Rattle.store_dm.specs.Graphs.{GraphValue}
use Rattle.store_dm.specs.Terms.{term_at}
use Rattle.roles_dm.specs.Roles.{HaveRoles, IsRole, role_at}
use Rattle.roles_dm.specs.declared.role.Role.{Role}

-- an item is one of the earlier ones, or the last
last_or : (roles : List Role) (role r : Role) (k : ℕ) → slice_get (roles ++ role ∷ []) k ≡ Some r → (slice_get roles k ≡ Some r) ⊎ ((k ≡ length roles) × (role ≡ r))
last_or [] role r zero e = inr (refl, (let f : Some role ≡ Some r = e in cc))
last_or [] role r (suc k) e = absurd (let f : None ≡ Some r = e in cc)
last_or (y ∷ ys) role r zero e = inl e
last_or (y ∷ ys) role r (suc k) e = elim (last_or ys role r k e) [ inl a ↦ inl a | inr b ↦ inr (ap suc b.0, b.1) ]

module _ (base : List ℕ) (g : GraphValue) (G : List Statement) where
  pub no_roles : (n : ℕ) (x : Term) (role : Role) → term_at g.terms n ≡ Some x → role_at [] n ≡ Some role → IsRole base g G x role
  no_roles zero x role at r = absurd (let e : None ≡ Some role = r in cc)
  no_roles (suc k) x role at r = absurd (let e : None ≡ Some role = r in cc)

  pub one_more_role : (roles new : List Role) (role : Role) (number : ℕ) → new ≡ roles ++ role ∷ [] → number ≡ suc (length roles) → ((x : Term) → term_at g.terms number ≡ Some x → IsRole base g G x role) → HaveRoles base g G roles → HaveRoles base g G new
  one_more_role roles new role number is here told have = subst (HaveRoles base g G) (sym is) go
    where
      go : (n : ℕ) (x : Term) (r : Role) → term_at g.terms n ≡ Some x → role_at (roles ++ role ∷ []) n ≡ Some r → IsRole base g G x r
      go zero x r at e = absurd (let f : None ≡ Some r = e in cc)
      go (suc k) x r at e = elim (last_or roles role r k e) [ inl a ↦ have (suc k) x r at a | inr b ↦ subst (IsRole base g G x) b.1 (told x (subst (λ n. term_at g.terms n ≡ Some x) (ap suc b.0 ∙ sym here) at)) ]
