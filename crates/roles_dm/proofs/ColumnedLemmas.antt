-- Classes that have a column, noted one after another.
use Rattle.std.proofs.Common.{◌≡◌, ◌<◌, ◌≤◌, ◌+◌, ◌⊎◌, ◌↔◌, ℕ, List, Some, sym, ap, ◌∙◌, subst, inl, inr, arith, length}
use Rattle.std.specs.HashSet.{contains}
use Rattle.std.specs.Prelude.{Bool, cond, nat_eq, slice_get, true}
use Rattle.std.proofs.lemmas.Bool.Decides.{eqb_tells}
use Rattle.std.proofs.lemmas.Bool.{cases_lt}
use Rattle.std.proofs.lemmas.Option.{slice_get_within}
use Rattle.roles_dm.specs.Columned.{AreColumned, HasColumnBelow, HasColumned, IsClassOf, NotesClass}
use Rattle.roles_dm.specs.declared.columned.Columned.{Columned}
use Rattle.roles_dm.specs.declared.role.ColumnRole.{ColumnRole}
use Rattle.roles_dm.specs.declared.role.Role.TheVariants.{Column}
use Rattle.roles_dm.specs.declared.role.Role.{Role}

before_or : (j i : ℕ) → j < i + 1 → (j < i) ⊎ (j ≡ i)
before_or j i l = elim (cases_lt j i) [ inl a ↦ inl a | inr b ↦ inr (omega (arith, l, b)) ]

unsome : (a b : Role) → Some a ≡ Some b → a ≡ b
unsome a b e = cc

-- ---- one role

pub notes_column : (old new : Columned) (role : Role) (column : ColumnRole) → role ≡ Column column → ((n : ℕ) → contains nat_eq new.classes n ≡ cond (nat_eq column.class n) true (contains nat_eq old.classes n)) → NotesClass old new role
notes_column old new role column is updates n = (
  (λ h. elim (eqb_tells column.class n) [
    | inl e ↦ inr (column, is, e.1)
    | inr e ↦ inl (sym (updates n ∙ ap (λ (b : Bool). cond b true (contains nat_eq old.classes n)) e.0) ∙ h)
  ]),
  (λ k. elim (eqb_tells column.class n) [
    | inl e ↦ updates n ∙ ap (λ (b : Bool). cond b true (contains nat_eq old.classes n)) e.0
    | inr e ↦ (updates n ∙ ap (λ (b : Bool). cond b true (contains nat_eq old.classes n)) e.0) ∙ elim k [ inl a ↦ a | inr b ↦ absurd (e.1 (ap (λ (c : ColumnRole). c.class) (same column b.0 (sym is ∙ b.1)) ∙ b.2)) ]
  ]),
)
  where
    same : (a b : ColumnRole) → Column a ≡ Column b → a ≡ b
    same a b e = cc

pub notes_none : (old : Columned) (role : Role) → ((column : ColumnRole) → role ≡ Column column → ⊥) → NotesClass old old role
notes_none old role apart n = ((λ h. inl h), (λ k. elim k [ inl a ↦ a | inr b ↦ absurd (apart b.0 b.1) ]))

-- ---- the roles below a place

module _ (roles : List Role) where
  abbrev pub AreBelow : ℕ → Columned → Type 0
  AreBelow bound columned = (n : ℕ) → HasColumned columned n ↔ HasColumnBelow roles bound n

  pub one_more : (old new : Columned) (i : ℕ) (role : Role) → slice_get roles i ≡ Some role → NotesClass old new role → AreBelow i old → AreBelow (i + 1) new
  one_more old new i role at notes are n = (
    (λ h. elim ((notes n).0 h) [
      | inl a ↦ (let k = (are n).0 a in (k.0, k.1, (let l = k.2 in omega (arith, l)), k.3, k.4))
      | inr b ↦ (i, role, omega arith, at, b)
    ]),
    (λ k. elim (before_or k.0 i k.2) [
      | inl l ↦ (notes n).1 (inl ((are n).1 (k.0, k.1, l, k.3, k.4)))
      | inr e ↦ (notes n).1 (inr (subst (λ r. IsClassOf r n) (unsome k.1 role (sym k.3 ∙ ap (slice_get roles) e ∙ at)) k.4))
    ]),
  )

  pub all_columned : (columned : Columned) (i : ℕ) → length roles ≤ i → AreBelow i columned → AreColumned roles columned
  all_columned columned i past are n = (
    (λ h. let k = (are n).0 h in (k.0, k.1, k.3, k.4)),
    (λ k. (are n).1 (k.0, k.1, (let l = slice_get_within roles k.0 k.1 k.2 in omega (arith, l, past)), k.2, k.3)),
  )
