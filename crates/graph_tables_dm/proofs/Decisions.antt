-- What can be told: whether texts, terms and triples are one, and whether some item of a list has a property.
use Rattle.std.proofs.Common.{◌≡◌, ◌⊎◌, ℕ, List, [], ◌∷◌, Bool, true, false, refl, sym, ap, ◌∙◌, subst, inl, inr}
use Rattle.std.specs.Prelude.{nat_eq}
use Rattle.std.specs.Cmp.Lexicographic.{pointwise}
use Rattle.members_dm.specs.Membership.{IsIn}
use Rattle.value_dm.specs.Equality.{numbers_decide}
use Rattle.value_dm.specs.declared.kind.Kind.{Kind}
use Rattle.names_dm.specs.declared.literal.LiteralType.{LiteralType}
use Rattle.names_dm.specs.declared.literal.LiteralType.TheVariants.{Plain, Typed, Tagged}
use Rattle.names_dm.specs.declared.names.ColumnName.{ColumnName}
use Rattle.names_dm.specs.declared.term.Term.{Term}
use Rattle.names_dm.specs.declared.term.Term.TheVariants.{Iri, Blank, Literal}
use Rattle.names_dm.specs.Literals.{LiteralValue}
use Rattle.names_dm.specs.Statements.{Statement}
use Rattle.facts_dm.specs.Facts.{KindText, Link, Node, blank, iri, link_iri}
use Rattle.facts_dm.specs.Meanings.{NamingLaws}
use Rattle.facts_dm.specs.Vocabulary.{word_iri}
use Rattle.facts_dm.specs.declared.word.Word.TheVariants.{Datatype}
use Rattle.layouts_dm.proofs.Facts.{datatype-injective, link-injective}

-- it holds, or it doesn't
abbrev pub Told : Type 0 → Type 0
Told P = P ⊎ (¬ P)

pub sure : {P : Type 0} → Told P → ¬ (¬ P) → P
sure (inl p) n = p
sure (inr q) n = absurd (n q)

pub told_as : {P Q : Type 0} → (P → Q) → (Q → P) → Told P → Told Q
told_as f b (inl p) = inl (f p)
told_as f b (inr n) = inr (λ q. n (b q))

pub told_both : {P Q : Type 0} → Told P → Told Q → Told (P × Q)
told_both (inl p) (inl q) = inl (p, q)
told_both (inl p) (inr n) = inr (λ h. n h.1)
told_both (inr n) t = inr (λ h. n h.0)

pub told_some : {X : Type 0} (P : X → Type 0) → ((x : X) → Told (P x)) → (xs : List X) → Told ((x : X) × IsIn x xs × P x)
told_some P told [] = inr (λ h. h.1)
told_some {X} P told (x ∷ xs) = go (told x) (told_some P told xs)
  where
    go : Told (P x) → Told ((y : X) × IsIn y xs × P y) → Told ((y : X) × IsIn y (x ∷ xs) × P y)
    go (inl p) t = inl (x, inl refl, p)
    go (inr n) (inl h) = inl (h.0, inr h.1, h.2)
    go (inr n) (inr m) = inr (λ h. elim h.1 [ inl e ↦ n (subst P (sym e) h.2) | inr i ↦ m (h.0, i, h.2) ])

pub told_in : {X : Type 0} → ((x y : X) → Told (x ≡ y)) → (x : X) (xs : List X) → Told (IsIn x xs)
told_in told x [] = inr (λ h. h)
told_in told x (y ∷ ys) = go (told y x) (told_in told x ys)
  where
    go : Told (y ≡ x) → Told (IsIn x ys) → Told (IsIn x (y ∷ ys))
    go (inl e) t = inl (inl e)
    go (inr n) (inl i) = inl (inr i)
    go (inr n) (inr m) = inr (λ h. elim h [ inl e ↦ n e | inr i ↦ m i ])

-- ---- equality

pub told_text : (x y : List ℕ) → Told (x ≡ y)
told_text x y = go (pointwise nat_eq x y) refl
  where
    go : (b : Bool) → pointwise nat_eq x y ≡ b → Told (x ≡ y)
    go true e = inl ((numbers_decide x y).0 e)
    go false e = inr (λ h. let f : true ≡ false = sym ((numbers_decide x y).1 h) ∙ e in cc)

told_type : (x y : LiteralType) → Told (x ≡ y)
told_type Plain Plain = inl refl
told_type Plain (Typed b) = inr (λ e. cc)
told_type Plain (Tagged b) = inr (λ e. cc)
told_type (Typed a) Plain = inr (λ e. cc)
told_type (Typed a) (Typed b) = told_as (λ e. ap Typed e) (λ e. cc) (told_text a b)
told_type (Typed a) (Tagged b) = inr (λ e. cc)
told_type (Tagged a) Plain = inr (λ e. cc)
told_type (Tagged a) (Typed b) = inr (λ e. cc)
told_type (Tagged a) (Tagged b) = told_as (λ e. ap Tagged e) (λ e. cc) (told_text a b)

told_literal : (x y : LiteralValue) → Told (x ≡ y)
told_literal x y = told_as (λ h i. record { text = h.0 i; kind = h.1 i }) (λ e. (ap (λ (v : LiteralValue). v.text) e, ap (λ (v : LiteralValue). v.kind) e))
    (told_both (told_text x.text y.text) (told_type x.kind y.kind))

told_term : (x y : Term) → Told (x ≡ y)
told_term (Iri a) (Iri b) = told_as (λ e. ap Iri e) (λ e. cc) (told_text a b)
told_term (Iri a) (Blank b) = inr (λ e. cc)
told_term (Iri a) (Literal b) = inr (λ e. cc)
told_term (Blank a) (Iri b) = inr (λ e. cc)
told_term (Blank a) (Blank b) = told_as (λ e. ap Blank e) (λ e. cc) (told_text a b)
told_term (Blank a) (Literal b) = inr (λ e. cc)
told_term (Literal a) (Iri b) = inr (λ e. cc)
told_term (Literal a) (Blank b) = inr (λ e. cc)
told_term (Literal a) (Literal b) = told_as (λ e. ap Literal e) (λ e. cc) (told_literal a b)

pub told_statement : (x y : Statement) → Told (x ≡ y)
told_statement x y = told_as (λ h i. record { subject = h.0 i; predicate = h.1.0 i; object = h.1.1 i })
    (λ e. (ap (λ (s : Statement). s.subject) e, (ap (λ (s : Statement). s.predicate) e, ap (λ (s : Statement). s.object) e)))
    (told_both (told_term x.subject y.subject) (told_both (told_text x.predicate y.predicate) (told_term x.object y.object)))

pub told_node : (x y : Node) → Told (x ≡ y)
told_node (iri a) (iri b) = told_as (λ e. ap iri e) (λ e. cc) (told_text a b)
told_node (iri a) (blank b) = inr (λ e. cc)
told_node (blank a) (iri b) = inr (λ e. cc)
told_node (blank a) (blank b) = told_as (λ e. ap blank e) (λ e. cc) (told_text a b)

pub told_pair : (x y : Node × Node) → Told (x ≡ y)
told_pair x y = told_as (λ h i. (h.0 i, h.1 i)) (λ e. (ap (λ (p : Node × Node). p.0) e, ap (λ (p : Node × Node). p.1) e)) (told_both (told_node x.0 y.0) (told_node x.1 y.1))

pub told_column : (x y : ColumnName) → Told (x ≡ y)
told_column x y = told_as (λ h i. record { table = h.0 i; column = h.1 i }) (λ e. (ap (λ (c : ColumnName). c.table) e, ap (λ (c : ColumnName). c.column) e))
    (told_both (told_text x.table y.table) (told_text x.column y.column))

module _ (base : List ℕ) (laws : NamingLaws base) where
  pub told_kind : (x y : Kind) → Told (x ≡ y)
  told_kind x y = told_as (datatype-injective base laws x y) (λ e. ap (λ k. word_iri (Datatype k)) e) (told_text (word_iri (Datatype x)) (word_iri (Datatype y)))

  pub told_value : (x y : KindText) → Told (x ≡ y)
  told_value x y = told_as (λ h i. record { kind = h.0 i; text = h.1 i }) (λ e. (ap (λ (v : KindText). v.kind) e, ap (λ (v : KindText). v.text) e))
      (told_both (told_kind x.kind y.kind) (told_text x.text y.text))

  pub told_link : (x y : Link) → Told (x ≡ y)
  told_link x y = told_as (link-injective base laws x y) (λ e. ap (link_iri base) e) (told_text (link_iri base x) (link_iri base y))
