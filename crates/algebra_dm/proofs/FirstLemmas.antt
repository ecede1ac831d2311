-- The first cause at a node, and the first node with a cause.
use Rattle.std.proofs.Common.{◌≡◌, ◌∙◌, sym, List, [], ◌∷◌, ◌++◌, inl, inr}
use Rattle.members_dm.specs.Elements.{Each}
use Rattle.schema_dm.specs.declared.table.Table.{Table as SchemaTable}
use Rattle.algebra_dm.specs.Causes.{IsCause, IsFirst, HasNoCause, IsFirstCause, causes}
use Rattle.algebra_dm.specs.Nodes.{IsFirstFault}
use Rattle.algebra_dm.specs.declared.error.QueryError.{QueryError}
use Rattle.algebra_dm.specs.declared.query.Query.{Query}

pub Each-append : {X : Type 0} (P : X → Type 0) (xs ys : List X) → Each P xs → Each P ys → Each P (xs ++ ys)
Each-append P [] ys h k = k
Each-append P (x ∷ xs) ys h k = (h.0, Each-append P xs ys h.1 k)

pub Each-front : {X : Type 0} (P : X → Type 0) (xs ys : List X) → Each P (xs ++ ys) → Each P xs
Each-front P [] ys h = tt
Each-front P (x ∷ xs) ys h = (h.0, Each-front P xs ys h.1)

first_unique : {X : Type 0} (P : X → Type 0) (ys : List X) (x z : X) → IsFirst P ys x → IsFirst P ys z → x ≡ z
first_unique P [] x z h k = absurd h
first_unique P (y ∷ ys) x z (inl h) (inl k) = sym h.0 ∙ k.0
first_unique P (y ∷ ys) x z (inl h) (inr k) = absurd (k.0 h.1)
first_unique P (y ∷ ys) x z (inr h) (inl k) = absurd (h.0 k.1)
first_unique P (y ∷ ys) x z (inr h) (inr k) = first_unique P ys x z h.1 k.1

none_first : {X : Type 0} (P : X → Type 0) (ys : List X) (x : X) → Each (λ y. ¬ P y) ys → ¬ IsFirst P ys x
none_first P [] x e h = h
none_first P (y ∷ ys) x e (inl h) = e.0 h.1
none_first P (y ∷ ys) x e (inr h) = none_first P ys x e.1 h.1

module _ (tables : List SchemaTable) where
  pub fault_unique : (qs : List Query) (e f : QueryError) → IsFirstFault tables qs e → IsFirstFault tables qs f → e ≡ f
  fault_unique [] e f h k = absurd h
  fault_unique (q ∷ qs) e f (inl h) (inl k) = first_unique (IsCause tables q) causes e f h k
  fault_unique (q ∷ qs) e f (inl h) (inr k) = absurd (none_first (IsCause tables q) causes e k.0 h)
  fault_unique (q ∷ qs) e f (inr h) (inl k) = absurd (none_first (IsCause tables q) causes f h.0 k)
  fault_unique (q ∷ qs) e f (inr h) (inr k) = fault_unique qs e f h.1 k.1

  pub faultless_first : (qs : List Query) (e : QueryError) → Each (HasNoCause tables) qs → ¬ IsFirstFault tables qs e
  faultless_first [] e each h = h
  faultless_first (q ∷ qs) e each (inl h) = none_first (IsCause tables q) causes e each.0 h
  faultless_first (q ∷ qs) e each (inr h) = faultless_first qs e each.1 h.1

  pub fault_front : (ps qs : List Query) (e : QueryError) → IsFirstFault tables ps e → IsFirstFault tables (ps ++ qs) e
  fault_front [] qs e h = absurd h
  fault_front (p ∷ ps) qs e (inl h) = inl h
  fault_front (p ∷ ps) qs e (inr h) = inr (h.0, fault_front ps qs e h.1)

  pub fault_back : (ps qs : List Query) (e : QueryError) → Each (HasNoCause tables) ps → IsFirstFault tables qs e → IsFirstFault tables (ps ++ qs) e
  fault_back [] qs e each h = h
  fault_back (p ∷ ps) qs e each h = inr (each.0, fault_back ps qs e each.1 h)
