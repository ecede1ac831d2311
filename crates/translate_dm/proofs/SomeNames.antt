-- Some list has exactly the names with a property, where a list has them all: in the order of their bytes, or in declared order.
use Rattle.std.proofs.Common.{◌≡◌, ◌≢◌, ◌∙◌, ◌⊎◌, ◌↔◌, ◌<◌, ◌+◌, List, [], ◌∷◌, ◌++◌, Bool, true, false, not, cond, refl, sym, ap, subst, inl, inr, arith}
use Rattle.std.specs.Cmp.Lexicographic.{bytes_decides}
use Rattle.std.specs.List.{flat_map}
use Rattle.std.specs.Ordering.{ordering_reverse}
use Rattle.std.specs.declared.cmp.Ordering.{Ordering}
use Rattle.std.specs.declared.cmp.Ordering.TheVariants.{Less, Equal, Greater}
use Rattle.members_dm.specs.Membership.{IsIn, IsRising, NoRepeats}
use Rattle.members_dm.proofs.ElementsLemmas.{IsRising-cons}
use Rattle.members_dm.proofs.MembershipLemmas.{IsIn-back, IsIn-front}
use Rattle.members_dm.proofs.OrderLemmas.{ties_from_eq}
use Rattle.value_dm.specs.Order.{byte_cmp, byte_cmp_ties}
use Rattle.schema_dm.specs.Naming.{Name, column_names, column_place, same_name}
use Rattle.schema_dm.specs.Shapes.{IsBefore}
use Rattle.schema_dm.specs.declared.draft.Column.{Column}
use Rattle.schema_dm.specs.declared.table.Table.{Table as SchemaTable}
use Rattle.algebra_dm.specs.Attributes.{AreAttributes, HasAttribute, Lists}
use Rattle.algebra_dm.specs.declared.query.Query.{Query, end_of-Query, more_of-Query}
use Rattle.algebra_dm.specs.declared.query.Query.TheVariants.{Table, Null, Eq', Ne', IsNull', NotNull', Project', Rename', Join', Union', Diff'}
use Rattle.algebra_dm.proofs.RisingLemmas.{names_total}
use Rattle.table_patterns_dm.specs.TablePatterns.{AreDeclared}

-- ---- the items of a list in order that have a property

record AreChosen {X : Type 0} (before : X → X → Type 0) (P : X → Type 0) (xs ys : List X) : Type 0 where
  pub rising : IsRising before ys
  pub exact : (x : X) → IsIn x ys ↔ (IsIn x xs × P x)

chosen_some : {X : Type 0} (before : X → X → Type 0) (P : X → Type 0) (xs : List X) → IsRising before xs → ¬ ((ys : List X) → ¬ AreChosen before P xs ys)
chosen_some before P [] rise none = none [] (record { rising = tt; exact = λ x. ((λ h. absurd h), (λ h. h.0)) })
chosen_some before P (z ∷ xs) rise none =
    chosen_some before P xs rise.1 (λ ys are.
    let no : ¬ P z = λ p. none (z ∷ ys) (record {
      rising = ((λ y h. rise.0 y ((are.exact y).0 h).0), are.rising);
      exact = λ x. (
        (λ h. elim h [ inl is ↦ (inl is, subst P is p) | inr k ↦ (let r = (are.exact x).0 k in (inr r.0, r.1)) ]),
        (λ h. elim h.0 [ inl is ↦ inl is | inr k ↦ inr ((are.exact x).1 (k, h.1)) ]),
      );
    }) in
    none ys (record {
      rising = are.rising;
      exact = λ x. (
        (λ h. (let r = (are.exact x).0 h in (inr r.0, r.1))),
        (λ h. elim h.0 [ inl is ↦ absurd (no (subst P (sym is) h.1)) | inr k ↦ (are.exact x).1 (k, h.1) ]),
      );
    }))

-- ---- names in the order of their bytes

one_name : (x y : Name) → byte_cmp x y ≡ Equal → x ≡ y
one_name = ties_from_eq same_name byte_cmp byte_cmp_ties bytes_decides

order_sides : (x y : Name) → (byte_cmp x y ≡ Less) ⊎ ((x ≡ y) ⊎ (byte_cmp y x ≡ Less))
order_sides x y = by_order (byte_cmp x y) refl
  where
    by_order : (r : Ordering) → byte_cmp x y ≡ r → (byte_cmp x y ≡ Less) ⊎ ((x ≡ y) ⊎ (byte_cmp y x ≡ Less))
    by_order Less e = inl e
    by_order Equal e = inr (inl (one_name x y e))
    by_order Greater e = inr (inr (names_total.antisymm y x ∙ ap ordering_reverse e))

sides : (x y : Name) → IsBefore x y ⊎ ((x ≡ y) ⊎ IsBefore y x)
unfolding IsBefore
sides = order_sides

chain : (x y z : Name) → IsBefore x y → IsBefore y z → IsBefore x z
unfolding IsBefore
chain x y z a b = names_total.trans x y z a b

-- with one more name
record Adds (x : Name) (ys : List Name) : Type 0 where
  pub items : List Name
  pub rising : IsRising IsBefore items
  pub exact : (a : Name) → IsIn a items ↔ ((x ≡ a) ⊎ IsIn a ys)

add : (x : Name) (ys : List Name) → IsRising IsBefore ys → Adds x ys
add x [] rise = record { items = x ∷ []; rising = ((λ y h. absurd h), tt); exact = λ a. ((λ h. h), (λ h. h)) }
add x (y ∷ ys) rise = by_side (sides x y) (add x ys rise.1)
  where
    by_side : IsBefore x y ⊎ ((x ≡ y) ⊎ IsBefore y x) → Adds x ys → Adds x (y ∷ ys)
    by_side (inl e) more = record { items = x ∷ y ∷ ys; rising = IsRising-cons IsBefore chain x y ys e rise; exact = λ a. ((λ h. h), (λ h. h)) }
    by_side (inr (inl same)) more = record { items = y ∷ ys; rising = rise; exact = λ a. ((λ h. inr h), (λ h. elim h [ inl is ↦ inl (sym same ∙ is) | inr k ↦ k ])) }
    by_side (inr (inr e)) more = record {
      items = y ∷ more.items;
      rising = ((λ b h. elim ((more.exact b).0 h) [ inl is ↦ subst (IsBefore y) is e | inr k ↦ rise.0 b k ]), more.rising);
      exact = λ a. (
        (λ h. elim h [ inl is ↦ inr (inl is) | inr k ↦ elim ((more.exact a).0 k) [ inl is ↦ inl is | inr m ↦ inr (inr m) ] ]),
        (λ h. elim h [ inl is ↦ inr ((more.exact a).1 (inl is)) | inr k ↦ elim k [ inl is ↦ inl is | inr m ↦ inr ((more.exact a).1 (inr m)) ] ]),
      );
    }

sorted : (xs : List Name) → (names : List Name) × Lists (λ a. IsIn a xs) names
sorted [] = ([], record { rising = tt; exact = λ a. ((λ h. h), (λ h. h)) })
sorted (x ∷ xs) =
    let rest = sorted xs in
    let more = add x rest.0 rest.1.rising in (
      more.items,
      record {
        rising = more.rising;
        exact = λ a. (
          (λ h. elim ((more.exact a).0 h) [ inl is ↦ inl is | inr k ↦ inr ((rest.1.exact a).0 k) ]),
          (λ h. (more.exact a).1 (elim h [ inl is ↦ inl is | inr k ↦ inr ((rest.1.exact a).1 k) ])),
        );
      },
    )

pub lists_some : (P : Name → Type 0) (xs : List Name) → ((a : Name) → P a → IsIn a xs) → ¬ ((names : List Name) → ¬ Lists P names)
lists_some P xs all none =
    let s = sorted xs in
    chosen_some IsBefore P s.0 s.1.rising (λ names are.
    none names (record { rising = are.rising; exact = λ a. ((λ h. ((are.exact a).0 h).1), (λ p. (are.exact a).1 ((s.1.exact a).1 (all a p), p))) }))

-- ---- columns in declared order

rising_along : {X : Type 0} (before after : X → X → Type 0) (xs : List X) → ((x y : X) → IsIn x xs → IsIn y xs → before x y → after x y) → IsRising before xs → IsRising after xs
rising_along before after [] keeps rise = tt
rising_along before after (x ∷ xs) keeps rise =
    ((λ y h. keeps x y (inl refl) (inr h) (rise.0 y h)), rising_along before after xs (λ y z h k. keeps y z (inr h) (inr k)) rise.1)

module _ (c : Column) (columns : List Column) where
  place_here : column_place (c ∷ columns) c.name ≡ 0
  place_here = ap (λ b. cond (not b) (1 + column_place columns c.name) 0) ((bytes_decides c.name c.name).1 refl)

  place_later : (a : Name) → c.name ≢ a → column_place (c ∷ columns) a ≡ 1 + column_place columns a
  place_later a other = go (same_name c.name a) refl
    where
      go : (b : Bool) → same_name c.name a ≡ b → cond (not (same_name c.name a)) (1 + column_place columns a) 0 ≡ 1 + column_place columns a
      go true e = absurd (other ((bytes_decides c.name a).0 e))
      go false e = ap (λ b. cond (not b) (1 + column_place columns a) 0) e

columns_rise : (columns : List Column) → NoRepeats (column_names columns) → IsRising (λ a b. column_place columns a < column_place columns b) (column_names columns)
columns_rise [] once = tt
columns_rise (c ∷ columns) once =
    let later : (a : Name) → IsIn a (column_names columns) → column_place (c ∷ columns) a ≡ 1 + column_place columns a =
    λ a h. place_later c columns a (λ is. once.0 (subst (λ x. IsIn x (column_names columns)) (sym is) h)) in (
      (λ a h. (let first = place_here c columns in let other = later a h in omega arith)),
      rising_along (λ a b. column_place columns a < column_place columns b) (λ a b. column_place (c ∷ columns) a < column_place (c ∷ columns) b) (column_names columns)
          (λ a b h k below. (let first = later a h in let second = later b k in omega arith)) (columns_rise columns once.1),
    )

pub declared_some : (columns : List Column) → NoRepeats (column_names columns) → (P : Name → Type 0) → ¬ ((names : List Name) → ¬ AreDeclared columns P names)
declared_some columns once P none =
    chosen_some (λ a b. column_place columns a < column_place columns b) P (column_names columns) (columns_rise columns once)
    (λ names are. none names (record { declared = are.rising; exact = are.exact }))

-- ---- attributes

in_flat : {X Y : Type 0} (f : X → List Y) (xs : List X) (x : X) (y : Y) → IsIn x xs → IsIn y (f x) → IsIn y (flat_map f xs)
in_flat f [] x y h k = absurd h
in_flat f (z ∷ xs) x y (inl is) k = IsIn-front y (f z) (flat_map f xs) (subst (λ w. IsIn y (f w)) (sym is) k)
in_flat f (z ∷ xs) x y (inr h) k = IsIn-back y (f z) (flat_map f xs) (in_flat f xs x y h k)

-- a list that has all attributes of the query
pub record Bound (tables : List SchemaTable) (q : Query) : Type 0 where
  pub names : List Name
  pub all : (a : Name) → HasAttribute tables q a → IsIn a names

pub bound : (tables : List SchemaTable) (q : Query) → Bound tables q
bound tables (Table t) = record {
  names = flat_map (λ (table : SchemaTable). column_names table.columns) tables;
  all = λ a h. in_flat (λ (table : SchemaTable). column_names table.columns) tables h.0 a h.1.0 h.2;
}
bound tables (Null n) = record { names = n ∷ []; all = λ a h. inl h }
bound tables (Eq' s (more_of-Query p end_of-Query) n v) = let b = bound tables p in record { names = b.names; all = b.all }
bound tables (Ne' s (more_of-Query p end_of-Query) n v) = let b = bound tables p in record { names = b.names; all = b.all }
bound tables (IsNull' s (more_of-Query p end_of-Query) n) = let b = bound tables p in record { names = b.names; all = b.all }
bound tables (NotNull' s (more_of-Query p end_of-Query) n) = let b = bound tables p in record { names = b.names; all = b.all }
bound tables (Project' s (more_of-Query p end_of-Query) names) = record { names = names; all = λ a h. h }
bound tables (Rename' s (more_of-Query p end_of-Query) from to) =
    let b = bound tables p in record { names = to ∷ b.names; all = λ a h. elim h [ inl e ↦ inl e | inr k ↦ inr (b.all a k.0) ] }
bound tables (Join' s (more_of-Query p end_of-Query) s' (more_of-Query q end_of-Query)) =
    let b = bound tables p in
    let c = bound tables q in
    record { names = b.names ++ c.names; all = λ a h. elim h [ inl k ↦ IsIn-front a b.names c.names (b.all a k) | inr k ↦ IsIn-back a b.names c.names (c.all a k) ] }
bound tables (Union' s (more_of-Query p end_of-Query) s' (more_of-Query q end_of-Query)) = let b = bound tables p in record { names = b.names; all = b.all }
bound tables (Diff' s (more_of-Query p end_of-Query) s' (more_of-Query q end_of-Query)) = let b = bound tables p in record { names = b.names; all = b.all }

pub attributes_some : (tables : List SchemaTable) (q : Query) → ¬ ((names : List Name) → ¬ AreAttributes tables q names)
attributes_some tables q = let b = bound tables q in lists_some (HasAttribute tables q) b.names b.all
