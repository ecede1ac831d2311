-- What the loops over columns, nodes, pairs and names keep.
use Rattle.std.proofs.Common.{◌≡◌, ◌≢◌, ◌≤◌, ◌<◌, ◌+◌, ℕ, zero, suc, List, [], ◌∷◌, ◌++◌, Some, None, map, length, get_or, take, refl, sym, ap, ◌∙◌, subst, inl, inr, arith, AllPairs, Contains}
use Rattle.std.specs.List.{AllZip}
use Rattle.std.proofs.lemmas.List.{take_all, take_more}
use Rattle.std.proofs.lemmas.Option.{slice_get_within}
use Rattle.members_dm.specs.Membership.{IsIn, NoRepeats}
use Rattle.members_dm.proofs.ElementsLemmas.{NoRepeats-map, item_within}
use Rattle.members_dm.proofs.MembershipLemmas.{IsIn-append, IsIn-front, IsIn-map, map-IsIn}
use Rattle.names_dm.specs.declared.term.Term.{Term}
use Rattle.store_dm.specs.Graphs.{GraphValue, IsLawful}
use Rattle.store_dm.specs.Terms.{term_at}
use Rattle.store_dm.specs.Triads.{Fits}
use Rattle.roles_dm.specs.declared.role.ColumnRole.{ColumnRole}
use Rattle.roles_dm.specs.declared.role.Role.{Role}
use Rattle.roles_dm.specs.declared.role.Role.TheVariants as role
use Rattle.roles_dm.specs.declared.words.Words.{Words}
use Rattle.roles_dm.specs.Numbers.{HasNumbers}
use Rattle.roles_dm.specs.Roles.{role_at}
use Rattle.roles_dm.proofs.NumberLemmas.{AreMatches, contains_from_in, in_from_contains, not_zero}
use Rattle.graph_tables_dm.specs.declared.listed.NumberedName.{NumberedName}
use Rattle.graph_tables_dm.specs.Columns.{AddsColumn, IsColumnOf, IsNamedColumn}
use Rattle.graph_tables_dm.specs.Listed.{ListsOnce}
use Rattle.graph_tables_dm.proofs.ListedLemmas.{lists_more, lists_same}

-- ---- lists side by side

zip_push : {X Y : Type 0} (R : X → Y → Type 0) (xs : List X) (ys : List Y) (x : X) (y : Y) → AllZip R xs ys → R x y → AllZip R (xs ++ x ∷ []) (ys ++ y ∷ [])
zip_push R [] [] x y z r = (r, tt)
zip_push R [] (b ∷ ys) x y z r = absurd z
zip_push R (a ∷ xs) [] x y z r = absurd z
zip_push R (a ∷ xs) (b ∷ ys) x y z r = (z.0, zip_push R xs ys x y z.1 r)

one_more : {X : Type 0} (xs : List X) (i : ℕ) (x : X) → i < length xs → x ≡ get_or xs i x → take (i + 1) xs ≡ take i xs ++ x ∷ []
one_more xs i x below is = take_more xs i x below ∙ ap (λ y. take i xs ++ y ∷ []) (sym is)

pub zip_more : {X Y : Type 0} (R : X → Y → Type 0) (xs : List X) (ys : List Y) (i : ℕ) (x : X) (y : Y) → i < length xs → x ≡ get_or xs i x → AllZip R (take i xs) ys → R x y → AllZip R (take (i + 1) xs) (ys ++ y ∷ [])
zip_more R xs ys i x y below is z r = subst (λ zs. AllZip R zs (ys ++ y ∷ [])) (sym (one_more xs i x below is)) (zip_push R (take i xs) ys x y z r)

pub same_read : {X : Type 0} (xs : List X) (i : ℕ) (d e : X) → i < length xs → get_or xs i d ≡ get_or xs i e
same_read [] i d e below = absurd (omega arith)
same_read (x ∷ xs) zero d e below = refl
same_read (x ∷ xs) (suc i) d e below = same_read xs i d e (omega arith)

pub zip_more_at : {X Y : Type 0} (R : X → Y → Type 0) (xs : List X) (ys : List Y) (i : ℕ) (d : X) (y : Y) → i < length xs → AllZip R (take i xs) ys → R (get_or xs i d) y → AllZip R (take (i + 1) xs) (ys ++ y ∷ [])
zip_more_at R xs ys i d y below z r = zip_more R xs ys i (get_or xs i d) y below (same_read xs i d (get_or xs i d) below) z r

pub zip_all : {X Y : Type 0} (R : X → Y → Type 0) (xs : List X) (ys : List Y) (i : ℕ) → length xs ≤ i → AllZip R (take i xs) ys → AllZip R xs ys
zip_all R xs ys i past z = subst (λ zs. AllZip R zs ys) (take_all i xs past) z

-- ---- matches of a look-up

apart : {X : Type 0} (xs : List X) → AllPairs (λ x y. x ≢ y) xs → NoRepeats xs
apart [] h = tt
apart {X} (x ∷ xs) h = ((λ i. let c = contains_from_in x xs i in h 0 (suc c.0) x (omega arith) (let l = c.1 in omega (arith, l)) (sym c.2)), apart xs (λ i j d a b. h (suc i) (suc j) d (omega arith) (omega arith)))

fits_is : (n m : ℕ) → n ≢ 0 → Fits n m → n ≡ m
fits_is n m none (inl e) = absurd (none e)
fits_is n m none (inr e) = e

module _ (g : GraphValue) (lawful : IsLawful g) (found : List (ℕ × ℕ × ℕ)) (once : AllPairs (λ (x y : ℕ × ℕ × ℕ). x ≢ y) found) where
  is_there : (x : ℕ × ℕ × ℕ) → IsIn x found → Contains found x
  is_there x i = contains_from_in {X = ℕ × ℕ × ℕ} x found i

  triple : (a b c : ℕ) → Contains g.triples (record { first = a; second = b; third = c }) → HasNumbers g a b c
  triple a b c h =
      let n = lawful.named (record { first = a; second = b; third = c }) h in
      (not_zero g.terms _ a n.1.0, not_zero g.terms _ b n.1.1, not_zero g.terms _ c n.1.2, h)

  -- the subjects of an object
  pub subjects_listed : (p o : ℕ) → p ≢ 0 → o ≢ 0 → AreMatches g 0 p o found → ListsOnce (λ s. HasNumbers g s p o) (map (λ (x : ℕ × ℕ × ℕ). x.0) found)
  subjects_listed p o np nz exact = record {
    items = λ s. (
      (λ i.
          let x = IsIn-map {X = ℕ × ℕ × ℕ} (λ x. x.0) s found i in
          let k = parts x.0 x.1 in
          subst (λ n. HasNumbers g n p o) x.2 (subst (λ (z : ℕ × ℕ). HasNumbers g x.0.0 z.0 z.1) (λ t. (sym k.0 t, sym k.1 t)) k.2)),
      (λ h. map-IsIn {X = ℕ × ℕ × ℕ} (λ x. x.0) (s, p, o) found (in_from_contains {X = ℕ × ℕ × ℕ} (s, p, o) found ((exact s p o).1 (h.3, (inl refl, inr refl, inr refl))))),
    );
    once = NoRepeats-map {X = ℕ × ℕ × ℕ} (λ x. x.0) found (λ x y i j e. let a = parts x i in let b = parts y j in λ t. (e t, (sym a.0 ∙ b.0) t, (sym a.1 ∙ b.1) t)) (apart {X = ℕ × ℕ × ℕ} found once);
  }
    where
      parts : (x : ℕ × ℕ × ℕ) → IsIn x found → (p ≡ x.1) × (o ≡ x.2) × HasNumbers g x.0 x.1 x.2
      parts x i =
          let h = (exact x.0 x.1 x.2).0 (is_there x i) in
          (fits_is p x.1 np h.1.1, fits_is o x.2 nz h.1.2, triple x.0 x.1 x.2 h.0)

  -- the pairs of a predicate
  pub pairs_listed : (p : ℕ) → p ≢ 0 → AreMatches g 0 p 0 found → ListsOnce {X = ℕ × ℕ} (λ z. HasNumbers g z.0 p z.1) (map {A = ℕ × ℕ × ℕ} {B = ℕ × ℕ} (λ x. (x.0, x.2)) found)
  pairs_listed p np exact = record {
    items = λ z. (
      (λ i.
          let x = IsIn-map {X = ℕ × ℕ × ℕ} {Y = ℕ × ℕ} (λ x. (x.0, x.2)) z found i in
          let k = parts x.0 x.1 in
          subst (λ (y : ℕ × ℕ). HasNumbers g y.0 p y.1) x.2 (subst (λ n. HasNumbers g x.0.0 n x.0.2) (sym k.0) k.1)),
      (λ h. map-IsIn {X = ℕ × ℕ × ℕ} {Y = ℕ × ℕ} (λ x. (x.0, x.2)) (z.0, p, z.1) found (in_from_contains {X = ℕ × ℕ × ℕ} (z.0, p, z.1) found ((exact z.0 p z.1).1 (h.3, (inl refl, inr refl, inl refl))))),
    );
    once = NoRepeats-map {X = ℕ × ℕ × ℕ} {Y = ℕ × ℕ} (λ x. (x.0, x.2)) found
        (λ x y i j e. let a = parts x i in let b = parts y j in λ t. (ap (λ (v : ℕ × ℕ). v.0) e t, (sym a.0 ∙ b.0) t, ap (λ (v : ℕ × ℕ). v.1) e t)) (apart {X = ℕ × ℕ × ℕ} found once);
  }
    where
      parts : (x : ℕ × ℕ × ℕ) → IsIn x found → (p ≡ x.1) × HasNumbers g x.0 x.1 x.2
      parts x i = let h = (exact x.0 x.1 x.2).0 (is_there x i) in (fits_is p x.1 np h.1.1, triple x.0 x.1 x.2 h.0)

-- ---- the first object

head_there : (found rest : List (ℕ × ℕ × ℕ)) (x : ℕ × ℕ × ℕ) → found ≡ x ∷ rest → Contains found x
head_there found rest x e = subst (λ xs. Contains xs x) (sym e) (0, omega arith, refl)

none_there : (found : List (ℕ × ℕ × ℕ)) (x : ℕ × ℕ × ℕ) → found ≡ [] → ¬ Contains found x
none_there found x e h = let k = subst (λ xs. Contains xs x) e h in let below = k.1 in omega (arith, below)

module _ (g : GraphValue) (lawful : IsLawful g) (s p : ℕ) (ns : s ≢ 0) (np : p ≢ 0) (found : List (ℕ × ℕ × ℕ)) (exact : AreMatches g s p 0 found) where
  pub no_object : found ≡ [] → (o : ℕ) → ¬ HasNumbers g s p o
  no_object e o h = none_there found (s, p, o) e ((exact s p o).1 (h.3, (inr refl, inr refl, inl refl)))

  pub some_object : (x : ℕ × ℕ × ℕ) (rest : List (ℕ × ℕ × ℕ)) → found ≡ x ∷ rest → HasNumbers g s p x.2
  some_object x rest e =
      let k = (exact x.0 x.1 x.2).0 (head_there found rest x e) in
      let n = lawful.named (record { first = x.0; second = x.1; third = x.2 }) k.0 in
      let first = fits_is s x.0 ns k.1.0 in
      let second = fits_is p x.1 np k.1.1 in
      (ns, np, not_zero g.terms _ x.2 n.1.2, subst (Contains g.triples) (λ i. record { first = sym first i; second = sym second i; third = x.2 }) k.0)

pub object_within : (g : GraphValue) → IsLawful g → (s p o : ℕ) → HasNumbers g s p o → (1 ≤ o) × (o ≤ length g.terms)
object_within g lawful s p o h = let n = lawful.named (record { first = s; second = p; third = o }) h.3 in within o n.0.object n.1.2
  where
    within : (k : ℕ) (x : Term) → term_at g.terms k ≡ Some x → (1 ≤ k) × (k ≤ length g.terms)
    within zero x e = absurd (let f : None ≡ Some x = e in cc)
    within (suc k) x e = let l = slice_get_within g.terms k x e in (omega arith, omega (arith, l))

-- ---- the columns of a class

fresh : (xs : List ℕ) (i x : ℕ) → NoRepeats xs → i < length xs → x ≡ get_or xs i x → ¬ IsIn x (take i xs)
fresh [] i x once below is h = absurd (omega arith)
fresh (y ∷ ys) zero x once below is h = h
fresh (y ∷ ys) (suc i) x once below is (inl e) = once.0 (subst (λ n. IsIn n ys) (sym is ∙ sym e) (item_within ys i x (omega arith)))
fresh (y ∷ ys) (suc i) x once below is (inr h) = fresh ys i x once.1 (omega arith) is h

unsome_role : (r s : Role) → Some r ≡ Some s → r ≡ s
unsome_role r s e = cc

column_inside : (c d : ColumnRole) → role.Column c ≡ role.Column d → c ≡ d
column_inside c d e = cc

module _ (roles : List Role) (class : ℕ) where
  one_column : (d e : NumberedName) → IsNamedColumn roles class d → IsNamedColumn roles class e → d.number ≡ e.number → d.name ≡ e.name
  one_column d e h k same =
      let role : h.0 ≡ k.0 = column_inside h.0 k.0 (unsome_role (role.Column h.0) (role.Column k.0) (sym h.1 ∙ ap (role_at roles) same ∙ k.1)) in
      sym h.3 ∙ ap (λ (c : ColumnRole). c.name.column) role ∙ k.3

  abbrev pub IsColumnAmong : List ℕ → NumberedName → Type 0
  IsColumnAmong numbers e = IsIn e.number numbers × IsNamedColumn roles class e

  pub columns_none : ListsOnce (IsColumnAmong []) []
  columns_none = record { items = λ e. ((λ i. absurd i), (λ h. h.0)); once = tt }

  pub columns_more : (xs : List ℕ) (i x : ℕ) → NoRepeats xs → i < length xs → x ≡ get_or xs i x → (old new : List NumberedName) → ListsOnce (IsColumnAmong (take i xs)) old → AddsColumn roles class x old new
      → ListsOnce (IsColumnAmong (take (i + 1) xs)) new
  columns_more xs i x once below is old new lists adds = subst (λ ns. ListsOnce (IsColumnAmong ns) new) (sym (one_more xs i x below is)) (go adds)
    where
      weaker : (e : NumberedName) → IsColumnAmong (take i xs) e → IsColumnAmong (take i xs ++ x ∷ []) e
      weaker e h = (IsIn-front e.number (take i xs) (x ∷ []) h.0, h.1)

      go : AddsColumn roles class x old new → ListsOnce (IsColumnAmong (take i xs ++ x ∷ [])) new
      go (inl h) =
          let added : NumberedName = record { name = h.0; number = x } in
          subst (ListsOnce (IsColumnAmong (take i xs ++ x ∷ []))) (sym h.2)
          (lists_more (IsColumnAmong (take i xs)) (IsColumnAmong (take i xs ++ x ∷ [])) old lists weaker added (λ p. fresh xs i x once below is p.0) (last, h.1)
          (λ e p. elim (IsIn-append e.number (take i xs) (x ∷ []) p.0) [
            | inl k ↦ inl (k, p.1)
            | inr k ↦ elim k [ inl s ↦ inr (let name = one_column added e h.1 p.1 s in λ t. record { name = name t; number = s t }) | inr n ↦ absurd n ]
          ]))
        where
          last : IsIn x (take i xs ++ x ∷ [])
          last = at_end (take i xs)
            where
              at_end : (ys : List ℕ) → IsIn x (ys ++ x ∷ [])
              at_end [] = inl refl
              at_end (y ∷ ys) = inr (at_end ys)
      go (inr h) = subst (ListsOnce (IsColumnAmong (take i xs ++ x ∷ []))) (sym h.1)
          (lists_same (IsColumnAmong (take i xs)) (IsColumnAmong (take i xs ++ x ∷ [])) old lists weaker
          (λ e p. elim (IsIn-append e.number (take i xs) (x ∷ []) p.0) [
            | inl k ↦ (k, p.1)
            | inr k ↦ elim k [ inl s ↦ absurd (h.0 e.name (subst (λ n. IsNamedColumn roles class (record { name = e.name; number = n })) (sym s) p.1)) | inr n ↦ absurd n ]
          ]))

  pub columns_all : (g : GraphValue) (w : Words) (xs : List ℕ) (i : ℕ) (names : List NumberedName) → ListsOnce (λ s. HasNumbers g s w.domain class) xs → length xs ≤ i → ListsOnce (IsColumnAmong (take i xs)) names → ListsOnce (IsColumnOf g w roles class) names
  columns_all g w xs i names found past lists = record {
    items = λ e. (
      (λ k. let h = (lists.items e).0 k in ((found.items e.number).0 (subst (λ ns. IsIn e.number ns) (take_all i xs past) h.0), h.1)),
      (λ h. (lists.items e).1 (subst (λ ns. IsIn e.number ns) (sym (take_all i xs past)) ((found.items e.number).1 h.0), h.1)),
    );
    once = lists.once;
  }

  pub one_column_of : (g : GraphValue) (w : Words) (d e : NumberedName) → IsColumnOf g w roles class d → IsColumnOf g w roles class e → d.number ≡ e.number → d.name ≡ e.name
  one_column_of g w d e h k same = one_column d e h.1 k.1 same
