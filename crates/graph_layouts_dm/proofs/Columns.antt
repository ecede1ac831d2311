-- The columns of a table by their names.
use Rattle.std.proofs.Common.{◌≡◌, ℕ, zero, suc, ◌<◌, ◌+◌, Bool, true, false, not, cond, List, [], ◌∷◌, map, length, refl, sym, ap, ◌∙◌, subst, inl, inr, arith, Some, None}
use Rattle.std.specs.Prelude.{slice_get}
use Rattle.std.specs.Option.{option_map}
use Rattle.std.proofs.lemmas.Option.{slice_get-map, get_or_from_slice_get}
use Rattle.value_dm.specs.Equality.{numbers_decide}
use Rattle.members_dm.specs.Membership.{IsIn, NoRepeats}
use Rattle.members_dm.proofs.ElementsLemmas.{item_at_index}
use Rattle.members_dm.proofs.MembershipLemmas.{map-IsIn}
use Rattle.schema_dm.specs.Naming.{Name, column_place, same_name, name_at}
use Rattle.schema_dm.specs.declared.draft.Column.{Column}

some_same : {X : Type 0} (x y : X) → Some x ≡ Some y → x ≡ y
some_same x y e = cc

-- a column stands at the place of its name
pub place_is : (columns : List Column) (k : ℕ) (c : Column) → NoRepeats (map (λ (d : Column). d.name) columns) → slice_get columns k ≡ Some c → column_place columns c.name ≡ k
place_is [] k c once e = absurd (let f : None ≡ Some c = e in cc)
place_is (x ∷ xs) zero c once e =
    let f : x ≡ c = some_same x c e in
    let h : same_name x.name c.name ≡ true = (numbers_decide x.name c.name).1 (ap (λ (d : Column). d.name) f) in
    ap (λ b. cond (not b) (1 + column_place xs c.name) 0) h
place_is (x ∷ xs) (suc k) c once e = go (λ h. place_is xs k c h e) (same_name x.name c.name) refl
  where
    go : (NoRepeats (map (λ (d : Column). d.name) xs) → column_place xs c.name ≡ k) → (b : Bool) → same_name x.name c.name ≡ b → cond (not b) (1 + column_place xs c.name) 0 ≡ suc k
    go rest true h =
        absurd (once.0 (subst (λ (n : Name). IsIn n (map (λ (d : Column). d.name) xs)) (sym ((numbers_decide x.name c.name).0 h)) (map-IsIn (λ (d : Column). d.name) c xs (item_at_index c xs k e))))
    go rest false h = (let r : column_place xs c.name ≡ k = rest once.1 in omega arith)

-- the name at the place of a column
pub name_at_is : (columns : List Column) (k : ℕ) (c : Column) → slice_get columns k ≡ Some c → name_at columns k ≡ c.name
name_at_is columns k c e =
    get_or_from_slice_get (map (λ (d : Column). d.name) columns) k c.name [] (slice_get-map (λ (d : Column). d.name) columns k ∙ ap (option_map (λ (d : Column). d.name)) e)

pub column_there : (columns : List Column) (k : ℕ) → k < length columns → (c : Column) × (slice_get columns k ≡ Some c)
column_there [] k below = absurd (omega arith)
column_there (x ∷ xs) zero below = (x, refl)
column_there (x ∷ xs) (suc k) below = column_there xs k (omega arith)

-- two places of one name are one
pub one_place : (columns : List Column) (k l : ℕ) → NoRepeats (map (λ (d : Column). d.name) columns) → k < length columns → l < length columns → name_at columns k ≡ name_at columns l → k ≡ l
one_place columns k l once in_k in_l e =
    let a = column_there columns k in_k in
    let b = column_there columns l in_l in
    let same : a.0.name ≡ b.0.name = sym (name_at_is columns k a.0 a.1) ∙ e ∙ name_at_is columns l b.0 b.1 in
    sym (place_is columns k a.0 once a.1) ∙ ap (column_place columns) same ∙ place_is columns l b.0 once b.1

-- names at places of the table tell the places
pub one_list : (columns : List Column) (ps qs : List ℕ) → NoRepeats (map (λ (d : Column). d.name) columns) → ((p : ℕ) → IsIn p ps → p < length columns) → ((q : ℕ) → IsIn q qs → q < length columns)
    → map (name_at columns) ps ≡ map (name_at columns) qs → ps ≡ qs
one_list columns [] [] once a b e = refl
one_list columns [] (q ∷ qs) once a b e = absurd (cc)
one_list columns (p ∷ ps) [] once a b e = absurd (cc)
one_list columns (p ∷ ps) (q ∷ qs) once a b e =
    let heads : name_at columns p ≡ name_at columns q = cc in
    let tails : map (name_at columns) ps ≡ map (name_at columns) qs = cc in
    let head : p ≡ q = one_place columns p q once (a p (inl refl)) (b q (inl refl)) heads in
    let tail : ps ≡ qs = one_list columns ps qs once (λ r h. a r (inr h)) (λ r h. b r (inr h)) tails in
    λ i. head i ∷ tail i
