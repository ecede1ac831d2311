-- The operators by the steps that they take.
use Rattle.std.proofs.Common.{◌≡◌, ◌≢◌, ◌<◌, ◌⊎◌, ◌↔◌, ◌||◌, ℕ, List, [], ◌∷◌, false, map, refl, sym, ap, ◌∙◌, subst, arith, inl, inr, ⊎_elim}
use mathlib.Core.Path.{fun_ext}
use Rattle.std.proofs.lemmas.Slice.Eq.{bytes_eq-Decides}
use Rattle.std.proofs.lemmas.Bool.{false_from_ne_true, cond-true, cond-false}
use Rattle.members_dm.specs.Elements.{Each}
use Rattle.members_dm.specs.Membership.{IsIn, NoRepeats}
use Rattle.members_dm.proofs.ElementsLemmas.{item_from_each, NoRepeats-map}
use Rattle.schema_dm.specs.Naming.{Name}
use Rattle.names_dm.specs.Variables.{variable_of}
use Rattle.solutions_dm.specs.declared.selects.Rename.{Rename}
use Rattle.solutions_dm.specs.Columns.{number_at}
use Rattle.solutions_dm.specs.Repeats.{IsDistinct}
use Rattle.solutions_dm.specs.Selects.{AreTargetsApart, is_target, selected}
use Rattle.solutions_dm.specs.Table.{Table, HasRow}
use Rattle.query_rows_dm.specs.Operators.{IsNullRow, AreKept, AreMoved, AreUnited, renames}
use Rattle.query_rows_dm.specs.Relations.{Numbers, OwnsVariable}
use Rattle.query_rows_dm.specs.declared.relation.Relation.{Relation}
use Rattle.query_rows_dm.proofs.RowLemmas.{same_or_not}

pub kept_by : (Q : List ℕ → Numbers → Type 0) (part : Relation) (s : Table) (x y : List ℕ) → x ≡ y → ((m : Numbers) → HasRow s m ↔ (HasRow part.rows m × Q x m)) → AreKept (Q y) part (record { attributes = part.attributes; rows = s })
kept_by Q part s x y e h = record { attributes = refl; rows = subst (λ z. (m : Numbers) → HasRow s m ↔ (HasRow part.rows m × Q z m)) e h }

pub kept_twice : (Q R : Numbers → Type 0) (p q r : Relation) → AreKept Q p q → AreKept R q r → AreKept (λ m. Q m × R m) p r
kept_twice Q R p q r h k = record {
  attributes = k.attributes ∙ h.attributes;
  rows = λ m. (
    (λ t. let u = (k.rows m).0 t in let v = (h.rows m).0 u.0 in (v.0, (v.1, u.1))),
    (λ t. (k.rows m).1 ((h.rows m).1 (t.0, t.1.0), t.1.1)),
  );
}

pub united_by : (left right : Relation) (all s : Table) → ((m : Numbers) → HasRow all m ↔ (HasRow left.rows m ⊎ HasRow right.rows m)) → IsDistinct all s → AreUnited left right (record { attributes = left.attributes; rows = s })
united_by left right all s h d = record { attributes = refl; rows = λ m. ((λ t. (h m).0 ((d.same m).0 t)), (λ t. (d.same m).1 ((h m).1 t))) }

-- ---- one row of NULL

pub null_row : (name : Name) (attributes : List (List ℕ)) (t : Table) → OwnsVariable name → attributes ≡ variable_of name ∷ [] → t ≡ record { columns = record { name = variable_of name; numbers = 1 ∷ [] } ∷ []; rows = 1 } →
    IsNullRow name (record { attributes = attributes; rows = t })
null_row name attributes t own e f = record {
  owned = own;
  attributes = e;
  rows = subst (λ (s : Table). (m : Numbers) → HasRow s m ↔ ((m (variable_of name) ≡ 1) × ((x : List ℕ) → variable_of name ≢ x → m x ≡ 0))) (sym f) rows;
}
  where
    one : Table
    one = record { columns = record { name = variable_of name; numbers = 1 ∷ [] } ∷ []; rows = 1 }

    at_name : number_at one.columns 0 (variable_of name) ≡ 1
    at_name = cond-true _ _ _ ((bytes_eq-Decides (variable_of name) (variable_of name)).1 refl)

    at_other : (x : List ℕ) → variable_of name ≢ x → number_at one.columns 0 x ≡ 0
    at_other x n = cond-false _ _ _ (false_from_ne_true _ (λ s. n ((bytes_eq-Decides (variable_of name) x).0 s)))

    first : (i : ℕ) → i < 1 → i ≡ 0
    first i l = omega (arith, l)

    rows : (m : Numbers) → HasRow one m ↔ ((m (variable_of name) ≡ 1) × ((x : List ℕ) → variable_of name ≢ x → m x ≡ 0))
    rows m = (
      (λ h. let e : (x : List ℕ) → m x ≡ number_at one.columns 0 x = λ x. h.2 x ∙ ap (λ i. number_at one.columns i x) (first h.0 h.1) in
          (e (variable_of name) ∙ at_name, λ x n. e x ∙ at_other x n)),
      (λ h. (
        0,
        omega arith,
        λ x. ⊎_elim
            (λ s. ap m (sym s) ∙ h.0 ∙ sym at_name ∙ ap (number_at one.columns 0) s)
            (λ n. h.1 x n ∙ sym (at_other x n))
            (same_or_not (variable_of name) x),
      )),
    )

-- ---- new names

targets_of : (f : List ℕ → List ℕ) (xs : List (List ℕ)) (y : List ℕ) → ¬ IsIn y (map f xs) → is_target (renames f xs) y ≡ false
targets_of f [] y n = refl
targets_of f (x ∷ xs) y n = ap (λ b. b || is_target (renames f xs) y) (false_from_ne_true _ (λ s. n (inl ((bytes_eq-Decides (f x) y).0 s)))) ∙ targets_of f xs y (λ h. n (inr h))

pub targets_apart : (f : List ℕ → List ℕ) (xs : List (List ℕ)) → NoRepeats (map f xs) → AreTargetsApart (renames f xs)
targets_apart f [] once = tt
targets_apart f (x ∷ xs) once = (targets_of f xs (f x) once.0, targets_apart f xs once.1)

pub targets_are : (f : List ℕ → List ℕ) (xs : List (List ℕ)) → map (λ (r : Rename). r.to) (renames f xs) ≡ map f xs
targets_are f [] = refl
targets_are f (x ∷ xs) = ap (λ ys. f x ∷ ys) (targets_are f xs)

pub map_same : (xs : List (List ℕ)) → map (λ x. x) xs ≡ xs
map_same [] = refl
map_same (x ∷ xs) = ap (λ ys. x ∷ ys) (map_same xs)

pub variables_once : (names : List Name) → NoRepeats names → Each OwnsVariable names → NoRepeats (map (λ x. x) (map variable_of names))
variables_once names once owned = subst NoRepeats (sym (map_same (map variable_of names))) (NoRepeats-map variable_of names (λ x y hx hy e. item_from_each OwnsVariable names owned y hy x e) once)

pub moved_by : (xs : List (List ℕ)) (f : List ℕ → List ℕ) (part : Relation) (attributes : List (List ℕ)) (chosen s : Table) (rs : List Rename) → attributes ≡ map f xs → rs ≡ renames f xs →
    ((m : Numbers) → HasRow chosen m ↔ ((i : ℕ) × (i < part.rows.rows) × ((x : List ℕ) → m x ≡ selected rs (number_at part.rows.columns i) x))) → ((m : Numbers) → HasRow s m ↔ HasRow chosen m) →
    AreMoved xs f part (record { attributes = attributes; rows = s })
moved_by xs f part attributes chosen s rs e g h same = record {
  attributes = e;
  rows = λ m. (
    (λ t. let u = (h m).0 ((same m).0 t) in (number_at part.rows.columns u.0, (u.0, u.1, λ x. refl), λ y. u.2 y ∙ ap (λ (qs : List Rename). selected qs (number_at part.rows.columns u.0) y) g)),
    (λ t. let u = t.1 in (same m).1 ((h m).1 (u.0, u.1, λ x. t.2 x ∙ ap (λ (qs : List Rename). selected qs t.0 x) (sym g) ∙ ap (λ (n : Numbers). selected rs n x) (fun_ext u.2)))),
  );
}

pub itself : (s : Table) (m : Numbers) → HasRow s m ↔ HasRow s m
itself s m = ((λ h. h), (λ h. h))
