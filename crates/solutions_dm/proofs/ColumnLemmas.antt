-- One column after another, and what the test says.
use denote.Ref.{Bor}
use Rattle.std.proofs.Common.{Option, Some, None, ◌≡◌, ℕ, ◌≤◌, List, [], ◌∷◌, length, get_or, drop, take, take_all, ◌-◌, Bool, true, false, cond, ◌||◌, refl, sym, ap, ◌∙◌, subst, arith, ⊎_elim}
use Rattle.std.specs.Prelude.{slice_index, ◌==◌}
use Rattle.std.specs.Str.{bytes_eq}
use Rattle.std.proofs.lemmas.Slice.Eq.{bytes_eq-Decides}
use Rattle.std.proofs.lemmas.Bool.{cond-true, cond-false, false_from_ne_true, and_parts, and_from, or_cases, or_right, or_parts, both_ways, eqb-true, eq-eqb}
use Rattle.solutions_dm.specs.declared.columns.Column.{Column}
use Rattle.solutions_dm.specs.Columns.{number_at, has_column, AreApart, IsColumnOf, SameIfBound, Compatible, same_if_bound, compatible}

-- a list with a first element
pub opened : {A : Type 0} (x : A) (xs : List A) → 1 ≤ length xs → x ≡ get_or xs 0 x → xs ≡ x ∷ take (length xs - 1) (drop 1 xs)
opened x [] l e = absurd (omega arith)
opened x (y ∷ xs) l e = λ i. sym e i ∷ sym (take_all (length (y ∷ xs) - 1) xs (omega arith)) i

pub number_at_rest : (c : Column) (cs : List Column) (i : ℕ) (x : List ℕ) → 1 ≤ length cs → c ≡ get_or cs 0 c → (c.name ≡ x → ⊥) → number_at (take (length cs - 1) (drop 1 cs)) i x ≡ number_at cs i x
number_at_rest c cs i x l e n =
    sym (ap (λ ds. number_at ds i x) (opened c cs l e) ∙ cond-false _ _ _ (false_from_ne_true _ (λ s. n ((bytes_eq-Decides c.name x).0 s))))

-- a variable with no column is unbound
pub number_at_none : (cs : List Column) (i : ℕ) (x : List ℕ) → has_column cs x ≡ false → number_at cs i x ≡ 0
number_at_none [] i x e = refl
number_at_none (c ∷ cs) i x e = let p = or_parts (bytes_eq c.name x) (has_column cs x) e in cond-false _ _ _ p.0 ∙ number_at_none cs i x p.1

same_if_bound-true : (a b : ℕ) → same_if_bound a b ≡ true → SameIfBound a b
same_if_bound-true a b e p q = ⊎_elim
    (λ s. absurd (p (eqb-true a 0 s)))
    (λ s. ⊎_elim (λ s. absurd (q (eqb-true b 0 s))) (λ s. eqb-true a b s) (or_cases (b == 0) (a == b) s))
    (or_cases (a == 0) _ e)

true-same_if_bound : (a b : ℕ) → SameIfBound a b → same_if_bound a b ≡ true
true-same_if_bound a b h = go (a == 0) (b == 0) refl refl
  where
    go : (x y : Bool) → (a == 0) ≡ x → (b == 0) ≡ y → (x || (y || (a == b))) ≡ true
    go true y e f = refl
    go false true e f = refl
    go false false e f = eq-eqb a b (h (λ z. both_ways _ e (eq-eqb a 0 z)) (λ z. both_ways _ f (eq-eqb b 0 z)))

pub compatible-true : (left : List Column) (i : ℕ) (right : List Column) (j : ℕ) → compatible left i right j ≡ true → Compatible left i right j
compatible-true [] i right j e = λ x p q. absurd (p refl)
compatible-true (c ∷ cs) i right j e = λ x.
    let k = and_parts (same_if_bound (slice_index c.numbers i) (number_at right j c.name)) (compatible cs i right j) e in
    let rest = compatible-true cs i right j k.1 x in
    go x (bytes_eq c.name x) refl (same_if_bound-true _ _ k.0) rest
  where
    go : (x : List ℕ) (b : Bool) → bytes_eq c.name x ≡ b → SameIfBound (slice_index c.numbers i) (number_at right j c.name) → SameIfBound (number_at cs i x) (number_at right j x) →
        SameIfBound (cond b (slice_index c.numbers i) (number_at cs i x)) (number_at right j x)
    go x true s first rest = subst (λ y. SameIfBound (slice_index c.numbers i) (number_at right j y)) ((bytes_eq-Decides c.name x).0 s) first
    go x false s first rest = rest

pub true-compatible : (left : List Column) (i : ℕ) (right : List Column) (j : ℕ) → AreApart left → Compatible left i right j → compatible left i right j ≡ true
true-compatible [] i right j apart h = refl
true-compatible (c ∷ cs) i right j apart h = and_from _ _
    (true-same_if_bound _ _ (subst (λ n. SameIfBound n (number_at right j c.name)) (cond-true _ _ _ ((bytes_eq-Decides c.name c.name).1 refl)) (h c.name)))
    (true-compatible cs i right j apart.1 (λ x. go x (bytes_eq c.name x) refl (h x)))
  where
    go : (x : List ℕ) (b : Bool) → bytes_eq c.name x ≡ b → SameIfBound (cond b (slice_index c.numbers i) (number_at cs i x)) (number_at right j x) → SameIfBound (number_at cs i x) (number_at right j x)
    go x true s k = λ p q. absurd (p (number_at_none cs i x (ap (has_column cs) (sym ((bytes_eq-Decides c.name x).0 s)) ∙ apart.0)))
    go x false s k = k

IsColumnOf-later : (c : Column) (ds : List Column) (x : List ℕ) (r : Option (Bor (List ℕ))) → (c.name ≡ x → ⊥) → IsColumnOf ds x r → IsColumnOf (c ∷ ds) x r
IsColumnOf-later c ds x None n h = ap (λ b. b || has_column ds x) (other c x n) ∙ h
  where
    other : (c : Column) (x : List ℕ) → (c.name ≡ x → ⊥) → bytes_eq c.name x ≡ false
    other c x n = false_from_ne_true _ (λ s. n ((bytes_eq-Decides c.name x).0 s))
IsColumnOf-later c ds x (Some numbers) n h = (
  or_right (bytes_eq c.name x) (has_column ds x) h.0,
  (λ m filled.
      ((h.1 m filled.1).0, (λ i. cond-false _ _ _ (false_from_ne_true _ (λ s. n ((bytes_eq-Decides c.name x).0 s))) ∙ (h.1 m filled.1).1 i))),
)

pub IsColumnOf-rest : (c : Column) (cs : List Column) (x : List ℕ) (r : Option (Bor (List ℕ))) → 1 ≤ length cs → c ≡ get_or cs 0 c → (c.name ≡ x → ⊥) →
    IsColumnOf (take (length cs - 1) (drop 1 cs)) x r → IsColumnOf cs x r
IsColumnOf-rest c cs x r l e n h = subst (λ ds. IsColumnOf ds x r) (sym (opened c cs l e)) (IsColumnOf-later c (take (length cs - 1) (drop 1 cs)) x r n h)
