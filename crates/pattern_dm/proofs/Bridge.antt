-- Rows of numbers and the mappings to terms that they stand for.
use Rattle.std.proofs.Common.{◌≡◌, ◌≢◌, ◌<◌, ◌≤◌, ℕ, zero, suc, List, [], ◌∷◌, Option, Some, None, length, slice_get, refl, sym, ap, ◌∙◌, subst, arith, Bool, true, false, cond}
use Rattle.std.proofs.Math.Path.{fun_ext}
use Rattle.std.specs.Str.{bytes_eq}
use Rattle.names_dm.specs.declared.term.Term.{Term}
use Rattle.solutions_dm.specs.declared.selects.Rename.{Rename}
use Rattle.solutions_dm.specs.Columns.{SameIfBound}
use Rattle.solutions_dm.specs.Merge.{first_bound}
use Rattle.solutions_dm.specs.Selects.{selected}
use Rattle.solutions_dm.specs.Table.{Table, HasRow}
use Rattle.store_dm.specs.Terms.{AreOneToOne, term_at}
use Rattle.pattern_dm.specs.Mappings.{Mapping, SameIfBoth, first_of}
use Rattle.pattern_dm.specs.Operators.{renamed}
use Rattle.pattern_dm.specs.Solved.{AreNumbers, HasSolution}

there : {A : Type 0} (xs : List A) (k : ℕ) → k < length xs → (x : A) × (slice_get xs k ≡ Some x)
there [] k l = absurd (omega arith)
there (x ∷ xs) zero l = (x, refl)
there (x ∷ xs) (suc k) l = there xs k (omega arith)

within : {A : Type 0} (xs : List A) (k : ℕ) (x : A) → slice_get xs k ≡ Some x → k < length xs
within [] k x e = absurd (cc e)
within (y ∷ ys) zero x e = omega arith
within (y ∷ ys) (suc k) x e = let l = within ys k x e in omega arith

right_none : (o : Option Term) → SameIfBoth o None
right_none None = tt
right_none (Some t) = tt

same_self : (o : Option Term) → SameIfBoth o o
same_self None = tt
same_self (Some t) = refl

-- two that are one where they are both there, of which one is
both_there : (a b : Term) (p q : Option Term) → p ≡ Some a → q ≡ Some b → SameIfBoth p q → a ≡ b
both_there a b p q e f h = subst (λ o. SameIfBoth o (Some b)) e (subst (SameIfBoth p) f h)

module _ (terms : List Term) where
  -- a number that isn't 0 is a term's
  pub term_of_number : (a : ℕ) → a ≤ length terms → a ≢ 0 → (t : Term) × (term_at terms a ≡ Some t)
  term_of_number zero l n = absurd (n refl)
  term_of_number (suc k) l n = there terms k (omega arith)

  pub number_not_zero : (a : ℕ) (t : Term) → term_at terms a ≡ Some t → a ≢ 0
  number_not_zero zero t e = absurd (cc e)
  number_not_zero (suc k) t e = λ z. omega (arith, z)

  pub none_is_zero : (a : ℕ) → a ≤ length terms → term_at terms a ≡ None → a ≡ 0
  none_is_zero zero l e = refl
  none_is_zero (suc k) l e = let x = there terms k (omega arith) in absurd (some_none x.0 (sym x.1 ∙ e))
    where
      some_none : (t : Term) → Some t ≡ None → ⊥
      some_none t e = cc e

  pub one_number : AreOneToOne terms → (a b : ℕ) (t : Term) → term_at terms a ≡ Some t → term_at terms b ≡ Some t → a ≡ b
  one_number d zero b t e f = absurd (cc e)
  one_number d (suc a) zero t e f = absurd (cc f)
  one_number d (suc a) (suc b) t e f = ap suc (d a b (within terms a t e) (e ∙ sym f))

  pub same_number : AreOneToOne terms → (a b : ℕ) → a ≤ length terms → b ≤ length terms → term_at terms a ≡ term_at terms b → a ≡ b
  same_number d zero zero l k e = refl
  same_number d zero (suc b) l k e = let x = term_of_number (suc b) k (λ z. omega (arith, z)) in absurd (number_not_zero zero x.0 (e ∙ x.1) refl)
  same_number d (suc a) b l k e = let x = term_of_number (suc a) l (λ z. omega (arith, z)) in one_number d (suc a) b x.0 x.1 (sym e ∙ x.1)

  pub to_terms : (a b : ℕ) → SameIfBound a b → SameIfBoth (term_at terms a) (term_at terms b)
  to_terms zero b h = tt
  to_terms (suc a) zero h = right_none (slice_get terms a)
  to_terms (suc a) (suc b) h =
      let e : suc a ≡ suc b = h (λ e. omega (arith, e)) (λ e. omega (arith, e)) in
      subst (λ n. SameIfBoth (term_at terms (suc a)) (term_at terms n)) e (same_self (term_at terms (suc a)))

  pub from_terms : AreOneToOne terms → (a b : ℕ) → a ≤ length terms → b ≤ length terms → SameIfBoth (term_at terms a) (term_at terms b) → SameIfBound a b
  from_terms d a b l k h = λ p q.
      let x = term_of_number a l p in
      let y = term_of_number b k q in
      one_number d a b y.0 (x.1 ∙ ap Some (both_there x.0 y.0 _ _ x.1 y.1 h)) y.1

  pub union_at : (a b : ℕ) → a ≤ length terms → term_at terms (first_bound a b) ≡ first_of (term_at terms a) (term_at terms b)
  union_at zero b l = refl
  union_at (suc a) b l = let x = there terms a (omega arith) in x.1 ∙ sym (ap (λ o. first_of o (term_at terms b)) x.1)

  pub renamed_at : (rs : List Rename) (n : List ℕ → ℕ) (x : List ℕ) → term_at terms (selected rs n x) ≡ renamed rs (λ y. term_at terms (n y)) x
  renamed_at [] n x = refl
  renamed_at (r ∷ rs) n x = go (bytes_eq r.to x) (renamed_at rs n x)
    where
      go : (b : Bool) → term_at terms (selected rs n x) ≡ renamed rs (λ y. term_at terms (n y)) x →
          term_at terms (cond b (n r.from) (selected rs n x)) ≡ cond b (term_at terms (n r.from)) (renamed rs (λ y. term_at terms (n y)) x)
      go true e = refl
      go false e = e

  -- a row of numbers is a solution
  pub row_solution : (s : Table) (n : List ℕ → ℕ) (m : Mapping) → HasRow s n → ((x : List ℕ) → m x ≡ term_at terms (n x)) → HasSolution terms s m
  row_solution s n m h e = (h.0, h.1, λ x. e x ∙ ap (term_at terms) (h.2 x))

  pub row_within : (s : Table) (n : List ℕ → ℕ) → AreNumbers terms s → HasRow s n → (x : List ℕ) → n x ≤ length terms
  row_within s n k h x = subst (λ a. a ≤ length terms) (sym (h.2 x)) (k h.0 x h.1)

pub same_mapping : {A : Type 0} (m n : List ℕ → A) → ((x : List ℕ) → m x ≡ n x) → m ≡ n
same_mapping m n e = fun_ext e
