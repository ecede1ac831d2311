-- What the operators on rows of numbers give, as tuples.
use Rattle.std.proofs.Common.{◌≡◌, ◌≢◌, ◌⊎◌, ◌↔◌, ℕ, zero, suc, List, [], ◌∷◌, Some, None, cond, refl, sym, ap, ◌∙◌, subst, inl, inr, ⊎_elim, map}
use Rattle.std.specs.Str.{bytes_eq}
use Rattle.std.proofs.lemmas.Slice.Eq.{bytes_eq-Decides}
use Rattle.std.proofs.lemmas.Bool.{false_from_ne_true, cond-true, cond-false}
use Rattle.members_dm.specs.Membership.{IsIn, NoRepeats}
use Rattle.members_dm.proofs.MembershipLemmas.{map-IsIn, IsIn-map}
use Rattle.members_dm.proofs.ElementsLemmas.{NoRepeats-map}
use Rattle.value_dm.specs.declared.value.Value.{Value}
use Rattle.table_csv.specs.Cells.{Cell}
use Rattle.schema_dm.specs.Naming.{Name}
use Rattle.names_dm.specs.Variables.{variable_of}
use Rattle.solutions_dm.specs.Columns.{number_at}
use Rattle.solutions_dm.specs.Differences.{IsLeft}
use Rattle.solutions_dm.specs.Merge.{first_bound}
use Rattle.solutions_dm.specs.Selects.{selected}
use Rattle.solutions_dm.specs.Table.{HasRow}
use Rattle.algebra_dm.specs.Tuples.{Tuple, Match, first_of, IsProjection, IsRenamed}
use Rattle.query_rows_dm.specs.Numbers.{AreOneToOne, IsNumber, cell_of}
use Rattle.query_rows_dm.specs.Operators.{IsNullRow, AreKept, AreMoved, renames, renamed, Agree, AreJoined, AreUnited, AreSubtracted}
use Rattle.query_rows_dm.specs.Relations.{Numbers, Reads, OwnsVariable, AreNumbers, IsRelation}
use Rattle.query_rows_dm.specs.declared.relation.Relation.{Relation}
use Rattle.query_rows_dm.proofs.NumberLemmas.{null_number, one_number, value_there}
use Rattle.query_rows_dm.proofs.RowLemmas.{same_or_not, in_or_not, zero_unless, zero_or_not, zero_outside, same_numbers}

-- the tuple of a row
abbrev told : List Value → Numbers → Tuple
told values m a = cell_of values (m (variable_of a))

-- ---- the rows that are kept

module _ (values : List Value) (A : Name → Type 0) (P R : Tuple → Type 0) (Q : Numbers → Type 0) (part r : Relation) (h : IsRelation values A P part) (k : AreKept Q part r)
    (same : (m : Numbers) (w : Tuple) → AreNumbers values part.attributes m → Reads values m w → Q m ↔ R w) where
  pub kept_relation : IsRelation values A (λ w. P w × R w) r
  kept_relation = record {
    some = h.some;
    owned = h.owned;
    attributes = λ x. subst (λ xs. IsIn x xs ↔ ((a : Name) × A a × (variable_of a ≡ x))) (sym k.attributes) (h.attributes x);
    once = subst NoRepeats (sym k.attributes) h.once;
    numbers = λ m row. subst (λ xs. AreNumbers values xs m) (sym k.attributes) (h.numbers m ((k.rows m).0 row).0);
    exact = λ w. (
      (λ t. let kept = (k.rows t.0).0 t.1 in ((h.exact w).0 (t.0, kept.0, t.2), (same t.0 w (h.numbers t.0 kept.0) t.2).0 kept.1)),
      (λ p. let t = (h.exact w).1 p.0 in (t.0, (k.rows t.0).1 (t.1, (same t.0 w (h.numbers t.0 t.1) t.2).1 p.1), t.2)),
    );
  }

-- ---- the rows under new names

module _ (f : List ℕ → List ℕ) (u : Numbers) where
  pub selected_from : (xs : List (List ℕ)) (y : List ℕ) → selected (renames f xs) u y ≢ 0 → (x : List ℕ) × IsIn x xs × (f x ≡ y)
  selected_from [] y n = absurd (n refl)
  selected_from (x ∷ xs) y n = ⊎_elim
      (λ e. (x, inl refl, e))
      (λ k. let r = selected_from xs y (λ z. n (cond-false _ _ _ (false_from_ne_true _ (λ s. k ((bytes_eq-Decides (f x) y).0 s))) ∙ z)) in (r.0, inr r.1, r.2))
      (same_or_not (f x) y)

  pub selected_at : (xs : List (List ℕ)) (x : List ℕ) → NoRepeats (map f xs) → IsIn x xs → selected (renames f xs) u (f x) ≡ u x
  selected_at [] x once h = absurd h
  selected_at (y ∷ ys) x once (inl e) = cond-true _ _ _ ((bytes_eq-Decides (f y) (f x)).1 (ap f e)) ∙ ap u e
  selected_at (y ∷ ys) x once (inr h) =
      cond-false _ _ _ (false_from_ne_true _ (λ s. once.0 (subst (λ z. IsIn z (map f ys)) (sym ((bytes_eq-Decides (f y) (f x)).0 s)) (map-IsIn f x ys h))))
      ∙ selected_at ys x once.1 h

module _ (values : List Value) (variables : List (List ℕ)) (f : List ℕ → List ℕ) (part r : Relation)
    (inside : (x : List ℕ) → IsIn x variables → IsIn x part.attributes) (once : NoRepeats (map f variables)) (k : AreMoved variables f part r) where
  moved_numbers : ((m : Numbers) → HasRow part.rows m → AreNumbers values part.attributes m) → (m : Numbers) → HasRow r.rows m → AreNumbers values r.attributes m
  moved_numbers numbers m row =
      let u = (k.rows m).0 row in
      let e : (y : List ℕ) → m y ≡ selected (renames f variables) u.0 y = u.2 in
      subst (λ xs. AreNumbers values xs m) (sym k.attributes) (record {
        bound = λ y here. (let x = IsIn-map f y variables here in
            subst (IsNumber values) (sym (e y ∙ ap (selected (renames f variables) u.0) (sym x.2) ∙ selected_at f u.0 variables x.0 once x.1)) ((numbers u.0 u.1).bound x.0 (inside x.0 x.1)));
        others = λ y n. (let x = selected_from f u.0 variables y (λ z. n (e y ∙ z)) in subst (λ z. IsIn z (map f variables)) x.2 (map-IsIn f x.0 variables x.1));
      })

-- ---- projections

module _ (values : List Value) (A : Name → Type 0) (P : Tuple → Type 0) (names : List Name) (part r : Relation) (h : IsRelation values A P part)
    (all : (a : Name) → IsIn a names → A a) (one_or_more : (a : Name) × IsIn a names) (once : NoRepeats names) (k : AreMoved (map variable_of names) (λ x. x) part r) where
  abbrev xs : List (List ℕ)
  xs = map variable_of names

  map_same : (ys : List (List ℕ)) → map (λ x. x) ys ≡ ys
  map_same [] = refl
  map_same (y ∷ ys) = ap (λ zs. y ∷ zs) (map_same ys)

  xs_once : NoRepeats xs
  xs_once = NoRepeats-map variable_of names (λ x y hx hy e. h.owned y (all y hy) x e) once

  f_once : NoRepeats (map (λ x. x) xs)
  f_once = subst NoRepeats (sym (map_same xs)) xs_once

  inside : (x : List ℕ) → IsIn x xs → IsIn x part.attributes
  inside x here = let a = IsIn-map variable_of x names here in (h.attributes x).1 (a.0, all a.0 a.1, a.2)

  -- the number of a name in a row that is chosen from another
  in_names : (u m : Numbers) → ((y : List ℕ) → m y ≡ selected (renames (λ x. x) xs) u y) → (a : Name) → IsIn a names → m (variable_of a) ≡ u (variable_of a)
  in_names u m e a here = e (variable_of a) ∙ selected_at (λ x. x) u xs (variable_of a) f_once (map-IsIn variable_of a names here)

  not_in_names : (u m : Numbers) → ((y : List ℕ) → m y ≡ selected (renames (λ x. x) xs) u y) → (a : Name) → ¬ IsIn a names → m (variable_of a) ≡ 0
  not_in_names u m e a out = zero_unless (m (variable_of a)) (λ n.
      let x = selected_from (λ x. x) u xs (variable_of a) (λ z. n (e (variable_of a) ∙ z)) in
      let b = IsIn-map variable_of x.0 names x.1 in
      out (subst (λ z. IsIn z names) (sym (h.owned b.0 (all b.0 b.1) a (sym (b.2 ∙ x.2)))) b.1))

  pub projected_relation : IsRelation values (λ a. IsIn a names) (λ w. (u : Tuple) × P u × IsProjection names u w) r
  projected_relation = record {
    some = one_or_more;
    owned = λ a here. h.owned a (all a here);
    attributes = λ x. subst (λ zs. IsIn x zs ↔ ((a : Name) × IsIn a names × (variable_of a ≡ x))) (sym (k.attributes ∙ map_same xs))
        ((λ here. let a = IsIn-map variable_of x names here in (a.0, a.1, a.2)), (λ a. subst (λ z. IsIn z xs) a.2 (map-IsIn variable_of a.0 names a.1)));
    once = subst NoRepeats (sym k.attributes) f_once;
    numbers = moved_numbers values xs (λ x. x) part r inside f_once k h.numbers;
    exact = λ w. (
      (λ t. let u = (k.rows t.0).0 t.1 in (
        told values u.0,
        (h.exact (told values u.0)).0 (u.0, u.1, λ a. refl),
        record {
          kept = λ a here. t.2 a ∙ ap (cell_of values) (in_names u.0 t.0 u.2 a here);
          others = λ a out. t.2 a ∙ ap (cell_of values) (not_in_names u.0 t.0 u.2 a out);
        },
      )),
      (λ p. let u = (h.exact p.0).1 p.1 in
          let m : Numbers = selected (renames (λ x. x) xs) u.0 in (
            m,
            (k.rows m).1 (u.0, u.1, λ y. refl),
            λ a. ⊎_elim
                (λ here. p.2.kept a here ∙ u.2 a ∙ ap (cell_of values) (sym (in_names u.0 m (λ y. refl) a here)))
                (λ out. p.2.others a out ∙ ap (cell_of values) (sym (not_in_names u.0 m (λ y. refl) a out)))
                (in_or_not a names),
          )),
    );
  }

-- ---- renamings

renamed_old : (from to : List ℕ) → renamed from to from ≡ to
renamed_old from to = cond-true _ _ _ ((bytes_eq-Decides from from).1 refl)

renamed_other : (from to x : List ℕ) → x ≢ from → renamed from to x ≡ x
renamed_other from to x n = cond-false _ _ _ (false_from_ne_true _ (λ s. n ((bytes_eq-Decides x from).0 s)))

module _ (values : List Value) (A : Name → Type 0) (P : Tuple → Type 0) (from to : Name) (part : Relation) (h : IsRelation values A P part) (there : A from) (free : ¬ A to) where
  abbrev vf : List ℕ
  vf = variable_of from

  abbrev vt : List ℕ
  vt = variable_of to

  abbrev f : List ℕ → List ℕ
  f = renamed vf vt

  from_in : IsIn vf part.attributes
  from_in = (h.attributes vf).1 (from, there, refl)

  -- no attribute has the variable of the new name
  not_to : (x : List ℕ) → IsIn x part.attributes → vt ≢ x
  not_to x here e = let a = (h.attributes x).0 here in free (subst A (sym (h.owned a.0 a.1 to (e ∙ sym a.2))) a.1)

  pub renamed_once : NoRepeats (map (renamed (variable_of from) (variable_of to)) part.attributes)
  renamed_once = NoRepeats-map f part.attributes one_to_one h.once
    where
      one_to_one : (x y : List ℕ) → IsIn x part.attributes → IsIn y part.attributes → f x ≡ f y → x ≡ y
      one_to_one x y hx hy e = ⊎_elim
          (λ p. ⊎_elim (λ q. p ∙ sym q) (λ q. absurd (not_to y hy (sym (renamed_old vf vt) ∙ ap f (sym p) ∙ e ∙ renamed_other vf vt y q))) (same_or_not y vf))
          (λ p. ⊎_elim (λ q. absurd (not_to x hx (sym (renamed_old vf vt) ∙ ap f (sym q) ∙ sym e ∙ renamed_other vf vt x p))) (λ q. sym (renamed_other vf vt x p) ∙ e ∙ renamed_other vf vt y q) (same_or_not y vf))
          (same_or_not x vf)

  module _ (r : Relation) (own : OwnsVariable to) (k : AreMoved part.attributes (renamed (variable_of from) (variable_of to)) part r) where
    from_is_not_to : from ≢ to
    from_is_not_to e = free (subst A e there)

    -- which old variable has the new one
    old_of : (x y : List ℕ) → IsIn x part.attributes → f x ≡ y → ((x ≡ vf) × (vt ≡ y)) ⊎ ((x ≢ vf) × (x ≡ y))
    old_of x y hx e = ⊎_elim (λ p. inl (p, sym (renamed_old vf vt) ∙ ap f (sym p) ∙ e)) (λ p. inr (p, sym (renamed_other vf vt x p) ∙ e)) (same_or_not x vf)

    module _ (u m : Numbers) (row : HasRow part.rows u) (e : (y : List ℕ) → m y ≡ selected (renames f part.attributes) u y) where
      at_new : m vt ≡ u vf
      at_new = e vt ∙ ap (selected (renames f part.attributes) u) (sym (renamed_old vf vt)) ∙ selected_at f u part.attributes vf renamed_once from_in

      at_old : m vf ≡ 0
      at_old = zero_unless (m vf) (λ n.
          let x = selected_from f u part.attributes vf (λ z. n (e vf ∙ z)) in
          ⊎_elim (λ p. not_to vf from_in p.1) (λ p. p.0 p.1) (old_of x.0 vf x.1 x.2))

      at_other : (a : Name) → from ≢ a → to ≢ a → m (variable_of a) ≡ u (variable_of a)
      at_other a nf nt = ⊎_elim
          (λ here. e (variable_of a) ∙ ap (selected (renames f part.attributes) u) (sym (renamed_other vf vt (variable_of a) (λ s. nf (sym (h.owned from there a s))))) ∙ selected_at f u part.attributes (variable_of a) renamed_once here)
          (λ out. zero_unless (m (variable_of a)) (λ n.
          let x = selected_from f u part.attributes (variable_of a) (λ z. n (e (variable_of a) ∙ z)) in
          ⊎_elim (λ p. nt (sym (own a (sym p.1)))) (λ p. out (subst (λ z. IsIn z part.attributes) p.1 x.1)) (old_of x.0 (variable_of a) x.1 x.2))
          ∙ sym (zero_outside values part.attributes u (h.numbers u row) (variable_of a) out))
          (in_or_not (variable_of a) part.attributes)

    attributes_are : (x : List ℕ) → IsIn x (map f part.attributes) ↔ ((a : Name) × ((to ≡ a) ⊎ (A a × (from ≢ a))) × (variable_of a ≡ x))
    attributes_are x = (
      (λ here. let y = IsIn-map f x part.attributes here in
          let a = (h.attributes y.0).0 y.1 in
          ⊎_elim (λ p. (to, inl refl, p.1))
          (λ p. (a.0, inr (a.1, λ s. p.0 (sym a.2 ∙ ap variable_of (sym s))), a.2 ∙ p.1))
          (old_of y.0 x y.1 y.2)),
      (λ a. ⊎_elim
          (λ s. subst (λ z. IsIn z (map f part.attributes)) (renamed_old vf vt ∙ ap variable_of s ∙ a.2) (map-IsIn f vf part.attributes from_in))
          (λ p. subst (λ z. IsIn z (map f part.attributes)) (renamed_other vf vt (variable_of a.0) (λ s. p.1 (sym (h.owned from there a.0 s))) ∙ a.2) (map-IsIn f (variable_of a.0) part.attributes ((h.attributes (variable_of a.0)).1 (a.0, p.0, refl))))
          a.1),
    )

    pub renamed_relation : IsRelation values (λ a. (to ≡ a) ⊎ (A a × (from ≢ a))) (λ w. (u : Tuple) × P u × IsRenamed from to u w) r
    renamed_relation = record {
      some = (to, inl refl);
      owned = λ a b. ⊎_elim (λ s. subst OwnsVariable s own) (λ p. h.owned a p.0) b;
      attributes = λ x. subst (λ zs. IsIn x zs ↔ ((a : Name) × ((to ≡ a) ⊎ (A a × (from ≢ a))) × (variable_of a ≡ x))) (sym k.attributes) (attributes_are x);
      once = subst NoRepeats (sym k.attributes) renamed_once;
      numbers = moved_numbers values part.attributes f part r (λ x here. here) renamed_once k h.numbers;
      exact = λ w. (
        (λ t. let u = (k.rows t.0).0 t.1 in (
          told values u.0,
          (h.exact (told values u.0)).0 (u.0, u.1, λ a. refl),
          record {
            new = t.2 to ∙ ap (cell_of values) (at_new u.0 t.0 u.1 u.2);
            old = λ n. t.2 from ∙ ap (cell_of values) (at_old u.0 t.0 u.1 u.2);
            others = λ a nf nt. t.2 a ∙ ap (cell_of values) (at_other u.0 t.0 u.1 u.2 a nf nt);
          },
        )),
        (λ p. let u = (h.exact p.0).1 p.1 in
            let m : Numbers = selected (renames f part.attributes) u.0 in (
              m,
              (k.rows m).1 (u.0, u.1, λ y. refl),
              λ a. ⊎_elim
                  (λ s. ap w (sym s) ∙ p.2.new ∙ u.2 from ∙ ap (cell_of values) (sym (at_new u.0 m u.1 (λ y. refl))) ∙ ap (told values m) s)
                  (λ nt. ⊎_elim
                  (λ s. ap w (sym s) ∙ p.2.old from_is_not_to ∙ ap (cell_of values) (sym (at_old u.0 m u.1 (λ y. refl))) ∙ ap (told values m) s)
                  (λ nf. p.2.others a nf nt ∙ u.2 a ∙ ap (cell_of values) (sym (at_other u.0 m u.1 (λ y. refl) a nf nt)))
                  (same_or_not from a))
                  (same_or_not to a),
            )),
      );
    }

-- ---- two parts

module _ (values : List Value) (one : AreOneToOne values) (A B : Name → Type 0) (P Q : Tuple → Type 0) (left right r : Relation)
    (h : IsRelation values A P left) (k : IsRelation values B Q right) where
  -- what the rows' numbers are under the variable of an attribute
  in_left : (a : Name) → A a → IsIn (variable_of a) left.attributes
  in_left a x = (h.attributes (variable_of a)).1 (a, x, refl)

  in_right : (a : Name) → B a → IsIn (variable_of a) right.attributes
  in_right a x = (k.attributes (variable_of a)).1 (a, x, refl)

  -- ---- joins

  agree_at : (u v : Numbers) → HasRow left.rows u → HasRow right.rows v → Agree left right u v → (x : List ℕ) → IsIn x left.attributes → IsIn x right.attributes →
      (y : Value) × (cell_of values (u x) ≡ Some y) × (cell_of values (v x) ≡ Some y)
  agree_at u v hu hv agree x hl hr =
      let p = (h.numbers u hu).bound x hl in
      let q = (k.numbers v hv).bound x hr in
      let c = value_there values (u x) p (agree.there x hl hr) in
      (c.0, c.1, ap (cell_of values) (sym (agree.same x p.some q.some)) ∙ c.1)

  -- the first of two numbers has the first of two cells
  first_cell : (u v : Numbers) → HasRow left.rows u → HasRow right.rows v → Agree left right u v → (x : List ℕ) →
      cell_of values (first_bound (u x) (v x)) ≡ first_of (cell_of values (u x)) (cell_of values (v x))
  first_cell u v hu hv agree x = ⊎_elim
      (λ z. ap (λ n. cell_of values (first_bound n (v x))) z ∙ sym (ap (λ n. first_of (cell_of values n) (cell_of values (v x))) z))
      (λ n. let hl = (h.numbers u hu).others x n in ⊎_elim
      (λ hr. let c = agree_at u v hu hv agree x hl hr in bound (u x) (v x) c.0 n c.1)
      (λ out. unbound (u x) (v x) n (zero_outside values right.attributes v (k.numbers v hv) x out))
      (in_or_not x right.attributes))
      (zero_or_not (u x))
    where
      bound : (a b : ℕ) (y : Value) → a ≢ 0 → cell_of values a ≡ Some y → cell_of values (first_bound a b) ≡ first_of (cell_of values a) (cell_of values b)
      bound zero b y n e = absurd (n refl)
      bound (suc a) b y n e = e ∙ sym (ap (λ c. first_of c (cell_of values b)) e)

      first_none : (c : Cell) → c ≡ first_of c None
      first_none None = refl
      first_none (Some y) = refl

      unbound : (a b : ℕ) → a ≢ 0 → b ≡ 0 → cell_of values (first_bound a b) ≡ first_of (cell_of values a) (cell_of values b)
      unbound zero b n z = absurd (n refl)
      unbound (suc a) b n z = first_none (cell_of values (suc a)) ∙ sym (ap (λ n. first_of (cell_of values (suc a)) (cell_of values n)) z)

  -- tuples that match have rows that agree
  match_agree : (u v : Numbers) (s t : Tuple) → HasRow left.rows u → HasRow right.rows v → Reads values u s → Reads values v t → Match A B s t → Agree left right u v
  match_agree u v s t hu hv ru rv match = record {
    there = λ x hl hr. (let c = both x hl hr in λ e. some_none c.0 (sym c.1 ∙ ap (cell_of values) e));
    same = λ x nu nv. (let hl = (h.numbers u hu).others x nu in
        let hr = (k.numbers v hv).others x nv in
        let c = both x hl hr in
        one_number values one (u x) (v x) ((h.numbers u hu).bound x hl) ((k.numbers v hv).bound x hr) (c.1 ∙ sym c.2));
  }
    where
      some_none : (y : Value) → Some y ≡ None → ⊥
      some_none y e = cc e

      both : (x : List ℕ) → IsIn x left.attributes → IsIn x right.attributes → (y : Value) × (cell_of values (u x) ≡ Some y) × (cell_of values (v x) ≡ Some y)
      both x hl hr =
          let a = (h.attributes x).0 hl in
          let b = (k.attributes x).0 hr in
          let same : b.0 ≡ a.0 = h.owned a.0 a.1 b.0 (b.2 ∙ sym a.2) in
          let c = match a.0 a.1 (subst B same b.1) in
          (c.0, ap (λ z. cell_of values (u z)) (sym a.2) ∙ sym (ru a.0) ∙ c.1, ap (λ z. cell_of values (v z)) (sym a.2) ∙ sym (rv a.0) ∙ c.2)

  pub joined_relation : AreJoined left right r → IsRelation values (λ a. A a ⊎ B a) (λ w. (u v : Tuple) × P u × Q v × Match A B u v × ((a : Name) → w a ≡ first_of (u a) (v a))) r
  joined_relation j = record {
    some = (h.some.0, inl h.some.1);
    owned = λ a b. ⊎_elim (λ x. h.owned a x) (λ x. k.owned a x) b;
    attributes = λ x. (
      (λ here. ⊎_elim (λ l. let a = (h.attributes x).0 l in (a.0, inl a.1, a.2)) (λ l. let a = (k.attributes x).0 l in (a.0, inr a.1, a.2)) ((j.attributes.either x).0 here)),
      (λ a. (j.attributes.either x).1 (⊎_elim (λ y. inl ((h.attributes x).1 (a.0, y, a.2))) (λ y. inr ((k.attributes x).1 (a.0, y, a.2))) a.1)),
    );
    once = j.attributes.once h.once k.once;
    numbers = λ m row. (let p = (j.rows m).0 row in numbers_of p.0 p.1 m p.2 p.3 p.5);
    exact = λ w. (
      (λ t. let p = (j.rows t.0).0 t.1 in (
        told values p.0,
        told values p.1,
        (h.exact (told values p.0)).0 (p.0, p.2, λ a. refl),
        (k.exact (told values p.1)).0 (p.1, p.3, λ a. refl),
        (λ a x y. agree_at p.0 p.1 p.2 p.3 p.4 (variable_of a) (in_left a x) (in_right a y)),
        (λ a. t.2 a ∙ ap (cell_of values) (p.5 (variable_of a)) ∙ first_cell p.0 p.1 p.2 p.3 p.4 (variable_of a)),
      )),
      (λ p. let u = (h.exact p.0).1 p.2 in
          let v = (k.exact p.1).1 p.3 in
          let agree = match_agree u.0 v.0 p.0 p.1 u.1 v.1 u.2 v.2 p.4 in
          let m : Numbers = λ x. first_bound (u.0 x) (v.0 x) in (
            m,
            (j.rows m).1 (u.0, v.0, u.1, v.1, agree, λ x. refl),
            (λ a. p.5 a ∙ (λ i. first_of (u.2 a i) (v.2 a i)) ∙ sym (first_cell u.0 v.0 u.1 v.1 agree (variable_of a))),
          )),
    );
  }
    where
      numbers_of : (u v m : Numbers) → HasRow left.rows u → HasRow right.rows v → ((x : List ℕ) → m x ≡ first_bound (u x) (v x)) → AreNumbers values r.attributes m
      numbers_of u v m hu hv e = record {
        bound = λ x here. ⊎_elim (λ l. from_left x ((h.numbers u hu).bound x l)) (λ l. from_right x ((k.numbers v hv).bound x l)) ((j.attributes.either x).0 here);
        others = λ x n. (j.attributes.either x).1 (⊎_elim (λ z. inr ((k.numbers v hv).others x (λ y. n (e x ∙ ap (λ b. first_bound b (v x)) z ∙ y)))) (λ y. inl ((h.numbers u hu).others x y)) (zero_or_not (u x)));
      }
        where
          first_there : (a b : ℕ) → IsNumber values a → IsNumber values (first_bound a b)
          first_there zero b p = absurd (p.some refl)
          first_there (suc a) b p = p

          from_left : (x : List ℕ) → IsNumber values (u x) → IsNumber values (m x)
          from_left x p = subst (IsNumber values) (sym (e x)) (first_there (u x) (v x) p)

          from_right : (x : List ℕ) → IsNumber values (v x) → IsNumber values (m x)
          from_right x p = ⊎_elim
              (λ z. subst (IsNumber values) (sym (e x ∙ ap (λ b. first_bound b (v x)) z)) p)
              (λ n. from_left x ((h.numbers u hu).bound x ((h.numbers u hu).others x n)))
              (zero_or_not (u x))

  -- ---- unions and differences

  module _ (same : (a : Name) → A a ↔ B a) where
    same_attributes : (x : List ℕ) → IsIn x right.attributes ↔ IsIn x left.attributes
    same_attributes x = (
      (λ here. let a = (k.attributes x).0 here in (h.attributes x).1 (a.0, (same a.0).1 a.1, a.2)),
      (λ here. let a = (h.attributes x).0 here in (k.attributes x).1 (a.0, (same a.0).0 a.1, a.2)),
    )

    right_numbers : (m : Numbers) → HasRow right.rows m → AreNumbers values left.attributes m
    right_numbers m row = let n = k.numbers m row in record { bound = λ x here. n.bound x ((same_attributes x).1 here); others = λ x y. (same_attributes x).0 (n.others x y) }

    pub united_relation : AreUnited left right r → IsRelation values A (λ w. P w ⊎ Q w) r
    united_relation j = record {
      some = h.some;
      owned = h.owned;
      attributes = λ x. subst (λ xs. IsIn x xs ↔ ((a : Name) × A a × (variable_of a ≡ x))) (sym j.attributes) (h.attributes x);
      once = subst NoRepeats (sym j.attributes) h.once;
      numbers = λ m row. subst (λ xs. AreNumbers values xs m) (sym j.attributes) (⊎_elim (λ l. h.numbers m l) (λ l. right_numbers m l) ((j.rows m).0 row));
      exact = λ w. (
        (λ t. ⊎_elim (λ l. inl ((h.exact w).0 (t.0, l, t.2))) (λ l. inr ((k.exact w).0 (t.0, l, t.2))) ((j.rows t.0).0 t.1)),
        (λ p. ⊎_elim (λ l. let t = (h.exact w).1 l in (t.0, (j.rows t.0).1 (inl t.1), t.2)) (λ l. let t = (k.exact w).1 l in (t.0, (j.rows t.0).1 (inr t.1), t.2)) p),
      );
    }

    -- no row of right reads the tuple
    no_other : (m : Numbers) (w : Tuple) → HasRow left.rows m → Reads values m w → IsLeft right.rows m → ¬ Q w
    no_other m w row reads left_over q =
        let t = (k.exact w).1 q in
        let e : (x : List ℕ) → m x ≡ t.0 x = same_numbers values left.attributes one w m t.0 (h.numbers m row) (right_numbers t.0 t.1) (λ x here. let a = (h.attributes x).0 here in (a.0, a.2)) reads t.2 in
        let x = variable_of h.some.0 in
        let here = in_left h.some.0 h.some.1 in
        ⊎_elim (λ z. ((h.numbers m row).bound x here).some z) (λ z. ((h.numbers m row).bound x here).some (e x ∙ t.1.2 x ∙ z))
        (left_over t.1.0 t.1.1 (λ x p q. e x ∙ t.1.2 x) x)

    left_over : (m : Numbers) (w : Tuple) → HasRow left.rows m → Reads values m w → ¬ Q w → IsLeft right.rows m
    left_over m w row reads n j l agree x = absurd (n ((k.exact w).0 (number_at right.rows.columns j, (j, l, λ y. refl), λ a. reads a ∙ ap (cell_of values) (same_at (variable_of a)))))
      where
        rn : AreNumbers values left.attributes (number_at right.rows.columns j)
        rn = right_numbers (number_at right.rows.columns j) (j, l, λ y. refl)

        same_at : (y : List ℕ) → m y ≡ number_at right.rows.columns j y
        same_at y = ⊎_elim
            (λ here. agree y ((h.numbers m row).bound y here).some (rn.bound y here).some)
            (λ out. zero_outside values left.attributes m (h.numbers m row) y out ∙ sym (zero_outside values left.attributes (number_at right.rows.columns j) rn y out))
            (in_or_not y left.attributes)

    pub subtracted_relation : AreSubtracted left right r → IsRelation values A (λ w. P w × (¬ Q w)) r
    subtracted_relation j = record {
      some = h.some;
      owned = h.owned;
      attributes = λ x. subst (λ xs. IsIn x xs ↔ ((a : Name) × A a × (variable_of a ≡ x))) (sym j.attributes) (h.attributes x);
      once = subst NoRepeats (sym j.attributes) h.once;
      numbers = λ m row. subst (λ xs. AreNumbers values xs m) (sym j.attributes) (h.numbers m ((j.rows m).0 row).0);
      exact = λ w. (
        (λ t. let l = (j.rows t.0).0 t.1 in ((h.exact w).0 (t.0, l.0, t.2), no_other t.0 w l.0 t.2 l.1)),
        (λ p. let t = (h.exact w).1 p.0 in (t.0, (j.rows t.0).1 (t.1, left_over t.0 w t.1 t.2 p.1), t.2)),
      );
    }

-- ---- one attribute with NULL

pub null_relation : (values : List Value) (name : Name) (r : Relation) → IsNullRow name r → IsRelation values (λ a. name ≡ a) (λ w. (a : Name) → w a ≡ None) r
null_relation values name r h = record {
  some = (name, refl);
  owned = λ a e. subst OwnsVariable e h.owned;
  attributes = λ x. subst (λ xs. IsIn x xs ↔ ((a : Name) × (name ≡ a) × (variable_of a ≡ x))) (sym h.attributes)
      ((λ here. ⊎_elim (λ e. (name, refl, e)) (λ k. absurd k) here), (λ a. inl (ap variable_of a.1 ∙ a.2)));
  once = subst NoRepeats (sym h.attributes) ((λ k. k), tt);
  numbers = λ m row. (let k = (h.rows m).0 row in subst (λ xs. AreNumbers values xs m) (sym h.attributes) (record {
    bound = λ x here. ⊎_elim (λ e. subst (λ y. IsNumber values (m y)) e (subst (IsNumber values) (sym k.0) (null_number values).number)) (λ z. absurd z) here;
    others = λ x n. ⊎_elim (λ e. inl e) (λ z. absurd (n (k.1 x z))) (same_or_not (variable_of name) x);
  }));
  exact = λ w. (
    (λ t a. t.2 a ∙ null_cell t.0 a ((h.rows t.0).0 t.1)),
    (λ n. let m : Numbers = one_null in (m, (h.rows m).1 (at_name, at_others), λ a. n a ∙ sym (null_cell m a (at_name, at_others)))),
  );
}
  where
    one_null : Numbers
    one_null x = cond (bytes_eq (variable_of name) x) 1 0

    at_name : one_null (variable_of name) ≡ 1
    at_name = cond-true _ _ _ ((bytes_eq-Decides (variable_of name) (variable_of name)).1 refl)

    at_others : (x : List ℕ) → variable_of name ≢ x → one_null x ≡ 0
    at_others x n = cond-false _ _ _ (false_from_ne_true _ (λ s. n ((bytes_eq-Decides (variable_of name) x).0 s)))

    null_cell : (m : Numbers) (a : Name) → (m (variable_of name) ≡ 1) × ((x : List ℕ) → variable_of name ≢ x → m x ≡ 0) → cell_of values (m (variable_of a)) ≡ None
    null_cell m a k = ⊎_elim
        (λ e. ap (cell_of values) (ap m (sym e) ∙ k.0))
        (λ z. ap (cell_of values) (k.1 (variable_of a) z))
        (same_or_not (variable_of name) (variable_of a))
