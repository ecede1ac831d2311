-- The rows of triples that agree with three slots.
use Rattle.std.proofs.Common.{◌≡◌, ◌≢◌, ℕ, ◌<◌, List, [], ◌∷◌, ◌++◌, length, get_or, slice_index, Bool, true, false, not, cond, ◌||◌, ◌&&◌, refl, sym, ap, ◌∙◌, subst, arith, ⊎_elim, ◌⊎◌, inl, inr, AllPairs, Contains, ◌↔◌, map, filter, append-nil}
use Rattle.std.specs.Str.{bytes_eq}
use Rattle.std.proofs.lemmas.Slice.Eq.{bytes_eq-Decides}
use Rattle.std.proofs.lemmas.Bool.{both_ways, or_parts, and_parts, and_from, cond-true, cond-false, eqb-true, eq-eqb, false_from_ne_true}
use Rattle.std.proofs.lemmas.List.{get_or-map, get_or_default, length-map}
use Rattle.std.proofs.lemmas.List.Elements.{All-contains, All-contains_itself, All-filter, filter_passes}
use Rattle.std.proofs.lemmas.List.Kept.{AllPairs-filter}
use Rattle.solutions_dm.specs.declared.columns.Column.{Column}
use Rattle.solutions_dm.specs.Columns.{number_at, has_column, AreApart, HaveRows}
use Rattle.solutions_dm.specs.Table.{IsTable, HasRow}
use Rattle.solutions_dm.proofs.ListLemmas.{Contains-filter}
use Rattle.store_dm.specs.declared.matches.Beginning.TheVariants.{Subject, Predicate, Object}
use Rattle.store_dm.specs.declared.slots.Slot.{Slot}
use Rattle.store_dm.specs.declared.slots.Slot.TheVariants.{Var, Fixed, Missing}
use Rattle.store_dm.specs.Graphs.{GraphValue}
use Rattle.store_dm.specs.Triads.{Fits, FitsAll}
use Rattle.store_dm.specs.Slots.{Has, IsVariable, BindsNoOther, IsTripleRow, AreOnce, IsBound, is_missing, is_variable, is_same_variable, sought, agrees, part_of, slot_column, slot_columns}

-- ---- slots

pub variable_is : (s : Slot) (x : List ℕ) → is_variable s x ≡ true → IsVariable s x
variable_is (Var y) x e = (bytes_eq-Decides y x).0 e
variable_is (Fixed k) x e = cc e
variable_is Missing x e = cc e

pub is_the_variable : (s : Slot) (x : List ℕ) → IsVariable s x → is_variable s x ≡ true
is_the_variable (Var y) x e = (bytes_eq-Decides y x).1 e
is_the_variable (Fixed k) x e = absurd e
is_the_variable Missing x e = absurd e

pub no_variable : (s : Slot) (x : List ℕ) → is_variable s x ≡ false → IsVariable s x → ⊥
no_variable s x e v = both_ways _ e (is_the_variable s x v)

-- a slot has one number
pub has_one : (s : Slot) (m : List ℕ → ℕ) (a b : ℕ) → Has s m a → Has s m b → a ≡ b
has_one (Var x) m a b h k = sym h ∙ k
has_one (Fixed n) m a b h k = sym h ∙ k
has_one Missing m a b h k = absurd h

has_at : (s : Slot) (m : List ℕ → ℕ) (a : ℕ) (x : List ℕ) → Has s m a → IsVariable s x → m x ≡ a
has_at (Var y) m a x h e = ap m (sym e) ∙ h
has_at (Fixed k) m a x h e = absurd e
has_at Missing m a x h e = absurd e

has_along : (s : Slot) (m n : List ℕ → ℕ) (a : ℕ) → ((x : List ℕ) → m x ≡ n x) → Has s n a → Has s m a
has_along (Var x) m n a e h = e x ∙ h
has_along (Fixed k) m n a e h = h
has_along Missing m n a e h = absurd h

has_from : (s : Slot) (m : List ℕ → ℕ) (a : ℕ) → is_missing s ≡ false → IsBound s → Fits (sought s) a → ((x : List ℕ) → IsVariable s x → m x ≡ a) → Has s m a
has_from (Var x) m a e b f h = h x refl
has_from (Fixed k) m a e b f h = ⊎_elim (λ z. absurd (b z)) (λ k. k) f
has_from Missing m a e b f h = cc e

has_fits : (s : Slot) (m : List ℕ → ℕ) (a : ℕ) → Has s m a → Fits (sought s) a
has_fits (Var x) m a h = inl refl
has_fits (Fixed k) m a h = inr h
has_fits Missing m a h = absurd h

-- two slots that are one variable
same_numbers : (s p : Slot) (m : List ℕ → ℕ) (a b : ℕ) → Has s m a → Has p m b → is_same_variable s p ≡ true → a ≡ b
same_numbers s (Var y) m a b h k e = sym (has_at s m a y h (variable_is s y e)) ∙ k
same_numbers s (Fixed n) m a b h k e = cc e
same_numbers s Missing m a b h k e = cc e

-- a mapping is determined by the numbers of the slots
one_mapping : (s p o : Slot) (m n : List ℕ → ℕ) (a b c : ℕ) → Has s m a → Has p m b → Has o m c → BindsNoOther s p o m → Has s n a → Has p n b → Has o n c → BindsNoOther s p o n → (x : List ℕ) → m x ≡ n x
one_mapping s p o m n a b c hs hp ho hx ks kp ko kx x = go (is_variable s x) (is_variable p x) (is_variable o x) refl refl refl
  where
    go : (u v w : Bool) → is_variable s x ≡ u → is_variable p x ≡ v → is_variable o x ≡ w → m x ≡ n x
    go true v w e f g = has_at s m a x hs (variable_is s x e) ∙ sym (has_at s n a x ks (variable_is s x e))
    go false true w e f g = has_at p m b x hp (variable_is p x f) ∙ sym (has_at p n b x kp (variable_is p x f))
    go false false true e f g = has_at o m c x ho (variable_is o x g) ∙ sym (has_at o n c x ko (variable_is o x g))
    go false false false e f g = hx x (no_variable s x e) (no_variable p x f) (no_variable o x g) ∙ sym (kx x (no_variable s x e) (no_variable p x f) (no_variable o x g))

-- ---- columns one after another

has_column_append : (cs ds : List Column) (x : List ℕ) → has_column (cs ++ ds) x ≡ (has_column cs x || has_column ds x)
has_column_append [] ds x = refl
has_column_append (c ∷ cs) ds x = ap (λ b. bytes_eq c.name x || b) (has_column_append cs ds x) ∙ sym (or_assoc (bytes_eq c.name x) (has_column cs x) (has_column ds x))
  where
    or_assoc : (a b c : Bool) → ((a || b) || c) ≡ (a || (b || c))
    or_assoc true b c = refl
    or_assoc false b c = refl

number_at_append : (cs ds : List Column) (i : ℕ) (x : List ℕ) → number_at (cs ++ ds) i x ≡ cond (has_column cs x) (number_at cs i x) (number_at ds i x)
number_at_append [] ds i x = refl
number_at_append (c ∷ cs) ds i x = go (bytes_eq c.name x) (number_at_append cs ds i x)
  where
    go : (b : Bool) → number_at (cs ++ ds) i x ≡ cond (has_column cs x) (number_at cs i x) (number_at ds i x) →
        cond b (slice_index c.numbers i) (number_at (cs ++ ds) i x) ≡ cond (b || has_column cs x) (cond b (slice_index c.numbers i) (number_at cs i x)) (number_at ds i x)
    go true e = refl
    go false e = e

apart_push : (cs : List Column) (c : Column) → AreApart cs → has_column cs c.name ≡ false → AreApart (cs ++ c ∷ [])
apart_push [] c h e = (refl, tt)
apart_push (d ∷ ds) c h e =
    let k = or_parts (bytes_eq d.name c.name) (has_column ds c.name) e in (
      has_column_append ds (c ∷ []) d.name ∙ ap (λ b. b || (bytes_eq c.name d.name || false)) h.0 ∙ ap (λ b. b || false) (false_from_ne_true _ (λ s. both_ways _ k.0 ((bytes_eq-Decides d.name c.name).1 (sym ((bytes_eq-Decides c.name d.name).0 s))))),
      apart_push ds c h.1 k.1,
    )

rows_append : (cs ds : List Column) (n : ℕ) → HaveRows cs n → HaveRows ds n → HaveRows (cs ++ ds) n
rows_append [] ds n h k = k
rows_append (c ∷ cs) ds n h k = (h.0, rows_append cs ds n h.1 k)

slot_has : (s : Slot) (needed : Bool) (ns : List ℕ) (x : List ℕ) → has_column (slot_column s needed ns) x ≡ (needed && is_variable s x)
slot_has (Var y) true ns x = or_none (bytes_eq y x)
  where
    or_none : (b : Bool) → (b || false) ≡ b
    or_none true = refl
    or_none false = refl
slot_has (Var y) false ns x = refl
slot_has (Fixed k) true ns x = refl
slot_has (Fixed k) false ns x = refl
slot_has Missing true ns x = refl
slot_has Missing false ns x = refl

slot_number : (s : Slot) (needed : Bool) (ns : List ℕ) (i : ℕ) (x : List ℕ) → number_at (slot_column s needed ns) i x ≡ cond (needed && is_variable s x) (slice_index ns i) 0
slot_number (Var y) true ns i x = refl
slot_number (Var y) false ns i x = refl
slot_number (Fixed k) true ns i x = refl
slot_number (Fixed k) false ns i x = refl
slot_number Missing true ns i x = refl
slot_number Missing false ns i x = refl

slot_rows : (s : Slot) (needed : Bool) (ns : List ℕ) (n : ℕ) → length ns ≡ n → HaveRows (slot_column s needed ns) n
slot_rows (Var y) true ns n e = (e, tt)
slot_rows (Var y) false ns n e = tt
slot_rows (Fixed k) needed ns n e = tt
slot_rows Missing needed ns n e = tt

slot_apart : (cs : List Column) (s : Slot) (needed : Bool) (ns : List ℕ) → AreApart cs → ((x : List ℕ) → needed ≡ true → IsVariable s x → has_column cs x ≡ false) → AreApart (cs ++ slot_column s needed ns)
slot_apart cs (Var y) true ns h k = apart_push cs (record { name = y; numbers = ns }) h (k y refl refl)
slot_apart cs (Var y) false ns h k = subst AreApart (sym (append-nil cs)) h
slot_apart cs (Fixed n) needed ns h k = subst AreApart (sym (append-nil cs)) h
slot_apart cs Missing needed ns h k = subst AreApart (sym (append-nil cs)) h

not_true : (b : Bool) → not b ≡ true → b ≡ false
not_true true e = cc e
not_true false e = refl

-- a variable that no earlier slot has
same_at : (s p : Slot) (x : List ℕ) → IsVariable p x → is_same_variable s p ≡ is_variable s x
same_at s (Var y) x e = ap (is_variable s) e
same_at s (Fixed k) x e = absurd e
same_at s Missing x e = absurd e

module _ (s p o : Slot) (found : List (ℕ × ℕ × ℕ)) where
  abbrev front : List Column
  front = slot_column s true (map (part_of Subject) found) ++ slot_column p (not (is_same_variable s p)) (map (part_of Predicate) found)

  front_has : (x : List ℕ) → is_variable s x ≡ false → is_variable p x ≡ false → has_column front x ≡ false
  front_has x e f = has_column_append (slot_column s true (map (part_of Subject) found)) _ x
      ∙ (λ i. (slot_has s true (map (part_of Subject) found) x ∙ e) i || slot_has p (not (is_same_variable s p)) (map (part_of Predicate) found) x i)
      ∙ ap (λ b. not (is_same_variable s p) && b) f ∙ and_none (not (is_same_variable s p))
    where
      and_none : (b : Bool) → (b && false) ≡ false
      and_none true = refl
      and_none false = refl

  pub slot_table : IsTable (record { columns = slot_columns s p o found; rows = length found })
  slot_table = record {
    filled = rows_append front _ (length found)
        (rows_append (slot_column s true (map (part_of Subject) found)) _ (length found) (slot_rows s true (map (part_of Subject) found) (length found) (length-map found (part_of Subject))) (slot_rows p (not (is_same_variable s p)) (map (part_of Predicate) found) (length found) (length-map found (part_of Predicate))))
        (slot_rows o (not (is_same_variable s o || is_same_variable p o)) (map (part_of Object) found) (length found) (length-map found (part_of Object)));
    apart = slot_apart front o (not (is_same_variable s o || is_same_variable p o)) _
        (slot_apart (slot_column s true (map (part_of Subject) found)) p (not (is_same_variable s p)) _ (slot_apart [] s true _ tt (λ x e v. refl))
        (λ x e v. slot_has s true (map (part_of Subject) found) x ∙ sym (same_at s p x v) ∙ not_true _ e))
        (λ x e v. let k = or_parts (is_same_variable s o) (is_same_variable p o) (not_true _ e) in
        front_has x (sym (same_at s o x v) ∙ k.0) (sym (same_at p o x v) ∙ k.1));
  }

  -- what a row binds a variable to
  abbrev value : ℕ × ℕ × ℕ → List ℕ → ℕ
  value t x = cond (is_variable s x) t.0 (cond (is_variable p x) t.1 (cond (is_variable o x) t.2 0))

  abbrev row : ℕ → List ℕ → ℕ
  row i x = number_at (slot_columns s p o found) i x

  module _ (i : ℕ) (t : ℕ × ℕ × ℕ) (l : i < length found) (at : get_or found i t ≡ t) where
    first : slice_index (map (part_of Subject) found) i ≡ t.0
    first = get_or-map (part_of Subject) found i t 0 l ∙ ap (part_of Subject) at

    second : slice_index (map (part_of Predicate) found) i ≡ t.1
    second = get_or-map (part_of Predicate) found i t 0 l ∙ ap (part_of Predicate) at

    third : slice_index (map (part_of Object) found) i ≡ t.2
    third = get_or-map (part_of Object) found i t 0 l ∙ ap (part_of Object) at

    -- the row by cases on which slots have the variable
    row_value : (x : List ℕ) → row i x ≡ value t x
    row_value x = number_at_append front _ i x
        ∙ (λ q. cond (has_column_append (slot_column s true (map (part_of Subject) found)) (slot_column p (not (is_same_variable s p)) (map (part_of Predicate) found)) x q)
        (number_at_append (slot_column s true (map (part_of Subject) found)) (slot_column p (not (is_same_variable s p)) (map (part_of Predicate) found)) i x q)
        (slot_number o (not (is_same_variable s o || is_same_variable p o)) (map (part_of Object) found) i x q))
        ∙ (λ q. cond (slot_has s true (map (part_of Subject) found) x q || slot_has p (not (is_same_variable s p)) (map (part_of Predicate) found) x q)
        (cond (slot_has s true (map (part_of Subject) found) x q) ((slot_number s true (map (part_of Subject) found) i x ∙ ap (λ n. cond (is_variable s x) n 0) first) q)
        ((slot_number p (not (is_same_variable s p)) (map (part_of Predicate) found) i x ∙ ap (λ n. cond (not (is_same_variable s p) && is_variable p x) n 0) second) q))
        (cond (not (is_same_variable s o || is_same_variable p o) && is_variable o x) (third q) 0))
        ∙ go (is_variable s x) (is_variable p x) (is_variable o x) (is_same_variable s p) (is_same_variable s o) (is_same_variable p o) refl refl refl refl refl refl
      where
        go : (u v w sp so po : Bool) → is_variable s x ≡ u → is_variable p x ≡ v → is_variable o x ≡ w → is_same_variable s p ≡ sp → is_same_variable s o ≡ so → is_same_variable p o ≡ po →
            cond (u || (not sp && v)) (cond u (cond u t.0 0) (cond (not sp && v) t.1 0)) (cond (not (so || po) && w) t.2 0) ≡ cond u t.0 (cond v t.1 (cond w t.2 0))
        go true v w sp so po a b c d e f = refl
        go false true w false so po a b c d e f = refl
        go false true w true so po a b c d e f = absurd (both_ways _ a (sym (same_at s p x (variable_is p x b)) ∙ d))
        go false false true true true po a b c d e f = absurd (both_ways _ a (sym (same_at s o x (variable_is o x c)) ∙ e))
        go false false true false true po a b c d e f = absurd (both_ways _ a (sym (same_at s o x (variable_is o x c)) ∙ e))
        go false false true true false true a b c d e f = absurd (both_ways _ b (sym (same_at p o x (variable_is o x c)) ∙ f))
        go false false true false false true a b c d e f = absurd (both_ways _ b (sym (same_at p o x (variable_is o x c)) ∙ f))
        go false false true true false false a b c d e f = refl
        go false false true false false false a b c d e f = refl
        go false false false true true true a b c d e f = refl
        go false false false true true false a b c d e f = refl
        go false false false true false true a b c d e f = refl
        go false false false true false false a b c d e f = refl
        go false false false false true true a b c d e f = refl
        go false false false false true false a b c d e f = refl
        go false false false false false true a b c d e f = refl
        go false false false false false false a b c d e f = refl

    no_other : BindsNoOther s p o (row i)
    no_other x e f g = row_value x ∙ cond-false _ _ _ (false_from_ne_true _ (λ k. e (variable_is s x k))) ∙ cond-false _ _ _ (false_from_ne_true _ (λ k. f (variable_is p x k))) ∙ cond-false _ _ _ (false_from_ne_true _ (λ k. g (variable_is o x k)))

    -- where the numbers of one variable are the same, the slots have the triple's numbers in the row
    module _ (e : agrees (is_same_variable s p) (is_same_variable s o) (is_same_variable p o) t ≡ true) where
      subject_value : (x : List ℕ) → IsVariable s x → row i x ≡ t.0
      subject_value x v = row_value x ∙ cond-true _ _ _ (is_the_variable s x v)

      implied : (b c : Bool) → (not b || c) ≡ true → b ≡ true → c ≡ true
      implied true c e f = e
      implied false c e f = cc f

      pairs_same : (is_same_variable s p ≡ true → t.0 ≡ t.1) × (is_same_variable s o ≡ true → t.0 ≡ t.2) × (is_same_variable p o ≡ true → t.1 ≡ t.2)
      pairs_same =
          let h = and_parts _ _ e in
          let k = and_parts _ _ h.1 in
          ((λ f. eqb-true _ _ (implied _ _ h.0 f)), (λ f. eqb-true _ _ (implied _ _ k.0 f)), (λ f. eqb-true _ _ (implied _ _ k.1 f)))

      predicate_value : (x : List ℕ) → IsVariable p x → row i x ≡ t.1
      predicate_value x v = row_value x ∙ go (is_variable s x) refl
        where
          go : (u : Bool) → is_variable s x ≡ u → cond u t.0 (cond (is_variable p x) t.1 (cond (is_variable o x) t.2 0)) ≡ t.1
          go true f = pairs_same.0 (same_at s p x v ∙ f)
          go false f = cond-true _ _ _ (is_the_variable p x v)

      object_value : (x : List ℕ) → IsVariable o x → row i x ≡ t.2
      object_value x v = row_value x ∙ go (is_variable s x) (is_variable p x) refl refl
        where
          go : (u w : Bool) → is_variable s x ≡ u → is_variable p x ≡ w → cond u t.0 (cond w t.1 (cond (is_variable o x) t.2 0)) ≡ t.2
          go true w f g = pairs_same.1 (same_at s o x v ∙ f)
          go false true f g = pairs_same.2 (same_at p o x v ∙ g)
          go false false f g = cond-true _ _ _ (is_the_variable o x v)

-- the numbers of the slots under a mapping of exactly their variables
pub record HasNumbers (s p o : Slot) (m : List ℕ → ℕ) (t : ℕ × ℕ × ℕ) : Type 0 where
  pub first : Has s m t.0
  pub second : Has p m t.1
  pub third : Has o m t.2
  pub others : BindsNoOther s p o m

implied_from : (b c : Bool) → (b ≡ true → c ≡ true) → (not b || c) ≡ true
implied_from true c h = h refl
implied_from false c h = refl

module _ (g : GraphValue) (s p o : Slot) (listed found : List (ℕ × ℕ × ℕ)) (kept : found ≡ filter (agrees (is_same_variable s p) (is_same_variable s o) (is_same_variable p o)) listed)
    (there : (is_missing s ≡ false) × (is_missing p ≡ false) × (is_missing o ≡ false)) (bound : IsBound s × IsBound p × IsBound o)
    (exact : (a b c : ℕ) → Contains listed (a, b, c) ↔ (Contains g.triples (record { first = a; second = b; third = c }) × FitsAll (record { first = sought s; second = sought p; third = sought o }) (record { first = a; second = b; third = c }))) where
  abbrev test : ℕ × ℕ × ℕ → Bool
  test = agrees (is_same_variable s p) (is_same_variable s o) (is_same_variable p o)

  found_test : (t : ℕ × ℕ × ℕ) → Contains found t → test t ≡ true
  found_test t h = All-contains (λ t. test t ≡ true) (filter test listed) t (filter_passes test listed) (subst (λ xs. Contains xs t) kept h)

  found_listed : (t : ℕ × ℕ × ℕ) → Contains found t → Contains listed t
  found_listed t h = All-contains (Contains listed) (filter test listed) t (All-filter test (Contains listed) listed (All-contains_itself listed)) (subst (λ xs. Contains xs t) kept h)

  row_has : (i : ℕ) (t : ℕ × ℕ × ℕ) → i < length found → get_or found i t ≡ t → HasNumbers s p o (row s p o found i) t
  row_has i t l at =
      let e = found_test t (i, l, at) in
      let f = ((exact t.0 t.1 t.2).0 (found_listed t (i, l, at))).1 in
      record {
        first = has_from s (row s p o found i) t.0 there.0 bound.0 f.0 (subject_value s p o found i t l at e);
        second = has_from p (row s p o found i) t.1 there.1 bound.1 f.1 (predicate_value s p o found i t l at e);
        third = has_from o (row s p o found i) t.2 there.2 bound.2 f.2 (object_value s p o found i t l at e);
        others = no_other s p o found i t l at;
      }

  triple_back : (m : List ℕ → ℕ) → HasRow (record { columns = slot_columns s p o found; rows = length found }) m → IsTripleRow g s p o m
  triple_back m h =
      let t = get_or found h.0 (0, 0, 0) in
      let at : get_or found h.0 t ≡ t = get_or_default found h.0 t (0, 0, 0) h.1 in
      let r = row_has h.0 t h.1 at in
      let k = (exact t.0 t.1 t.2).0 (found_listed t (h.0, h.1, at)) in
      (record { first = t.0; second = t.1; third = t.2 }, k.0, has_along s m _ t.0 h.2 r.first, has_along p m _ t.1 h.2 r.second, has_along o m _ t.2 h.2 r.third, (λ x a b c. h.2 x ∙ r.others x a b c))

  triple_forth : (m : List ℕ → ℕ) → IsTripleRow g s p o m → HasRow (record { columns = slot_columns s p o found; rows = length found }) m
  triple_forth m h =
      let n = h.0 in
      let t : ℕ × ℕ × ℕ = (n.first, n.second, n.third) in
      let k : Contains listed t = (exact n.first n.second n.third).1 (h.1, (has_fits s m n.first h.2, has_fits p m n.second h.3, has_fits o m n.third h.4)) in
      let e : test t ≡ true = and_from _ _ (implied_from _ _ (λ f. eq-eqb _ _ (same_numbers s p m n.first n.second h.2 h.3 f)))
      (and_from _ _ (implied_from _ _ (λ f. eq-eqb _ _ (same_numbers s o m n.first n.third h.2 h.4 f))) (implied_from _ _ (λ f. eq-eqb _ _ (same_numbers p o m n.second n.third h.3 h.4 f)))) in
      let c : Contains found t = subst (λ (xs : List (ℕ × ℕ × ℕ)). Contains xs t) (sym kept) (Contains-filter test t listed k e) in
      let r = row_has c.0 t c.1 c.2 in
      (c.0, c.1, one_mapping s p o m (row s p o found c.0) n.first n.second n.third h.2 h.3 h.4 h.5 r.first r.second r.third r.others)

  pub triple_exact : (m : List ℕ → ℕ) → HasRow (record { columns = slot_columns s p o found; rows = length found }) m ↔ IsTripleRow g s p o m
  triple_exact m = (triple_back m, triple_forth m)

  pub triple_once : AllPairs (λ x y. x ≢ y) listed → AreOnce (record { columns = slot_columns s p o found; rows = length found })
  triple_once apart i j l k e =
      let d : ℕ × ℕ × ℕ = (0, 0, 0) in
      let u = get_or found i d in
      let v = get_or found j d in
      let b : i < length found = omega arith in
      let r = row_has i u b (get_or_default found i u d b) in
      let q = row_has j v k (get_or_default found j v d k) in
      let e0 = has_one s _ u.0 v.0 r.first (has_along s _ _ v.0 e q.first) in
      let e1 = has_one p _ u.1 v.1 r.second (has_along p _ _ v.1 e q.second) in
      let e2 = has_one o _ u.2 v.2 r.third (has_along o _ _ v.2 e q.third) in
      let all : AllPairs (λ x y. x ≢ y) found = subst (λ (xs : List (ℕ × ℕ × ℕ)). AllPairs (λ x y. x ≢ y) xs) (sym kept) (AllPairs-filter (λ x y. x ≢ y) test listed apart) in
      all i j d l k (λ z. (e0 z, e1 z, e2 z))

-- ---- a slot whose term the graph hasn't

has_missing : (s : Slot) (m : List ℕ → ℕ) (a : ℕ) → is_missing s ≡ true → Has s m a → ⊥
has_missing (Var x) m a e h = cc e
has_missing (Fixed k) m a e h = cc e
has_missing Missing m a e h = h

pub no_triple : (g : GraphValue) (s p o : Slot) (m : List ℕ → ℕ) → (is_missing s ≡ true) ⊎ ((is_missing p ≡ true) ⊎ (is_missing o ≡ true)) → HasRow (record { columns = []; rows = 0 }) m ↔ IsTripleRow g s p o m
no_triple g s p o m e = (
  (λ h. absurd (omega (arith, h.1))),
  (λ h. absurd (⊎_elim (λ f. has_missing s m h.0.first f h.2) (λ f. ⊎_elim (λ f. has_missing p m h.0.second f h.3) (λ f. has_missing o m h.0.third f h.4) f) e)),
)
