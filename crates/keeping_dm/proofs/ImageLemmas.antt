-- The one mapping that agrees with a tuple.
use Rattle.std.proofs.Common.{◌≡◌, ◌≢◌, ◌∙◌, ◌⊎◌, ℕ, List, [], ◌∷◌, Option, Some, None, Bool, true, false, refl, sym, ap, subst, inl, inr, ⊎_elim, cond, map}
use Rattle.std.specs.Str.{bytes_eq}
use Rattle.std.proofs.lemmas.Bool.{both_ways, cond-false, false_from_ne_true}
use Rattle.std.proofs.lemmas.Option.{none-some}
use Rattle.std.proofs.lemmas.Slice.Eq.{bytes_eq-Decides}
use Rattle.members_dm.specs.Membership.{IsIn}
use Rattle.names_dm.specs.Variables.{IsReserved, variable_of}
use Rattle.names_dm.specs.declared.term.Term.{Term}
use Rattle.schema_dm.specs.Naming.{Name}
use Rattle.solutions_dm.specs.declared.selects.Rename.{Rename}
use Rattle.algebra_dm.specs.Tuples.{Tuple, first_of}
use Rattle.query_rows_dm.specs.Grids.{term_in}
use Rattle.query_rows_dm.proofs.RowLemmas.{in_or_not, same_or_not}
use Rattle.pattern_dm.specs.Mappings.{Mapping, Compatible, SameIfBoth, union, first_of as first_term}
use Rattle.pattern_dm.specs.Operators.{renamed}
use Rattle.keeping_dm.specs.Guards.{rename_to}
use Rattle.keeping_dm.specs.Keeping.{Agrees}
use Rattle.keeping_dm.proofs.TermLemmas.{term_of_first}
use Rattle.names_dm.proofs.VariableLaws.{never_reserved, variable_of-injective}

-- ---- names and texts

pub equal_texts : (x : List ℕ) → bytes_eq x x ≡ true
equal_texts x = (bytes_eq-Decides x x).1 refl

pub other_texts : (x y : List ℕ) → x ≢ y → bytes_eq x y ≡ false
other_texts x y n = false_from_ne_true (bytes_eq x y) (λ e. n ((bytes_eq-Decides x y).0 e))

-- a text is that of one of the names, or of none
pub cases_text : (f : Name → List ℕ) (names : List Name) (x : List ℕ) → ((a : Name) × IsIn a names × (f a ≡ x)) ⊎ ((a : Name) → IsIn a names → f a ≢ x)
cases_text f [] x = inr (λ a h. absurd h)
cases_text f (b ∷ names) x = ⊎_elim
    (λ e. inl (b, inl refl, e))
    (λ n. ⊎_elim (λ h. inl (h.0, inr h.1, h.2)) (λ k. inr (λ a h. ⊎_elim (λ e. subst (λ c. f c ≢ x) e n) (k a) h)) (cases_text f names x))
    (same_or_not (f b) x)

same_variable : (a b : Name) → bytes_eq (variable_of a) (variable_of b) ≡ bytes_eq a b
same_variable a b = ⊎_elim
    (λ e. (bytes_eq-Decides (variable_of a) (variable_of b)).1 (ap variable_of e) ∙ sym ((bytes_eq-Decides a b).1 e))
    (λ n. other_texts (variable_of a) (variable_of b) (λ e. n (variable_of-injective a b e)) ∙ sym (other_texts a b n))
    (same_or_not a b)

-- ---- mappings that agree with a tuple

-- the tuple has nothing in other attributes than these
abbrev pub IsWithin : List Name → Tuple → Type 0
IsWithin names w = (a : Name) → ¬ IsIn a names → w a ≡ None

pub agrees_as : (m n : Mapping) (w : Tuple) → ((x : List ℕ) → m x ≡ n x) → Agrees n w → Agrees m w
agrees_as m n w e g = record { bound = λ a. e (variable_of a) ∙ g.bound a; others = λ x none. e x ∙ g.others x none }

pub agrees_with : (m : Mapping) (v w : Tuple) → ((a : Name) → w a ≡ v a) → Agrees m v → Agrees m w
agrees_with m v w e g = record { bound = λ a. g.bound a ∙ sym (ap term_in (e a)); others = g.others }

pub reserved_unbound : (m : Mapping) (w : Tuple) → Agrees m w → (x : List ℕ) → IsReserved x → m x ≡ None
reserved_unbound m w g x reserved = g.others x (λ a e. never_reserved a (subst IsReserved (sym e) reserved))

pub unbound_else : (names : List Name) (m : Mapping) (w : Tuple) → IsWithin names w → Agrees m w → (x : List ℕ) → ((a : Name) → IsIn a names → variable_of a ≢ x) → m x ≡ None
unbound_else names m w within g x none = go (m x) refl
  where
    no_name : (t : Term) → m x ≡ Some t → (a : Name) → variable_of a ≢ x
    no_name t e a is = ⊎_elim (λ i. none a i is) (λ n. none-some t (sym (ap term_in (within a n)) ∙ sym (g.bound a) ∙ ap m is ∙ e)) (in_or_not a names)

    go : (o : Option Term) → m x ≡ o → m x ≡ None
    go None e = e
    go (Some t) e = g.others x (no_name t e)

-- two mappings that agree with one tuple are one
pub agree_one : (names : List Name) (m n : Mapping) (w : Tuple) → IsWithin names w → Agrees m w → Agrees n w → (x : List ℕ) → m x ≡ n x
agree_one names m n w within g k x = ⊎_elim
    (λ h. ap m (sym h.2) ∙ g.bound h.0 ∙ sym (k.bound h.0) ∙ ap n h.2)
    (λ none. unbound_else names m w within g x none ∙ sym (unbound_else names n w within k x none))
    (cases_text variable_of names x)

-- ---- the image of a tuple

-- it binds the variables of these attributes to the terms that the tuple has in them
abbrev pub image : List Name → Tuple → Mapping
image [] w x = None
image (a ∷ names) w x = cond (bytes_eq (variable_of a) x) (term_in (w a)) (image names w x)

pub image_at : (names : List Name) (w : Tuple) (a : Name) → IsIn a names → image names w (variable_of a) ≡ term_in (w a)
image_at [] w a h = absurd h
image_at (b ∷ names) w a h = ap (λ r. cond r (term_in (w b)) (image names w (variable_of a))) (same_variable b a) ∙ go (bytes_eq b a) refl (image_at names w a) h
  where
    go : (r : Bool) → bytes_eq b a ≡ r → (IsIn a names → image names w (variable_of a) ≡ term_in (w a)) → (b ≡ a) ⊎ IsIn a names → cond r (term_in (w b)) (image names w (variable_of a)) ≡ term_in (w a)
    go true e rest i = ap (λ c. term_in (w c)) ((bytes_eq-Decides b a).0 e)
    go false e rest (inl is) = absurd (both_ways (bytes_eq b a) e ((bytes_eq-Decides b a).1 is))
    go false e rest (inr i) = rest i

pub image_else : (names : List Name) (w : Tuple) (x : List ℕ) → ((a : Name) → IsIn a names → variable_of a ≢ x) → image names w x ≡ None
image_else [] w x none = refl
image_else (b ∷ names) w x none = cond-false (bytes_eq (variable_of b) x) _ _ (other_texts (variable_of b) x (none b (inl refl))) ∙ image_else names w x (λ a i. none a (inr i))

pub image_agrees : (names : List Name) (w : Tuple) → IsWithin names w → Agrees (image names w) w
image_agrees names w within = record {
  bound = λ a. ⊎_elim
      (image_at names w a)
      (λ n. image_else names w (variable_of a) (λ b i e. n (subst (λ c. IsIn c names) (variable_of-injective b a e) i)) ∙ sym (ap term_in (within a n)))
      (in_or_not a names);
  others = λ x none. image_else names w x (λ a i. none a);
}

pub agrees_image : (names : List Name) (m : Mapping) (w : Tuple) → IsWithin names w → Agrees m w → (x : List ℕ) → m x ≡ image names w x
agrees_image names m w within g = agree_one names m (image names w) w within g (image_agrees names w within)

-- ---- attributes under other names

-- each of the names from its old one
abbrev pub picks : (Name → Name) → List Name → List Rename
picks old names = map (λ a. rename_to (old a) a) names

abbrev pub picked : (Name → Name) → List Name → Tuple → Tuple
picked old [] u a = None
picked old (b ∷ names) u a = cond (bytes_eq b a) (u (old b)) (picked old names u a)

pub picked_at : (old : Name → Name) (names : List Name) (u : Tuple) (a : Name) → IsIn a names → picked old names u a ≡ u (old a)
picked_at old [] u a h = absurd h
picked_at old (b ∷ names) u a h = go (bytes_eq b a) refl (picked_at old names u a) h
  where
    go : (r : Bool) → bytes_eq b a ≡ r → (IsIn a names → picked old names u a ≡ u (old a)) → (b ≡ a) ⊎ IsIn a names → cond r (u (old b)) (picked old names u a) ≡ u (old a)
    go true e rest i = ap (λ c. u (old c)) ((bytes_eq-Decides b a).0 e)
    go false e rest (inl is) = absurd (both_ways (bytes_eq b a) e ((bytes_eq-Decides b a).1 is))
    go false e rest (inr i) = rest i

pub picked_else : (old : Name → Name) (names : List Name) (u : Tuple) (a : Name) → ¬ IsIn a names → picked old names u a ≡ None
picked_else old [] u a n = refl
picked_else old (b ∷ names) u a n = cond-false (bytes_eq b a) _ _ (other_texts b a (λ e. n (inl e))) ∙ picked_else old names u a (λ i. n (inr i))

pick_bound : (old : Name → Name) (names : List Name) (m : Mapping) (u : Tuple) → Agrees m u → (a : Name) → renamed (picks old names) m (variable_of a) ≡ term_in (picked old names u a)
pick_bound old [] m u g a = refl
pick_bound old (b ∷ names) m u g a =
    ap (λ r. cond r (m (variable_of (old b))) (renamed (picks old names) m (variable_of a))) (same_variable b a) ∙ go (bytes_eq b a) (pick_bound old names m u g a)
  where
    go : (r : Bool) → renamed (picks old names) m (variable_of a) ≡ term_in (picked old names u a) →
        cond r (m (variable_of (old b))) (renamed (picks old names) m (variable_of a)) ≡ term_in (cond r (u (old b)) (picked old names u a))
    go true rest = g.bound (old b)
    go false rest = rest

pick_others : (old : Name → Name) (names : List Name) (m : Mapping) (x : List ℕ) → ((a : Name) → variable_of a ≢ x) → renamed (picks old names) m x ≡ None
pick_others old [] m x none = refl
pick_others old (b ∷ names) m x none = cond-false (bytes_eq (variable_of b) x) _ _ (other_texts (variable_of b) x (none b)) ∙ pick_others old names m x none

pub pick_agrees : (old : Name → Name) (names : List Name) (m : Mapping) (u : Tuple) → Agrees m u → Agrees (renamed (picks old names) m) (picked old names u)
pick_agrees old names m u g = record { bound = pick_bound old names m u g; others = pick_others old names m }

-- ---- two mappings

pub union_agrees : (m n : Mapping) (u v : Tuple) → Agrees m u → Agrees n v → Agrees (union m n) (λ a. first_of (u a) (v a))
union_agrees m n u v g k = record {
  bound = λ a. (λ i. first_term (g.bound a i) (k.bound a i)) ∙ sym (term_of_first (u a) (v a));
  others = λ x none. (λ i. first_term (g.others x none i) (k.others x none i));
}

pub compatible_at : (m n : Mapping) (u v : Tuple) → Agrees m u → Agrees n v → Compatible m n → (a : Name) → SameIfBoth (term_in (u a)) (term_in (v a))
compatible_at m n u v g k c a = subst (λ o. SameIfBoth o (term_in (v a))) (g.bound a) (subst (λ o. SameIfBoth (m (variable_of a)) o) (k.bound a) (c (variable_of a)))

pub are_compatible : (names : List Name) (m n : Mapping) (u v : Tuple) → Agrees m u → Agrees n v → IsWithin names u → ((a : Name) → IsIn a names → SameIfBoth (term_in (u a)) (term_in (v a))) → Compatible m n
are_compatible names m n u v g k within same x = ⊎_elim
    (λ h. subst (λ y. SameIfBoth (m y) (n y)) h.2
    (subst (λ o. SameIfBoth o (n (variable_of h.0))) (sym (g.bound h.0)) (subst (λ o. SameIfBoth (term_in (u h.0)) o) (sym (k.bound h.0)) (same h.0 h.1))))
    (λ none. subst (λ o. SameIfBoth o (n x)) (sym (unbound_else names m u within g x none)) tt)
    (cases_text variable_of names x)
