-- Patterns whose solutions are the mappings of some things, each cut down to some variables.
use Rattle.std.proofs.Common.{◌≡◌, ◌≢◌, ◌⊎◌, ◌↔◌, ℕ, List, [], ◌∷◌, Option, Some, None, Bool, true, false, refl, sym, ap, ◌∙◌, subst, inl, inr, ⊎_elim, cond, ◌||◌}
use Rattle.std.specs.Str.{bytes_eq}
use Rattle.std.proofs.lemmas.Bool.{both_ways, cases_Bool, cond-true, cond-false, false_from_ne_true, or_cases, or_left, or_right}
use Rattle.std.proofs.lemmas.Option.{none-some, same_Some}
use Rattle.std.proofs.lemmas.Slice.Eq.{bytes_eq-Decides}
use denote.Hole.Carrier.{hidden}
use mathlib.Core.Path.{fun_ext}
use Rattle.members_dm.specs.Membership.{IsIn}
use Rattle.names_dm.specs.declared.term.Term.{Term}
use Rattle.names_dm.specs.declared.term.Term.TheVariants as terms
use Rattle.names_dm.specs.Statements.{Statement}
use Rattle.names_dm.specs.Variables.{variable_of}
use Rattle.schema_dm.specs.Naming.{Name}
use Rattle.algebra_dm.specs.Tuples.{Tuple}
use Rattle.query_rows_dm.specs.Grids.{term_in}
use Rattle.query_rows_dm.proofs.RowLemmas.{in_or_not}
use Rattle.pattern_dm.specs.Mappings.{Compatible, Mapping, SameIfBoth, first_of, union}
use Rattle.pattern_dm.specs.Operators.{renamed}
use Rattle.pattern_dm.specs.Says.{Says}
use Rattle.pattern_dm.specs.Solution.{Solution}
use Rattle.pattern_dm.specs.declared.pattern.Condition.TheVariants as conditions
use Rattle.pattern_dm.specs.declared.pattern.Operand.TheVariants as operands
use Rattle.pattern_dm.specs.declared.pattern.Pattern.{Pattern}
use Rattle.pattern_dm.specs.declared.pattern.Pattern.TheVariants as patterns
use Rattle.pattern_dm.specs.declared.pattern.Pattern.TheBlock.{shape-the_row-Pattern-0, hidden-the_row-Pattern-0}
use Rattle.keeping_dm.specs.Guards.{same_names}
use Rattle.keeping_dm.specs.Keeping.{Agrees, Keeps}
use Rattle.names_dm.proofs.VariableLaws.{variable_of-injective}

-- ---- mappings cut down to some variables

abbrev pub Variables : Type 0
Variables = List ℕ → Bool

abbrev pub cut : Variables → Mapping → Mapping
cut V f x = cond (V x) (f x) None

abbrev pub either : Variables → Variables → Variables
either V W x = V x || W x

abbrev pub two : List ℕ → List ℕ → Variables
two a b x = bytes_eq a x || bytes_eq b x

pub same_bytes : (a x : List ℕ) → bytes_eq a x ≡ true → a ≡ x
same_bytes a x e = (bytes_eq-Decides a x).0 e

pub bytes_self : (a : List ℕ) → bytes_eq a a ≡ true
bytes_self a = (bytes_eq-Decides a a).1 refl

pub other_bytes : (a x : List ℕ) → a ≢ x → bytes_eq a x ≡ false
other_bytes a x n = false_from_ne_true _ (λ e. n (same_bytes a x e))

first_both : (a b : Bool) (o p : Option Term) → (b ≡ true → p ≡ o) → first_of (cond a o None) (cond b p None) ≡ cond (a || b) o None
first_both true true None p h = h refl
first_both true true (Some x) p h = refl
first_both true false None p h = refl
first_both true false (Some x) p h = refl
first_both false true o p h = h refl
first_both false false o p h = refl

same_both : (a b : Bool) (o p : Option Term) → (b ≡ true → p ≡ o) → SameIfBoth (cond a o None) (cond b p None)
same_both true true None p h = tt
same_both true true (Some x) p h = subst (SameIfBoth (Some x)) (sym (h refl)) refl
same_both true false None p h = tt
same_both true false (Some x) p h = tt
same_both false b o p h = tt

-- they agree on the variables
abbrev pub AgreeOn : Variables → Mapping → Mapping → Type 0
AgreeOn W f h = (x : List ℕ) → W x ≡ true → h x ≡ f x

together : (V W : Variables) (f h : Mapping) → AgreeOn W f h → union (cut V f) (cut W h) ≡ cut (either V W) f
together V W f h agree = fun_ext (λ x. first_both (V x) (W x) (f x) (h x) (agree x))

fitting : (V W : Variables) (f h : Mapping) → AgreeOn W f h → Compatible (cut V f) (cut W h)
fitting V W f h agree x = same_both (V x) (W x) (f x) (h x) (agree x)

-- what both bind is the same
pub one_term : (V W : Variables) (f h : Mapping) (x : List ℕ) (a b : Term) → Compatible (cut V f) (cut W h) → V x ≡ true → W x ≡ true → f x ≡ Some a → h x ≡ Some b → a ≡ b
one_term V W f h x a b fits v w e g =
    let left : cut V f x ≡ Some a = cond-true _ _ _ v ∙ e in
    let right : cut W h x ≡ Some b = cond-true _ _ _ w ∙ g in
    subst (λ o. SameIfBoth (Some a) o) right (subst (λ o. SameIfBoth o (cut W h x)) left (fits x))

more_none : (a b : Bool) (o : Option Term) → (b ≡ true → a ≡ false → o ≡ None) → cond a o None ≡ cond (a || b) o None
more_none true b o h = refl
more_none false true o h = sym (h refl refl)
more_none false false o h = refl

-- ---- selecting columns

-- whether it is the variable of one of the names
abbrev pub among : List Name → Variables
among [] x = false
among (c ∷ cs) x = bytes_eq (variable_of c) x || among cs x

pub among_one : (names : List Name) (x : List ℕ) → among names x ≡ true → (c : Name) × IsIn c names × (variable_of c ≡ x)
among_one [] x e = absurd (both_ways false refl e)
among_one (c ∷ cs) x e = ⊎_elim
    (λ h. (c, inl refl, same_bytes (variable_of c) x h))
    (λ h. let k = among_one cs x h in (k.0, inr k.1, k.2))
    (or_cases _ _ e)

pub one_among : (names : List Name) (c : Name) → IsIn c names → among names (variable_of c) ≡ true
one_among [] c h = absurd h
one_among (d ∷ cs) c (inl e) = or_left _ _ (subst (λ b. bytes_eq (variable_of d) (variable_of b) ≡ true) e (bytes_self (variable_of d)))
one_among (d ∷ cs) c (inr h) = or_right _ _ (one_among cs c h)

renamed_is : (names : List Name) (u : Mapping) (x : List ℕ) → renamed (same_names names) u x ≡ cut (among names) u x
renamed_is [] u x = refl
renamed_is (c ∷ cs) u x = go (renamed_is cs u x) (bytes_eq (variable_of c) x) refl
  where
    go : renamed (same_names cs) u x ≡ cut (among cs) u x → (b : Bool) → bytes_eq (variable_of c) x ≡ b → cond b (u (variable_of c)) (renamed (same_names cs) u x) ≡ cond (b || among cs x) (u x) None
    go rest true e = ap u (same_bytes (variable_of c) x e)
    go rest false e = rest

-- ---- patterns

-- the pattern's solutions are the mappings of the things, cut down to the variables
pub record Solves (g : Statement → Type 0) (p : Pattern) (I : Type 0) (V : Variables) (F : I → Mapping) : Type 0 where
  pub back : (m : Mapping) → Solution g p m → (i : I) × (m ≡ cut V (F i))
  pub forth : (i : I) → Solution g p (cut V (F i))

-- nothing is joined to it, and it binds no more
pub record IsAlone {I J : Type 0} (V W : Variables) (F : I → Mapping) (G : J → Mapping) (i : I) : Type 0 where
  pub alone : (j : J) → ¬ Compatible (cut V (F i)) (cut W (G j))
  pub no_more : (x : List ℕ) → W x ≡ true → V x ≡ false → F i x ≡ None

module _ (g : Statement → Type 0) where
  -- ---- triples

  module _ (I : Type 0) (F : I → Mapping) (s : List ℕ) (iri : List ℕ) where
    iri_same : (a b : List ℕ) → Some (terms.Iri a) ≡ Some (terms.Iri b) → b ≡ a
    iri_same a b e = cc

    -- where the object is an IRI
    pub triple_solves : (o : List ℕ)
        → ((t : Statement) → g t → t.predicate ≡ iri → t.object ≡ terms.Iri o → (i : I) × (F i s ≡ Some t.subject))
        → ((i : I) → (t : Statement) × g t × (t.predicate ≡ iri) × (t.object ≡ terms.Iri o) × (F i s ≡ Some t.subject))
        → Solves g (patterns.Triple (operands.Var s) (operands.Iri iri) (operands.Iri o)) I (bytes_eq s) F
    triple_solves o told there = record {
      back = λ m h.
          let i = told h.0 h.1 (iri_same iri h.0.predicate h.2.1) (sym (same_Some (terms.Iri o) h.0.object h.2.2)) in
          (i.0, fun_ext (λ x. at m (F i.0) h.0.subject h.2.0 i.1 h.3 x (bytes_eq s x) refl));
      forth = λ i. let t = there i in (
        t.0,
        t.1,
        (cond-true _ _ _ (bytes_self s) ∙ t.4, ap (λ p. Some (terms.Iri p)) (sym t.2), ap (λ p. Some p) (sym t.3)),
        λ x n _ _. cond-false _ _ _ (other_bytes s x n),
      );
    }
      where
        at : (m f : Mapping) (a : Term) → m s ≡ Some a → f s ≡ Some a → ((x : List ℕ) → (s ≡ x → ⊥) → (⊥ → ⊥) → (⊥ → ⊥) → m x ≡ None) → (x : List ℕ) (b : Bool) → bytes_eq s x ≡ b → m x ≡ cond b (f x) None
        at m f a e k others x true h = let same = same_bytes s x h in subst (λ y. m y ≡ f y) same (e ∙ sym k)
        at m f a e k others x false h = others x (λ same. both_ways _ h ((bytes_eq-Decides s x).1 same)) (λ z. z) (λ z. z)

    -- where the object is a variable
    pub link_solves : (o : List ℕ)
        → ((t : Statement) → g t → t.predicate ≡ iri → (i : I) × (F i s ≡ Some t.subject) × (F i o ≡ Some t.object))
        → ((i : I) → (t : Statement) × g t × (t.predicate ≡ iri) × (F i s ≡ Some t.subject) × (F i o ≡ Some t.object))
        → Solves g (patterns.Triple (operands.Var s) (operands.Iri iri) (operands.Var o)) I (two s o) F
    link_solves o told there = record {
      back = λ m h.
          let i = told h.0 h.1 (iri_same iri h.0.predicate h.2.1) in
          (i.0, fun_ext (λ x. at m (F i.0) h.0 h.2.0 h.2.2 i.1 i.2 h.3 x (bytes_eq s x) (bytes_eq o x) refl refl));
      forth = λ i. let t = there i in (
        t.0,
        t.1,
        (cond-true _ _ _ (or_left _ _ (bytes_self s)) ∙ t.3, ap (λ p. Some (terms.Iri p)) (sym t.2), cond-true _ _ _ (or_right _ _ (bytes_self o)) ∙ t.4),
        λ x n _ k. cond-false _ _ _ (neither (bytes_eq s x) (bytes_eq o x) (other_bytes s x n) (other_bytes o x k)),
      );
    }
      where
        neither : (a b : Bool) → a ≡ false → b ≡ false → (a || b) ≡ false
        neither a b e h = ap (λ c. c || b) e ∙ h

        at : (m f : Mapping) (t : Statement) → m s ≡ Some t.subject → m o ≡ Some t.object → f s ≡ Some t.subject → f o ≡ Some t.object
            → ((x : List ℕ) → (s ≡ x → ⊥) → (⊥ → ⊥) → (o ≡ x → ⊥) → m x ≡ None) → (x : List ℕ) (a b : Bool) → bytes_eq s x ≡ a → bytes_eq o x ≡ b → m x ≡ cond (a || b) (f x) None
        at m f t e h j k others x true b es eo = subst (λ y. m y ≡ f y) (same_bytes s x es) (e ∙ sym j)
        at m f t e h j k others x false true es eo = subst (λ y. m y ≡ f y) (same_bytes o x eo) (h ∙ sym k)
        at m f t e h j k others x false false es eo =
            others x (λ same. both_ways _ es ((bytes_eq-Decides s x).1 same)) (λ z. z) (λ same. both_ways _ eo ((bytes_eq-Decides o x).1 same))

  -- ---- joins

  module _ (p q : Pattern) (I J : Type 0) (V W : Variables) (F : I → Mapping) (G : J → Mapping) (left : Solves g p I V F) (right : Solves g q J W G)
      (agree : (i : I) (j : J) → Compatible (cut V (F i)) (cut W (G j)) → AgreeOn W (F i) (G j)) where
    joint_back : (m u v : Mapping) → Solution g p u → Solution g q v → Compatible u v → ((x : List ℕ) → m x ≡ union u v x) → (i : I) × (m ≡ cut (either V W) (F i))
    joint_back m u v hu hv fits e =
        let i = left.back u hu in
        let j = right.back v hv in
        let fits' : Compatible (cut V (F i.0)) (cut W (G j.0)) = subst (λ n. Compatible n (cut W (G j.0))) i.1 (subst (Compatible u) j.1 fits) in
        (i.0, fun_ext e ∙ (λ k. union (i.1 k) (j.1 k)) ∙ together V W (F i.0) (G j.0) (agree i.0 j.0 fits'))

    pub and_solves : ((i : I) → (j : J) × AgreeOn W (F i) (G j)) → Solves g (patterns.And p q) I (either V W) F
    unfolding shape-the_row-Pattern-0 hidden-the_row-Pattern-0 hidden
    and_solves there = record {
      back = λ m h. joint_back m h.0 h.1 h.2 h.3 h.4 h.5;
      forth = λ i. let j = there i in (
        cut V (F i),
        cut W (G j.0),
        left.forth i,
        right.forth j.0,
        fitting V W (F i) (G j.0) j.1,
        λ x. ap (λ m. m x) (sym (together V W (F i) (G j.0) j.1)),
      );
    }

    as_before : (i : I) → IsAlone V W F G i → cut V (F i) ≡ cut (either V W) (F i)
    as_before i k = fun_ext (λ x. more_none (V x) (W x) (F i x) (k.no_more x))

    pub left_solves : ((i : I) → ((j : J) × AgreeOn W (F i) (G j)) ⊎ IsAlone V W F G i) → Solves g (patterns.LeftJoin p q conditions.True) I (either V W) F
    unfolding shape-the_row-Pattern-0 hidden-the_row-Pattern-0 hidden
    left_solves there = record {
      back = λ m h. ⊎_elim (λ s. joint_back m s.0 s.1 s.2 s.3 s.4 s.6) (λ s. unjoined m s.0 s.1) h;
      forth = λ i. found i (there i);
    }
      where
        unjoined : (m : Mapping) → Solution g p m → ((v : Mapping) → Solution g q v → Compatible m v → Says conditions.True true (union m v) → ⊥) → (i : I) × (m ≡ cut (either V W) (F i))
        unjoined m h none = let i = left.back m h in (
          i.0,
          i.1 ∙ ⊎_elim
              (λ j. absurd (none (cut W (G j.0)) (right.forth j.0) (subst (λ n. Compatible n (cut W (G j.0))) (sym i.1) (fitting V W (F i.0) (G j.0) j.1)) tt))
              (as_before i.0)
              (there i.0),
        )

        found : (i : I) → ((j : J) × AgreeOn W (F i) (G j)) ⊎ IsAlone V W F G i → Solution g (patterns.LeftJoin p q conditions.True) (cut (either V W) (F i))
        found i (inl j) = inl (
          cut V (F i),
          cut W (G j.0),
          left.forth i,
          right.forth j.0,
          fitting V W (F i) (G j.0) j.1,
          tt,
          λ x. ap (λ m. m x) (sym (together V W (F i) (G j.0) j.1)),
        )
        found i (inr k) = inr (
          subst (Solution g p) (as_before i k) (left.forth i),
          λ v hv fits _. let j = right.back v hv in k.alone j.0 (subst (λ n. Compatible n (cut W (G j.0))) (sym (as_before i k)) (subst (Compatible (cut (either V W) (F i))) j.1 fits)),
        )

  module _ (p : Pattern) (I : Type 0) (V : Variables) (F : I → Mapping) (solves : Solves g p I V F) (names attributes : List Name) (w : I → Tuple) (has : Tuple → Type 0)
      (all : (a : Name) → IsIn a attributes ↔ IsIn a names)
      (bound : (a : Name) → IsIn a names → V (variable_of a) ≡ true)
      (shown : (i : I) (a : Name) → IsIn a names → F i (variable_of a) ≡ term_in (w i a))
      (within : (i : I) (a : Name) → ¬ IsIn a names → w i a ≡ None)
      (is_one : (i : I) → has (w i))
      (one_of : (t : Tuple) → has t → (i : I) × ((a : Name) → t a ≡ w i a)) where
    -- what is selected of a thing's mapping
    abbrev chosen : I → Mapping
    chosen i = renamed (same_names attributes) (cut V (F i))

    chosen_in : (i : I) (a : Name) → IsIn a names → chosen i (variable_of a) ≡ term_in (w i a)
    chosen_in i a h = renamed_is attributes (cut V (F i)) (variable_of a) ∙ cond-true _ _ _ (one_among attributes a ((all a).1 h)) ∙ cond-true _ _ _ (bound a h) ∙ shown i a h

    chosen_out : (i : I) (x : List ℕ) → ((a : Name) → IsIn a names → variable_of a ≢ x) → chosen i x ≡ None
    chosen_out i x n =
        renamed_is attributes (cut V (F i)) x ∙ cond-false _ _ _ (false_from_ne_true _ (λ e. let c = among_one attributes x e in n c.0 ((all c.0).0 c.1) c.2))

    chosen_agrees : (i : I) → Agrees (chosen i) (w i)
    chosen_agrees i = record {
      bound = λ a. ⊎_elim
          (chosen_in i a)
          (λ n. chosen_out i (variable_of a) (λ c h e. n (subst (λ b. IsIn b names) (variable_of-injective c a e) h)) ∙ ap term_in (sym (within i a n)))
          (in_or_not a names);
      others = λ x n. chosen_out i x (λ a _. n a);
    }

    none_if_not : (o : Option Term) → ((x : Term) → o ≡ Some x → ⊥) → o ≡ None
    none_if_not None h = refl
    none_if_not (Some x) h = absurd (h x refl)

    -- one mapping agrees with it
    agrees_chosen : (m : Mapping) (i : I) → Agrees m (w i) → (x : List ℕ) → m x ≡ chosen i x
    agrees_chosen m i agrees x = ⊎_elim
        (λ e. let c = among_one names x e in
        subst (λ y. m y ≡ chosen i y) c.2 (agrees.bound c.0 ∙ sym (chosen_in i c.0 c.1)))
        (λ e. outside (λ a h s. both_ways _ e (subst (λ y. among names y ≡ true) s (one_among names a h))))
        (cases_Bool (among names x))
      where
        outside : ((a : Name) → IsIn a names → variable_of a ≢ x) → m x ≡ chosen i x
        outside n = none_if_not (m x) (λ y e. none-some y (sym (agrees.others x (λ a s. none-some y (sym (at a s) ∙ e))) ∙ e)) ∙ sym (chosen_out i x n)
          where
            at : (a : Name) → variable_of a ≡ x → m x ≡ None
            at a s = ap m (sym s) ∙ agrees.bound a ∙ ap term_in (within i a (λ h. n a h s))

    pub keeps_selected : Keeps g (patterns.Select p (same_names attributes)) has
    unfolding shape-the_row-Pattern-0 hidden-the_row-Pattern-0 hidden
    keeps_selected = record {
      back = λ m h.
          let i = solves.back h.0 h.1 in
          let same : m ≡ chosen i.0 = fun_ext h.2 ∙ ap (renamed (same_names attributes)) i.1 in
          (w i.0, is_one i.0, subst (λ n. Agrees n (w i.0)) (sym same) (chosen_agrees i.0));
      forth = λ m t h agrees.
          let i = one_of t h in
          let agrees' : Agrees m (w i.0) = subst (Agrees m) (fun_ext i.1) agrees in
          (cut V (F i.0), solves.forth i.0, agrees_chosen m i.0 agrees');
    }
