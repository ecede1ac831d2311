-- Each operator keeps answers: the patterns of selections, projections, renamings, unions and joins, by those of their parts.
use Rattle.std.proofs.Common.{◌≡◌, ◌≢◌, ◌∙◌, ◌⊎◌, ◌↔◌, ◌++◌, ℕ, List, [], ◌∷◌, Some, None, true, refl, sym, ap, subst, inl, inr, ⊎_elim}
use Rattle.std.proofs.lemmas.Bool.{cond-true, cond-false}
use Rattle.std.proofs.lemmas.Slice.Eq.{bytes_eq-Decides}
use denote.Hole.Carrier.{hidden}
use Rattle.members_dm.specs.Membership.{IsIn}
use Rattle.members_dm.proofs.MembershipLemmas.{IsIn-back, IsIn-front}
use Rattle.value_dm.specs.Lawful.{IsLawful}
use Rattle.value_dm.specs.declared.value.Value.{Value}
use Rattle.names_dm.specs.Statements.{Statement}
use Rattle.names_dm.specs.Variables.{variable_of}
use Rattle.names_dm.specs.declared.term.Term.{Term}
use Rattle.schema_dm.specs.Naming.{Name}
use Rattle.algebra_dm.specs.Tuples.{Tuple, IsProjection, IsRenamed, Match, first_of}
use Rattle.query_rows_dm.specs.Grids.{term_in, term_of}
use Rattle.query_rows_dm.proofs.RowLemmas.{in_or_not, same_or_not}
use Rattle.pattern_dm.specs.Mappings.{Mapping, Compatible, SameIfBoth, union}
use Rattle.pattern_dm.specs.Operators.{renamed}
use Rattle.pattern_dm.specs.Says.{Says}
use Rattle.pattern_dm.specs.Solution.{Solution}
use Rattle.pattern_dm.specs.declared.pattern.Condition.{Condition}
use Rattle.pattern_dm.specs.declared.pattern.Condition.TheVariants as conditions
use Rattle.pattern_dm.specs.declared.pattern.Condition.TheBlock.{shape-the_row-Condition-0, hidden-the_row-Condition-0}
use Rattle.pattern_dm.specs.declared.pattern.Pattern.{Pattern}
use Rattle.pattern_dm.specs.declared.pattern.Pattern.TheVariants as patterns
use Rattle.pattern_dm.specs.declared.pattern.Pattern.TheBlock.{shape-the_row-Pattern-0, hidden-the_row-Pattern-0}
use Rattle.keeping_dm.specs.Guards.{and_bound, is_bound, is_other_value, is_unbound, is_value, joined, new_names, old_name, same_names, where_bound}
use Rattle.keeping_dm.specs.Keeping.{Agrees, IsLawfulTuple, Keeps}
use Rattle.keeping_dm.proofs.ImageLemmas.{IsWithin, agree_one, agrees_as, agrees_with, are_compatible, compatible_at, image, image_agrees, other_texts, pick_agrees, picked, picked_at, picked_else, picks, unbound_else, union_agrees}
use Rattle.keeping_dm.proofs.TermLemmas.{one_cell, one_term, same_value, same_with_none, some_not_none, term_none, term_some, there}

-- no tuple has anything but in the attributes
abbrev pub AreWithin : (Name → Type 0) → (Tuple → Type 0) → Type 0
AreWithin A has = (w : Tuple) → has w → (a : Name) → ¬ A a → w a ≡ None

-- each tuple's values obey the rules of their types
abbrev pub AreLawful : (Tuple → Type 0) → Type 0
AreLawful has = (w : Tuple) → has w → IsLawfulTuple w

-- the names are the attributes, in any order
abbrev pub AreAll : (Name → Type 0) → List Name → Type 0
AreAll A names = (a : Name) → IsIn a names ↔ A a

pub within_list : (A : Name → Type 0) (has : Tuple → Type 0) (names : List Name) → AreAll A names → AreWithin A has → (w : Tuple) → has w → IsWithin names w
within_list A has names are within w h a n = within w h a (λ k. n ((are a).1 k))

-- attributes that two parts have alike
pub within_along : (A B : Name → Type 0) (has : Tuple → Type 0) → ((a : Name) → A a ↔ B a) → AreWithin B has → AreWithin A has
within_along A B has same within w h a n = within w h a (λ k. n ((same a).1 k))

pub keeps_exact : (g : Statement → Type 0) (p : Pattern) (has : Tuple → Type 0) → Keeps g p has → (m : Mapping) → Solution g p m ↔ ((w : Tuple) × has w × Agrees m w)
keeps_exact g p has k m = (k.back m, (λ h. k.forth m h.0 h.1 h.2))

pub keeps_along : (g : Statement → Type 0) (p : Pattern) (has more : Tuple → Type 0) → ((w : Tuple) → has w ↔ more w) → Keeps g p has → Keeps g p more
keeps_along g p has more same k = record {
  back = λ m h. let b = k.back m h in (b.0, (same b.0).0 b.1, b.2);
  forth = λ m w h agrees. k.forth m w ((same w).1 h) agrees;
}

-- ---- conditions

-- Bound of each of the attributes, after a condition
says_bound : (f : Condition) (names : List Name) (m : Mapping) → Says (and_bound f names) true m → Says f true m × ((a : Name) → IsIn a names → m (variable_of a) ≢ None)
unfolding shape-the_row-Condition-0 hidden-the_row-Condition-0 hidden
says_bound f [] m h = (h, λ a i. absurd i)
says_bound f (b ∷ names) m h =
    let p = says_bound (conditions.And f (is_bound b)) names m h in
    (p.0.0, λ a i. ⊎_elim (λ e. subst (λ c. m (variable_of c) ≢ None) e p.0.1) (p.1 a) i)

bound_says : (f : Condition) (names : List Name) (m : Mapping) → Says f true m → ((a : Name) → IsIn a names → m (variable_of a) ≢ None) → Says (and_bound f names) true m
unfolding shape-the_row-Condition-0 hidden-the_row-Condition-0 hidden
bound_says f [] m h all = h
bound_says f (b ∷ names) m h all = bound_says (conditions.And f (is_bound b)) names m (h, all b (inl refl)) (λ a i. all a (inr i))

module _ (m : Mapping) (w : Tuple) (g : Agrees m w) (n : Name) where
  value_said : (v : Value) → IsLawfulTuple w → IsLawful v → Says (is_value n v) true m → w n ≡ Some v
  value_said v lawful lawful_v h =
      one_cell (w n) (Some v) (lawful n) (λ x e. subst IsLawful (the_same v x e) lawful_v) (sym (g.bound n) ∙ h.1 ∙ sym h.2)
    where
      the_same : (x y : Value) → Some x ≡ Some y → x ≡ y
      the_same x y e = cc

  says_value : (v : Value) → w n ≡ Some v → Says (is_value n v) true m
  says_value v e = (term_of v, g.bound n ∙ ap term_in e, refl)

  other_said : (v : Value) → Says (is_other_value n v) true m → (x : Value) × (w n ≡ Some x) × (x ≢ v)
  unfolding shape-the_row-Condition-0 hidden-the_row-Condition-0 hidden
  other_said v h =
      let x = term_some (w n) h.0 (sym (g.bound n) ∙ h.2) in
      (x.0, x.1, λ e. h.4 (sym x.2 ∙ ap term_of e ∙ the_same (term_of v) h.1 h.3))
    where
      the_same : (s t : Term) → Some s ≡ Some t → s ≡ t
      the_same s t e = cc

  says_other : (v : Value) → IsLawfulTuple w → IsLawful v → (x : Value) × (w n ≡ Some x) × (x ≢ v) → Says (is_other_value n v) true m
  unfolding shape-the_row-Condition-0 hidden-the_row-Condition-0 hidden
  says_other v lawful lawful_v h = (term_of h.0, term_of v, g.bound n ∙ ap term_in h.1, refl, λ e. h.2 (one_term h.0 v (lawful n h.0 h.1) lawful_v e))

  null_said : m (variable_of n) ≡ None → w n ≡ None
  null_said e = term_none (w n) (sym (g.bound n) ∙ e)

  says_null : w n ≡ None → m (variable_of n) ≡ None
  says_null e = g.bound n ∙ ap term_in e

module _ (g : Statement → Type 0) where
  -- ---- no part

  pub keeps_empty : Keeps g patterns.Empty (λ w. (a : Name) → w a ≡ None)
  keeps_empty = record {
    back = λ m h. ((λ _. None), (λ a. refl), record { bound = λ a. h (variable_of a); others = λ x _. h x });
    forth = λ m w e agrees x. unbound_else [] m w (λ a _. e a) agrees x (λ a i. absurd i);
  }

  -- ---- one part

  module _ (p : Pattern) (has : Tuple → Type 0) (k : Keeps g p has) where
    pub keeps_filter : (f : Condition) (test : Tuple → Type 0) → ((m : Mapping) (w : Tuple) → has w → Agrees m w → Says f true m → test w) →
        ((m : Mapping) (w : Tuple) → has w → Agrees m w → test w → Says f true m) → Keeps g (patterns.Filter p f) (λ w. has w × test w)
    unfolding shape-the_row-Pattern-0 hidden-the_row-Pattern-0 hidden
    keeps_filter f test said says = record {
      back = λ m h. let b = k.back m h.0 in (b.0, (b.1, said m b.0 b.1 b.2 h.1), b.2);
      forth = λ m w h agrees. (k.forth m w h.0 agrees, says m w h.0 agrees h.1);
    }

    pub keeps_eq : AreLawful has → (n : Name) (v : Value) → IsLawful v → Keeps g (patterns.Filter p (is_value n v)) (λ w. has w × (w n ≡ Some v))
    keeps_eq lawful n v lawful_v = keeps_filter (is_value n v) (λ w. w n ≡ Some v)
        (λ m w h agrees s. value_said m w agrees n v (lawful w h) lawful_v s)
        (λ m w h agrees e. says_value m w agrees n v e)

    pub keeps_ne : AreLawful has → (n : Name) (v : Value) → IsLawful v → Keeps g (patterns.Filter p (is_other_value n v)) (λ w. has w × ((x : Value) × (w n ≡ Some x) × (x ≢ v)))
    keeps_ne lawful n v lawful_v = keeps_filter (is_other_value n v) (λ w. (x : Value) × (w n ≡ Some x) × (x ≢ v))
        (λ m w h agrees s. other_said m w agrees n v s)
        (λ m w h agrees e. says_other m w agrees n v (lawful w h) lawful_v e)

    pub keeps_is_null : (n : Name) → Keeps g (patterns.Filter p (is_unbound n)) (λ w. has w × (w n ≡ None))
    unfolding shape-the_row-Condition-0 hidden-the_row-Condition-0 hidden
    keeps_is_null n = keeps_filter (is_unbound n) (λ w. w n ≡ None) (λ m w h agrees s. null_said m w agrees n s) (λ m w h agrees e. says_null m w agrees n e)

    pub keeps_not_null : (n : Name) → Keeps g (patterns.Filter p (is_bound n)) (λ w. has w × (w n ≢ None))
    keeps_not_null n = keeps_filter (is_bound n) (λ w. w n ≢ None)
        (λ m w h agrees s e. s (says_null m w agrees n e))
        (λ m w h agrees s e. s (null_said m w agrees n e))

    -- A: the attributes of the part
    module _ (A : Name → Type 0) (all : List Name) (are : AreAll A all) (within : AreWithin A has) where
      pub keeps_select : (old : Name → Name) (names : List Name) (test : Tuple → Tuple → Type 0) →
          ((u w : Tuple) → has u → test u w → (a : Name) → w a ≡ picked old names u a) →
          ((u w : Tuple) → has u → ((a : Name) → w a ≡ picked old names u a) → test u w) →
          Keeps g (patterns.Select p (picks old names)) (λ w. (u : Tuple) × has u × test u w)
      unfolding shape-the_row-Pattern-0 hidden-the_row-Pattern-0 hidden
      keeps_select old names test told tells = record {
        back = λ m h. let b = k.back h.0 h.1 in (
          picked old names b.0,
          (b.0, b.1, tells b.0 (picked old names b.0) b.1 (λ a. refl)),
          agrees_as m (renamed (picks old names) h.0) (picked old names b.0) h.2 (pick_agrees old names h.0 b.0 b.2),
        );
        forth = λ m w h agrees. (
          image all h.0,
          k.forth (image all h.0) h.0 h.1 (agrees_all h.0 h.1),
          agree_one names m (renamed (picks old names) (image all h.0)) w
              (λ a n. told h.0 w h.1 h.2 a ∙ picked_else old names h.0 a n) agrees
              (agrees_with (renamed (picks old names) (image all h.0)) (picked old names h.0) w (told h.0 w h.1 h.2) (pick_agrees old names (image all h.0) h.0 (agrees_all h.0 h.1))),
        );
      }
        where
          agrees_all : (u : Tuple) → has u → Agrees (image all u) u
          agrees_all u h = image_agrees all u (within_list A has all are within u h)

      pub keeps_project : (names sorted : List Name) → AreAll (λ a. IsIn a names) sorted → Keeps g (patterns.Select p (same_names sorted)) (λ w. (u : Tuple) × has u × IsProjection names u w)
      keeps_project names sorted same = keeps_select (λ a. a) sorted (IsProjection names)
          (λ u w h t a. ⊎_elim
          (λ i. t.kept a ((same a).0 i) ∙ sym (picked_at (λ a. a) sorted u a i))
          (λ n. t.others a (λ i. n ((same a).1 i)) ∙ sym (picked_else (λ a. a) sorted u a n))
          (in_or_not a sorted))
          (λ u w h e. record {
            kept = λ a i. e a ∙ picked_at (λ a. a) sorted u a ((same a).1 i);
            others = λ a n. e a ∙ picked_else (λ a. a) sorted u a (λ i. n ((same a).0 i));
          })

      module _ (from to : Name) (has_from : ¬ ¬ A from) (free : ¬ A to) (names : List Name) (new : AreAll (λ a. (to ≡ a) ⊎ (A a × (from ≢ a))) names) where
        apart : from ≢ to
        apart e = has_from (λ k. free (subst A e k))

        at_new : (u : Tuple) → picked (old_name from to) names u to ≡ u from
        at_new u = picked_at (old_name from to) names u to ((new to).1 (inl refl)) ∙ ap u (cond-true _ from to ((bytes_eq-Decides to to).1 refl))

        at_old : (u : Tuple) → picked (old_name from to) names u from ≡ None
        at_old u = picked_else (old_name from to) names u from (λ i. ⊎_elim (λ e. apart (sym e)) (λ h. h.1 refl) ((new from).0 i))

        at_other : (u : Tuple) → has u → (a : Name) → from ≢ a → to ≢ a → picked (old_name from to) names u a ≡ u a
        at_other u h a not_from not_to = ⊎_elim
            (λ i. picked_at (old_name from to) names u a i ∙ ap u (cond-false _ from a (other_texts to a not_to)))
            (λ n. picked_else (old_name from to) names u a n ∙ sym (within u h a (λ k. n ((new a).1 (inr (k, not_from))))))
            (in_or_not a names)

        renames : (u w : Tuple) → has u → IsRenamed from to u w → (a : Name) → w a ≡ picked (old_name from to) names u a
        renames u w h r a = ⊎_elim
            (λ is_to. subst (λ b. w b ≡ picked (old_name from to) names u b) is_to (r.new ∙ sym (at_new u)))
            (λ not_to. ⊎_elim
            (λ is_from. subst (λ b. w b ≡ picked (old_name from to) names u b) is_from (r.old apart ∙ sym (at_old u)))
            (λ not_from. r.others a not_from not_to ∙ sym (at_other u h a not_from not_to))
            (same_or_not from a))
            (same_or_not to a)

        pub keeps_rename : Keeps g (patterns.Select p (new_names from to names)) (λ w. (u : Tuple) × has u × IsRenamed from to u w)
        keeps_rename = keeps_select (old_name from to) names (IsRenamed from to) renames
            (λ u w h e. record {
              new = e to ∙ at_new u;
              old = λ _. e from ∙ at_old u;
              others = λ a not_from not_to. e a ∙ at_other u h a not_from not_to;
            })

  -- ---- two parts

  module _ (p q : Pattern) (has more : Tuple → Type 0) (k : Keeps g p has) (l : Keeps g q more) where
    pub keeps_union : Keeps g (patterns.Union p q) (λ w. has w ⊎ more w)
    unfolding shape-the_row-Pattern-0 hidden-the_row-Pattern-0 hidden
    keeps_union = record {
      back = λ m h. ⊎_elim (λ s. let b = k.back m s in (b.0, inl b.1, b.2)) (λ s. let b = l.back m s in (b.0, inr b.1, b.2)) h;
      forth = λ m w h agrees. ⊎_elim (λ s. inl (k.forth m w s agrees)) (λ s. inr (l.forth m w s agrees)) h;
    }

  solves_bound : (names : List Name) (p : Pattern) (m : Mapping) → Solution g (where_bound names p) m → Solution g p m × ((a : Name) → IsIn a names → m (variable_of a) ≢ None)
  unfolding shape-the_row-Pattern-0 hidden-the_row-Pattern-0 hidden
  solves_bound [] p m h = (h, λ a i. absurd i)
  solves_bound (b ∷ names) p m h =
      let s = says_bound (is_bound b) names m h.1 in
      (h.0, λ a i. ⊎_elim (λ e. subst (λ c. m (variable_of c) ≢ None) e s.0) (s.1 a) i)

  bound_solves : (names : List Name) (p : Pattern) (m : Mapping) → Solution g p m → ((a : Name) → IsIn a names → m (variable_of a) ≢ None) → Solution g (where_bound names p) m
  unfolding shape-the_row-Pattern-0 hidden-the_row-Pattern-0 hidden
  bound_solves [] p m h all = h
  bound_solves (b ∷ names) p m h all = (h, bound_says (is_bound b) names m (all b (inl refl)) (λ a i. all a (inr i)))

  module _ (p q : Pattern) (has more : Tuple → Type 0) (k : Keeps g p has) (l : Keeps g q more) (A B : Name → Type 0) (left right common : List Name)
      (are_left : AreAll A left) (are_right : AreAll B right) (are_common : AreAll (λ a. A a × B a) common)
      (left_within : AreWithin A has) (right_within : AreWithin B more) (left_lawful : AreLawful has) (right_lawful : AreLawful more) where
    within_left : (u : Tuple) → has u → IsWithin left u
    within_left = within_list A has left are_left left_within

    within_right : (v : Tuple) → more v → IsWithin right v
    within_right = within_list B more right are_right right_within

    -- bound in both and compatible, they match
    matches : (m n : Mapping) (u v : Tuple) → has u → more v → Agrees m u → Agrees n v → ((a : Name) → IsIn a common → m (variable_of a) ≢ None) →
        ((a : Name) → IsIn a common → n (variable_of a) ≢ None) → Compatible m n → Match A B u v
    matches m n u v hu hv gu gv bound_m bound_n c a in_a in_b =
        let i = (are_common a).1 (in_a, in_b) in
        let x = there (u a) (λ e. bound_m a i (gu.bound a ∙ ap term_in e)) in
        let y = there (v a) (λ e. bound_n a i (gv.bound a ∙ ap term_in e)) in
        let same = same_value (u a) (v a) (left_lawful u hu a) (right_lawful v hv a) (compatible_at m n u v gu gv c a) x.0 y.0 x.1 y.1 in
        (x.0, x.1, y.1 ∙ ap Some (sym same))

    -- matching, they are the same wherever both have a value
    same_on_left : (u v : Tuple) → more v → Match A B u v → (a : Name) → IsIn a left → SameIfBoth (term_in (u a)) (term_in (v a))
    same_on_left u v hv match a i = ⊎_elim
        (λ j. let s = match a ((are_left a).0 i) ((are_right a).0 j) in
        subst (λ o. SameIfBoth (term_in o) (term_in (v a))) (sym s.1) (subst (λ o. SameIfBoth (Some (term_of s.0)) (term_in o)) (sym s.2) refl))
        (λ n. subst (λ o. SameIfBoth (term_in (u a)) (term_in o)) (sym (within_right v hv a n)) (same_with_none (term_in (u a))))
        (in_or_not a right)

    bound_left : (u v : Tuple) → has u → Match A B u v → (a : Name) → IsIn a common → image left u (variable_of a) ≢ None
    bound_left u v hu match a i e =
        let both = (are_common a).0 i in
        let s = match a both.0 both.1 in
        some_not_none (u a) s.0 s.1 (null_said (image left u) u (image_agrees left u (within_left u hu)) a e)

    bound_right : (u v : Tuple) → more v → Match A B u v → (a : Name) → IsIn a common → image right v (variable_of a) ≢ None
    bound_right u v hv match a i e =
        let both = (are_common a).0 i in
        let s = match a both.0 both.1 in
        some_not_none (v a) s.0 s.2 (null_said (image right v) v (image_agrees right v (within_right v hv)) a e)

    within_both : (u v w : Tuple) → has u → more v → ((a : Name) → w a ≡ first_of (u a) (v a)) → IsWithin (left ++ right) w
    within_both u v w hu hv e a n = e a ∙ (λ i. first_of (within_left u hu a (λ j. n (IsIn-front a left right j)) i) (within_right v hv a (λ j. n (IsIn-back a left right j)) i))

    -- the union of the images is the mapping that agrees with the joined tuple
    joins : (m : Mapping) (u v w : Tuple) → has u → more v → ((a : Name) → w a ≡ first_of (u a) (v a)) → Agrees m w → (x : List ℕ) → m x ≡ union (image left u) (image right v) x
    joins m u v w hu hv e agrees =
        agree_one (left ++ right) m (union (image left u) (image right v)) w (within_both u v w hu hv e) agrees
        (agrees_with (union (image left u) (image right v)) (λ a. first_of (u a) (v a)) w e
        (union_agrees (image left u) (image right v) u v (image_agrees left u (within_left u hu)) (image_agrees right v (within_right v hv))))

    pub keeps_join : Keeps g (joined common p q) (λ w. (u v : Tuple) × has u × more v × Match A B u v × ((a : Name) → w a ≡ first_of (u a) (v a)))
    unfolding shape-the_row-Pattern-0 hidden-the_row-Pattern-0 hidden
    keeps_join = record {
      back = λ m h.
          let bu = solves_bound common p h.0 h.2 in
          let bv = solves_bound common q h.1 h.3 in
          let ku = k.back h.0 bu.0 in
          let kv = l.back h.1 bv.0 in (
            (λ a. first_of (ku.0 a) (kv.0 a)),
            (ku.0, kv.0, ku.1, kv.1, matches h.0 h.1 ku.0 kv.0 ku.1 kv.1 ku.2 kv.2 bu.1 bv.1 h.4, λ a. refl),
            agrees_as m (union h.0 h.1) (λ a. first_of (ku.0 a) (kv.0 a)) h.5 (union_agrees h.0 h.1 ku.0 kv.0 ku.2 kv.2),
          );
      forth = λ m w h agrees. (
        image left h.0,
        image right h.1,
        bound_solves common p (image left h.0) (k.forth (image left h.0) h.0 h.2 (image_agrees left h.0 (within_left h.0 h.2))) (bound_left h.0 h.1 h.2 h.4),
        bound_solves common q (image right h.1) (l.forth (image right h.1) h.1 h.3 (image_agrees right h.1 (within_right h.1 h.3))) (bound_right h.0 h.1 h.3 h.4),
        are_compatible left (image left h.0) (image right h.1) h.0 h.1 (image_agrees left h.0 (within_left h.0 h.2)) (image_agrees right h.1 (within_right h.1 h.3))
            (within_left h.0 h.2) (same_on_left h.0 h.1 h.3 h.4),
        joins m h.0 h.1 w h.2 h.3 h.5 agrees,
      );
    }
