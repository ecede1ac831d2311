-- The two patterns of a difference keep answers.
use Rattle.std.proofs.Common.{◌≡◌, ◌≢◌, ◌∙◌, ◌⊎◌, ◌++◌, ℕ, List, [], ◌∷◌, Some, None, Bool, true, false, refl, sym, ap, subst, inl, inr, ⊎_elim, cond, codes, get_or, arith}
use Rattle.std.specs.Str.{bytes_eq}
use Rattle.std.proofs.lemmas.Bool.{both_ways, cond-true, cond-false}
use Rattle.std.proofs.lemmas.Slice.Eq.{bytes_eq-Decides}
use mathlib.Core.Path.{fun_ext}
use denote.Hole.Carrier.{hidden}
use Rattle.members_dm.specs.Membership.{IsIn}
use Rattle.names_dm.specs.Statements.{Statement}
use Rattle.names_dm.specs.Variables.{IsReserved, variable_of}
use Rattle.names_dm.specs.declared.term.Term.{Term}
use Rattle.names_dm.specs.declared.term.Term.TheVariants as terms
use Rattle.facts_dm.specs.Vocabulary.{word_iri}
use Rattle.facts_dm.specs.declared.word.Word.TheVariants.{RdfType}
use Rattle.schema_dm.specs.Naming.{Name}
use Rattle.table_csv.specs.Cells.{Cell}
use Rattle.algebra_dm.specs.Tuples.{Tuple}
use Rattle.query_rows_dm.specs.Grids.{term_in, term_of}
use Rattle.query_rows_dm.proofs.RowLemmas.{in_or_not, same_or_not}
use Rattle.pattern_dm.specs.Mappings.{Mapping, Compatible, SameIfBoth, union, first_of as first_term}
use Rattle.pattern_dm.specs.Operators.{renamed}
use Rattle.pattern_dm.specs.Says.{Says}
use Rattle.pattern_dm.specs.Solution.{Solution}
use Rattle.pattern_dm.specs.declared.pattern.Condition.{Condition}
use Rattle.pattern_dm.specs.declared.pattern.Condition.TheVariants as conditions
use Rattle.pattern_dm.specs.declared.pattern.Condition.TheBlock.{shape-the_row-Condition-0, hidden-the_row-Condition-0}
use Rattle.pattern_dm.specs.declared.pattern.Pattern.{Pattern}
use Rattle.pattern_dm.specs.declared.pattern.Pattern.TheVariants as patterns
use Rattle.pattern_dm.specs.declared.pattern.Pattern.TheBlock.{shape-the_row-Pattern-0, hidden-the_row-Pattern-0}
use Rattle.keeping_dm.specs.Guards.{and_same_cells, are_same_cells, guarded, is_same_cell, marker, marker_triple, right_names, right_variable, same_names}
use Rattle.keeping_dm.specs.Keeping.{Agrees, Keeps}
use Rattle.keeping_dm.proofs.ImageLemmas.{IsWithin, agree_one, agrees_as, agrees_with, cases_text, compatible_at, equal_texts, other_texts, pick_agrees, picked, picked_at, picked_else, reserved_unbound}
use Rattle.keeping_dm.proofs.KeepLemmas.{AreAll, AreLawful, AreWithin, within_list}
use Rattle.keeping_dm.proofs.TermLemmas.{no_second, one_cell, same_self, same_value, same_with_none, second_there, term_none, there}
use Rattle.names_dm.proofs.VariableLaws.{never_reserved, variable_of-injective}

-- tuples that have the same in these attributes, and nothing else, are one
same_tuple : (names : List Name) (w v : Tuple) → IsWithin names w → IsWithin names v → ((a : Name) → IsIn a names → w a ≡ v a) → w ≡ v
same_tuple names w v within_w within_v same = fun_ext (λ a. ⊎_elim (same a) (λ n. within_w a n ∙ sym (within_v a n)) (in_or_not a names))

-- ---- the variables of the right part

right_injective : (a b : Name) → right_variable a ≡ right_variable b → a ≡ b
right_injective a b e = variable_of-injective a b (behind (variable_of a) (variable_of b) e)
  where
    behind : (x y : List ℕ) → codes "_q" ++ x ≡ codes "_q" ++ y → x ≡ y
    behind x y e = cc

right_reserved : (a : Name) → IsReserved (right_variable a)
right_reserved a = inr (inr (inr (variable_of a, refl)))

marker_reserved : IsReserved marker
marker_reserved = inr (inr (inl refl))

no_marker : (a : Name) → marker ≢ right_variable a
no_marker a e = let h : 109 ≡ 113 = ap (λ xs. get_or xs 1 0) e in omega (arith, h)

right_at : (names : List Name) (m : Mapping) (a : Name) → IsIn a names → renamed (right_names names) m (right_variable a) ≡ m (variable_of a)
right_at [] m a h = absurd h
right_at (b ∷ names) m a h = go (bytes_eq (right_variable b) (right_variable a)) refl (right_at names m a) h
  where
    go : (r : Bool) → bytes_eq (right_variable b) (right_variable a) ≡ r → (IsIn a names → renamed (right_names names) m (right_variable a) ≡ m (variable_of a)) → (b ≡ a) ⊎ IsIn a names →
        cond r (m (variable_of b)) (renamed (right_names names) m (right_variable a)) ≡ m (variable_of a)
    go true e rest i = ap (λ c. m (variable_of c)) (right_injective b a ((bytes_eq-Decides (right_variable b) (right_variable a)).0 e))
    go false e rest (inl is) = absurd (both_ways _ e ((bytes_eq-Decides (right_variable b) (right_variable a)).1 (ap right_variable is)))
    go false e rest (inr i) = rest i

right_else : (names : List Name) (m : Mapping) (x : List ℕ) → ((a : Name) → IsIn a names → right_variable a ≢ x) → renamed (right_names names) m x ≡ None
right_else [] m x none = refl
right_else (b ∷ names) m x none = cond-false (bytes_eq (right_variable b) x) _ _ (other_texts (right_variable b) x (none b (inl refl))) ∙ right_else names m x (λ a i. none a (inr i))

-- ---- the guard

cell_said : (a : Name) (m : Mapping) → Says (is_same_cell a) true m → m (variable_of a) ≡ m (right_variable a)
unfolding shape-the_row-Condition-0 hidden-the_row-Condition-0 hidden
cell_said a m (inl h) = h.1 ∙ sym h.2
cell_said a m (inr h) = h.0 ∙ sym h.1

says_cell : (a : Name) (m : Mapping) (c : Cell) → m (variable_of a) ≡ term_in c → m (right_variable a) ≡ term_in c → Says (is_same_cell a) true m
unfolding shape-the_row-Condition-0 hidden-the_row-Condition-0 hidden
says_cell a m None e f = inr (e, f)
says_cell a m (Some v) e f = inl (term_of v, e, f)

too_said : (f : Condition) (names : List Name) (m : Mapping) → Says (and_same_cells f names) true m → Says f true m × ((a : Name) → IsIn a names → Says (is_same_cell a) true m)
unfolding shape-the_row-Condition-0 hidden-the_row-Condition-0 hidden
too_said f [] m h = (h, λ a i. absurd i)
too_said f (b ∷ names) m h =
    let r = too_said (conditions.And f (is_same_cell b)) names m h in
    (r.0.0, λ a i. ⊎_elim (λ e. subst (λ c. Says (is_same_cell c) true m) e r.0.1) (r.1 a) i)

says_too : (f : Condition) (names : List Name) (m : Mapping) → Says f true m → ((a : Name) → IsIn a names → Says (is_same_cell a) true m) → Says (and_same_cells f names) true m
unfolding shape-the_row-Condition-0 hidden-the_row-Condition-0 hidden
says_too f [] m h all = h
says_too f (b ∷ names) m h all = says_too (conditions.And f (is_same_cell b)) names m (h, all b (inl refl)) (λ a i. all a (inr i))

cells_said : (names : List Name) (m : Mapping) → Says (are_same_cells names) true m → (a : Name) → IsIn a names → Says (is_same_cell a) true m
cells_said [] m h a i = absurd i
cells_said (b ∷ names) m h a i = let r = too_said (is_same_cell b) names m h in ⊎_elim (λ e. subst (λ c. Says (is_same_cell c) true m) e r.0) (r.1 a) i

says_cells : (names : List Name) (m : Mapping) → ((a : Name) → IsIn a names → Says (is_same_cell a) true m) → Says (are_same_cells names) true m
says_cells [] m all = tt
says_cells (b ∷ names) m all = says_too (is_same_cell b) names m (all b (inl refl)) (λ a i. all a (inr i))

-- ---- the marker

abbrev marked : Term → Mapping
marked c x = cond (bytes_eq marker x) (Some c) None

-- the mapping binds the marker to the term, and nothing else
record IsMarked (c : Term) (m : Mapping) : Type 0 where
  pub mark : m marker ≡ Some c
  pub others : (x : List ℕ) → marker ≢ x → m x ≡ None

marked_is : (c : Term) → IsMarked c (marked c)
marked_is c = record {
  mark = cond-true (bytes_eq marker marker) (Some c) None (equal_texts marker);
  others = λ x n. cond-false (bytes_eq marker x) (Some c) None (other_texts marker x n);
}

-- it has what the other has in the attributes, under their variables in the right part, and the mark
record IsRight (names : List Name) (c : Term) (n v : Mapping) : Type 0 where
  pub cells : (a : Name) → IsIn a names → v (right_variable a) ≡ n (variable_of a)
  pub mark : v marker ≡ Some c
  pub reserved : (x : List ℕ) → (v x ≡ None) ⊎ IsReserved x

right_union : (names : List Name) (c : Term) (n b v : Mapping) → IsMarked c b → ((x : List ℕ) → v x ≡ union (renamed (right_names names) n) b x) → IsRight names c n v
right_union names c n b v is e = record {
  cells = λ a i. e (right_variable a) ∙ (λ t. first_term (right_at names n a i t) (is.others (right_variable a) (no_marker a) t)) ∙ no_second (n (variable_of a));
  mark = e marker ∙ (λ t. first_term (right_else names n marker (λ a i s. no_marker a (sym s)) t) (is.mark t));
  reserved = λ x. ⊎_elim
      (λ h. inr (subst IsReserved h.2 (right_reserved h.0)))
      (λ none. ⊎_elim
      (λ s. inr (subst IsReserved s marker_reserved))
      (λ n'. inl (e x ∙ (λ t. first_term (right_else names n x none t) (is.others x n' t))))
      (same_or_not marker x))
      (cases_text right_variable names x);
}

-- a mapping beside one of the right part
module _ (names : List Name) (c : Term) (m n v : Mapping) (w s : Tuple) (g : Agrees m w) (k : Agrees n s) (is : IsRight names c n v) where
  right_none : (a : Name) → v (variable_of a) ≡ None
  right_none a = ⊎_elim (λ e. e) (λ r. absurd (never_reserved a r)) (is.reserved (variable_of a))

  both_left : (a : Name) → union m v (variable_of a) ≡ term_in (w a)
  both_left a = (λ t. first_term (g.bound a t) (right_none a t)) ∙ no_second (term_in (w a))

  both_right : (a : Name) → IsIn a names → union m v (right_variable a) ≡ term_in (s a)
  both_right a i = (λ t. first_term (reserved_unbound m w g (right_variable a) (right_reserved a) t) ((is.cells a i ∙ k.bound a) t))

  beside : Compatible m v
  beside x = ⊎_elim
      (λ e. subst (λ o. SameIfBoth (m x) o) (sym e) (same_with_none (m x)))
      (λ r. subst (λ o. SameIfBoth o (v x)) (sym (reserved_unbound m w g x r)) tt)
      (is.reserved x)

module _ (g : Statement → Type 0) (p q : Pattern) (has more : Tuple → Type 0) (k : Keeps g p has) (l : Keeps g q more) (A : Name → Type 0) (names : List Name) (are : AreAll A names)
    (left_within : AreWithin A has) (right_within : AreWithin A more) (left_lawful : AreLawful has) (right_lawful : AreLawful more) where
  one_tuple : (w v : Tuple) → has w → more v → ((a : Name) → IsIn a names → w a ≡ v a) → w ≡ v
  one_tuple w v hw hv same = same_tuple names w v (within_list A has names are left_within w hw) (within_list A more names are right_within v hv) same

  -- ---- every attribute has a value

  module _ (some : (a : Name) × A a) (left_there : (w : Tuple) → has w → (a : Name) → A a → w a ≢ None) (right_there : (w : Tuple) → more w → (a : Name) → A a → w a ≢ None) where
    same_there : (m n : Mapping) (w v : Tuple) → has w → more v → Agrees m w → Agrees n v → Compatible m n → (a : Name) → IsIn a names → w a ≡ v a
    same_there m n w v hw hv gw gv comp a i =
        let here = (are a).0 i in
        let x = there (w a) (left_there w hw a here) in
        let y = there (v a) (right_there v hv a here) in
        x.1 ∙ ap Some (same_value (w a) (v a) (left_lawful w hw a) (right_lawful v hv a) (compatible_at m n w v gw gv comp a) x.0 y.0 x.1 y.1) ∙ sym y.1

    unbound_never : (m : Mapping) (w : Tuple) → has w → Agrees m w → m (variable_of some.0) ≢ None
    unbound_never m w h agrees e = left_there w h some.0 some.1 (term_none (w some.0) (sym (agrees.bound some.0) ∙ e))

    pub keeps_minus : Keeps g (patterns.Minus p q) (λ w. has w × (¬ more w))
    unfolding shape-the_row-Pattern-0 hidden-the_row-Pattern-0 hidden
    keeps_minus = record {
      back = λ m h.
          let b = k.back m h.0 in
          (b.0, (b.1, λ s. ⊎_elim (unbound_never m b.0 b.1 b.2) (unbound_never m b.0 b.1 b.2) (h.1 m (l.forth m b.0 s b.2) (λ x. same_self (m x)) (variable_of some.0))), b.2);
      forth = λ m w h agrees. (
        k.forth m w h.0 agrees,
        λ v sv comp x. absurd (let b = l.back v sv in h.1 (subst more (sym (one_tuple w b.0 h.0 b.1 (same_there m v w b.0 h.0 b.1 agrees b.2 comp))) b.1)),
      );
    }

  -- ---- any difference

  module _ (class : List ℕ) (c : Term) (typed : g (record { subject = terms.Iri class; predicate = word_iri RdfType; object = c }))
      (one : (o : Term) → g (record { subject = terms.Iri class; predicate = word_iri RdfType; object = o }) → o ≡ c) where
    marker_back : (m : Mapping) → Solution g (marker_triple class) m → IsMarked c m
    marker_back m h = record { mark = h.2.2 ∙ ap Some (one h.0.object (subst g statement h.1)); others = λ x n. h.3 x (λ bad. bad) (λ bad. bad) n }
      where
        the_iri : (x : List ℕ) (t : Term) → Some (terms.Iri x) ≡ Some t → t ≡ terms.Iri x
        the_iri x t e = cc

        the_text : (x y : List ℕ) → Some (terms.Iri x) ≡ Some (terms.Iri y) → y ≡ x
        the_text x y e = cc

        statement : h.0 ≡ record { subject = terms.Iri class; predicate = word_iri RdfType; object = h.0.object }
        statement =
            let s = the_iri class h.0.subject h.2.0 in
            let t = the_text (word_iri RdfType) h.0.predicate h.2.1 in
            λ i. record { subject = s i; predicate = t i; object = h.0.object }

    marker_forth : Solution g (marker_triple class) (marked c)
    marker_forth = (
      record { subject = terms.Iri class; predicate = word_iri RdfType; object = c },
      typed,
      (refl, refl, (marked_is c).mark),
      λ x _ _ n. (marked_is c).others x n,
    )

    abbrev right : Pattern
    right = patterns.And (patterns.Select q (right_names names)) (marker_triple class)

    right_back : (v : Mapping) → Solution g right v → (n : Mapping) × Solution g q n × IsRight names c n v
    unfolding shape-the_row-Pattern-0 hidden-the_row-Pattern-0 hidden
    right_back v h = (
      h.2.0,
      h.2.1,
      right_union names c h.2.0 h.1 v (marker_back h.1 h.3) (λ x. h.5 x ∙ ap (λ o. first_term o (h.1 x)) (h.2.2 x)),
    )

    right_forth : (n : Mapping) → Solution g q n → (v : Mapping) × Solution g right v × IsRight names c n v
    unfolding shape-the_row-Pattern-0 hidden-the_row-Pattern-0 hidden
    right_forth n h = (
      union (renamed (right_names names) n) (marked c),
      (renamed (right_names names) n, marked c, (n, h, λ x. refl), marker_forth, apart, λ x. refl),
      right_union names c n (marked c) (union (renamed (right_names names) n) (marked c)) (marked_is c) (λ x. refl),
    )
      where
        apart : Compatible (renamed (right_names names) n) (marked c)
        apart x = ⊎_elim
            (λ e. subst (λ y. SameIfBoth (renamed (right_names names) n y) (marked c y)) e
            (subst (λ o. SameIfBoth o (marked c marker)) (sym (right_else names n marker (λ a i s. no_marker a (sym s)))) tt))
            (λ d. subst (λ o. SameIfBoth (renamed (right_names names) n x) o) (sym ((marked_is c).others x d)) (same_with_none (renamed (right_names names) n x)))
            (same_or_not marker x)

    -- the tuple is none of the right part where no solution of this is joined
    alone : (m : Mapping) (w : Tuple) → Agrees m w → ((v : Mapping) → Solution g right v → Compatible m v → Says (are_same_cells names) true (union m v) → ⊥) → ¬ more w
    alone m w agrees none s =
        let v = right_forth m (l.forth m w s agrees) in
        none v.0 v.1 (beside names c m m v.0 w w agrees agrees v.2)
        (says_cells names (union m v.0) (λ a i. says_cell a (union m v.0) (w a) (both_left names c m m v.0 w w agrees agrees v.2 a) (both_right names c m m v.0 w w agrees agrees v.2 a i)))

    -- a solution that is joined has the same cells
    joined_same : (m v : Mapping) (w : Tuple) → has w → Agrees m w → Solution g right v → Says (are_same_cells names) true (union m v) → more w
    joined_same m v w hw agrees sv says =
        let r = right_back v sv in
        let b = l.back r.0 r.1 in
        subst more (sym (one_tuple w b.0 hw b.1 (λ a i. one_cell (w a) (b.0 a) (left_lawful w hw a) (right_lawful b.0 b.1 a)
        (sym (both_left names c m r.0 v w b.0 agrees b.2 r.2 a) ∙ cell_said a (union m v) (cells_said names (union m v) says a i) ∙ both_right names c m r.0 v w b.0 agrees b.2 r.2 a i)))) b.1

    projected_self : (w : Tuple) → has w → (a : Name) → w a ≡ picked (λ b. b) names w a
    projected_self w h a = ⊎_elim
        (λ i. sym (picked_at (λ b. b) names w a i))
        (λ n. within_list A has names are left_within w h a n ∙ sym (picked_else (λ b. b) names w a n))
        (in_or_not a names)

    project_agrees : (m : Mapping) (w : Tuple) → has w → Agrees m w → Agrees (renamed (same_names names) m) w
    project_agrees m w h agrees = agrees_with (renamed (same_names names) m) (picked (λ b. b) names w) w (projected_self w h) (pick_agrees (λ b. b) names m w agrees)

    -- without the mark, it isn't joined
    left_alone : (u : Mapping) → Solution g (patterns.LeftJoin p right (are_same_cells names)) u → u marker ≡ None →
        (w : Tuple) × has w × (¬ more w) × Agrees u w
    unfolding shape-the_row-Pattern-0 hidden-the_row-Pattern-0 hidden
    left_alone u (inl h) e =
        let r = right_back h.1 h.3 in
        absurd (second_there (h.0 marker) c (ap (first_term (h.0 marker)) (sym r.2.mark) ∙ sym (h.6 marker) ∙ e))
    left_alone u (inr h) e =
        let b = k.back u h.0 in
        (b.0, b.1, alone u b.0 b.2 h.1, b.2)

    pub keeps_guarded : Keeps g (guarded names class p q) (λ w. has w × (¬ more w))
    unfolding shape-the_row-Pattern-0 hidden-the_row-Pattern-0 shape-the_row-Condition-0 hidden-the_row-Condition-0 hidden
    keeps_guarded = record {
      back = λ m h.
          let b = left_alone h.0 h.1.0 h.1.1 in
          (b.0, (b.1, b.2), agrees_as m (renamed (same_names names) h.0) b.0 h.2 (project_agrees h.0 b.0 b.1 b.3));
      forth = λ m w h agrees. (
        m,
        (inr (k.forth m w h.0 agrees, λ v sv comp says. h.1 (joined_same m v w h.0 agrees sv says)), reserved_unbound m w agrees marker marker_reserved),
        agree_one names m (renamed (same_names names) m) w (within_list A has names are left_within w h.0) agrees (project_agrees m w h.0 agrees),
      );
    }
