-- Triples have an interpretation exactly where none of them is a conflict.
use Rattle.std.proofs.Common.{◌≡◌, ◌⊎◌, refl, sym, ap, ◌∙◌, subst, inl, inr, ℕ, List, [], ◌∷◌, ◌++◌, Bool, true, false, cond, None, Some}
use Rattle.std.specs.Prelude.{◌↔◌, nat_eq}
use Rattle.std.specs.Bool.{Decides}
use Rattle.std.specs.Cmp.Lexicographic.{pointwise, bytes_decides}
use Rattle.members_dm.specs.Membership.{IsIn}
use Rattle.members_dm.proofs.MembershipLemmas.{IsIn-front, IsIn-back, IsIn-append}
use Rattle.names_dm.specs.Statements.{Statement, is_literal}
use Rattle.names_dm.specs.declared.literal.LiteralType.{LiteralType}
use Rattle.names_dm.specs.declared.literal.LiteralType.TheVariants.{Plain, Typed, Tagged}
use Rattle.names_dm.specs.declared.term.Term.{Term}
use Rattle.names_dm.specs.declared.term.Term.TheVariants as term
use Rattle.facts_dm.specs.Facts.{Node, iri, blank, node_term}
use Rattle.facts_dm.specs.Vocabulary.{word_iri}
use Rattle.facts_dm.specs.declared.word.Word.TheVariants.{RdfsRange}
use Rattle.consistency_dm.specs.Conflicts.{IsConflict, IsOutOfRange, IsSameNode}
use Rattle.consistency_dm.specs.Interpretations.{HasDatatype, HasInterpretation, Interpretation, IsAmong, IsInterpretationOf, LetsIn, RangeForm, Satisfies, StandsIn, Thing, an_individual, a_literal, anything, literals_of, meaning, members_of, range_form}
use Rattle.consistency_dm.specs.Ranges.{has_datatype, is_let_in}

true≢false : true ≡ false → ⊥
true≢false e = cc

-- ---- what a range lets in, as a test

pub has_datatype-decides : (kind : LiteralType) (datatype : List ℕ) → Decides (has_datatype kind datatype) (HasDatatype kind datatype)
has_datatype-decides Plain datatype = bytes_decides _ _
has_datatype-decides (Typed own) datatype = bytes_decides _ _
has_datatype-decides (Tagged tag) datatype = ((λ e. true≢false (sym e)), (λ h. absurd h))

abbrev pub form_lets : RangeForm → Term → Bool
form_lets (literals_of datatype) o = is_let_in (Some datatype) o
form_lets anything o = true
form_lets (members_of c) o = is_let_in None o

pub none_let_in : (f : RangeForm) (o : Term) → form_lets f o ≡ false → (J : Interpretation) → ¬ LetsIn J f (meaning J o)
none_let_in (literals_of datatype) (term.Iri text) e J h = h
none_let_in (literals_of datatype) (term.Blank label) e J h = h
none_let_in (literals_of datatype) (term.Literal value) e J h = true≢false (sym ((has_datatype-decides value.kind datatype).1 h) ∙ e)
none_let_in anything o e J h = true≢false e
none_let_in (members_of c) (term.Iri text) e J h = true≢false e
none_let_in (members_of c) (term.Blank label) e J h = true≢false e
none_let_in (members_of c) (term.Literal value) e J h = h

-- ---- an interpretation in which each node stands for itself, each class has all nodes, and each property its triples' pairs

node_list : Term → List Node
node_list (term.Iri text) = iri text ∷ []
node_list (term.Blank label) = blank label ∷ []
node_list (term.Literal value) = []

nodes_at : Statement → List Node
nodes_at x = node_list x.subject ++ (iri x.predicate ∷ node_list x.object)

nodes_of : List Statement → List Node
nodes_of [] = []
nodes_of (x ∷ triples) = nodes_at x ++ nodes_of triples

abbrev itself : Term → Thing
itself (term.Iri text) = an_individual (iri text)
itself (term.Blank label) = an_individual (blank label)
itself (term.Literal value) = a_literal value

subject_pairs : Term → Thing → List (Node × Thing)
subject_pairs (term.Iri text) b = (iri text, b) ∷ []
subject_pairs (term.Blank label) b = (blank label, b) ∷ []
subject_pairs (term.Literal value) b = []

abbrev is_property : Node → List ℕ → Bool
is_property (iri text) predicate = pointwise nat_eq text predicate
is_property (blank label) predicate = false

pairs_of : Node → List Statement → List (Node × Thing)
pairs_of p [] = []
pairs_of p (x ∷ triples) = cond (is_property p x.predicate) (subject_pairs x.subject (itself x.object)) [] ++ pairs_of p triples

abbrev node_model : List Statement → Interpretation
node_model triples = record { individuals = nodes_of triples; individual = λ n. n; class = λ c. nodes_of triples; property = λ p. pairs_of p triples }

means_itself : (triples : List Statement) (t : Term) → meaning (node_model triples) t ≡ itself t
means_itself triples (term.Iri text) = refl
means_itself triples (term.Blank label) = refl
means_itself triples (term.Literal value) = refl

node_list_in : (t : Term) (n : Node) → t ≡ node_term n → IsIn n (node_list t)
unfolding node_list
node_list_in t (iri text) e = subst (λ (u : Term). IsIn (iri text) (node_list u)) (sym e) (inl refl)
node_list_in t (blank label) e = subst (λ (u : Term). IsIn (blank label) (node_list u)) (sym e) (inl refl)

node_term-injective : (n m : Node) → node_term n ≡ node_term m → n ≡ m
node_term-injective (iri a) (iri b) e = let s : a ≡ b = cc in ap iri s
node_term-injective (iri a) (blank b) e = cc e
node_term-injective (blank a) (iri b) e = cc e
node_term-injective (blank a) (blank b) e = let s : a ≡ b = cc in ap blank s

nodes_at_in : (x : Statement) (n : Node) → (x.subject ≡ node_term n) ⊎ ((term.Iri x.predicate ≡ node_term n) ⊎ (x.object ≡ node_term n)) → IsIn n (nodes_at x)
unfolding nodes_at
nodes_at_in x n (inl e) = IsIn-front n (node_list x.subject) (iri x.predicate ∷ node_list x.object) (node_list_in x.subject n e)
nodes_at_in x n (inr (inl e)) = IsIn-back n (node_list x.subject) (iri x.predicate ∷ node_list x.object) (inl (node_term-injective (iri x.predicate) n e))
nodes_at_in x n (inr (inr e)) = IsIn-back n (node_list x.subject) (iri x.predicate ∷ node_list x.object) (inr (node_list_in x.object n e))

nodes_in : (triples : List Statement) (x : Statement) (n : Node) → IsIn x triples → IsIn n (nodes_at x) → IsIn n (nodes_of triples)
unfolding nodes_of
nodes_in [] x n i h = absurd i
nodes_in (y ∷ triples) x n (inl e) h = IsIn-front n (nodes_at y) (nodes_of triples) (subst (λ (z : Statement). IsIn n (nodes_at z)) (sym e) h)
nodes_in (y ∷ triples) x n (inr i) h = IsIn-back n (nodes_at y) (nodes_of triples) (nodes_in triples x n i h)

stands_in : (triples : List Statement) (n : Node) → StandsIn n triples → IsIn n (nodes_of triples)
stands_in triples n h = nodes_in triples h.0 n h.1 (nodes_at_in h.0 n h.2)

subject_pairs_in : (t : Term) (n : Node) (b : Thing) → t ≡ node_term n → IsIn {X = Node × Thing} (n, b) (subject_pairs t b)
unfolding subject_pairs
subject_pairs_in t (iri text) b e = subst (λ (u : Term). IsIn {X = Node × Thing} (iri text, b) (subject_pairs u b)) (sym e) (inl refl)
subject_pairs_in t (blank label) b e = subst (λ (u : Term). IsIn {X = Node × Thing} (blank label, b) (subject_pairs u b)) (sym e) (inl refl)

subject_pairs_from : (t : Term) (a i : Thing) (n : Node) → IsIn {X = Node × Thing} (n, i) (subject_pairs t a) → (t ≡ node_term n) × (a ≡ i)
unfolding subject_pairs
subject_pairs_from (term.Iri text) a i n (inl e) = (ap (λ (q : Node × Thing). node_term q.0) e, ap (λ (q : Node × Thing). q.1) e)
subject_pairs_from (term.Iri text) a i n (inr h) = absurd h
subject_pairs_from (term.Blank label) a i n (inl e) = (ap (λ (q : Node × Thing). node_term q.0) e, ap (λ (q : Node × Thing). q.1) e)
subject_pairs_from (term.Blank label) a i n (inr h) = absurd h
subject_pairs_from (term.Literal value) a i n h = absurd h

pair_in : (triples : List Statement) (x : Statement) (n : Node) → IsIn x triples → x.subject ≡ node_term n → IsIn {X = Node × Thing} (n, itself x.object) (pairs_of (iri x.predicate) triples)
unfolding pairs_of
pair_in [] x n i e = absurd i
pair_in (y ∷ triples) x n (inl p) e =
    IsIn-front {X = Node × Thing} (n, itself x.object) (cond (pointwise nat_eq x.predicate y.predicate) (subject_pairs y.subject (itself y.object)) []) (pairs_of (iri x.predicate) triples)
    (subst (λ (z : Statement). IsIn {X = Node × Thing} (n, itself x.object) (cond (pointwise nat_eq x.predicate z.predicate) (subject_pairs z.subject (itself z.object)) [])) (sym p)
    (subst (λ (b : Bool). IsIn {X = Node × Thing} (n, itself x.object) (cond b (subject_pairs x.subject (itself x.object)) [])) (sym ((bytes_decides x.predicate x.predicate).1 refl))
    (subject_pairs_in x.subject n (itself x.object) e)))
pair_in (y ∷ triples) x n (inr i) e =
    IsIn-back {X = Node × Thing} (n, itself x.object) (cond (pointwise nat_eq x.predicate y.predicate) (subject_pairs y.subject (itself y.object)) []) (pairs_of (iri x.predicate) triples) (pair_in triples x n i e)

property_is : (p : Node) (predicate : List ℕ) → is_property p predicate ≡ true → p ≡ iri predicate
property_is (iri text) predicate e = ap iri ((bytes_decides text predicate).0 e)
property_is (blank label) predicate e = absurd (true≢false (sym e))

-- the triple that a pair comes from
record Source (triples : List Statement) (p i : Node) (b : Thing) : Type 0 where
  triple : Statement
  among : IsIn triple triples
  property : p ≡ iri triple.predicate
  subject : triple.subject ≡ node_term i
  object : itself triple.object ≡ b

pair_from : (triples : List Statement) (p i : Node) (b : Thing) → IsIn {X = Node × Thing} (i, b) (pairs_of p triples) → Source triples p i b
unfolding pairs_of
pair_from [] p i b h = absurd h
pair_from (y ∷ triples) p i b h =
    elim (IsIn-append {X = Node × Thing} (i, b) (cond (is_property p y.predicate) (subject_pairs y.subject (itself y.object)) []) (pairs_of p triples) h)
    [ inl k ↦ here (is_property p y.predicate) refl k | inr k ↦ (let s = pair_from triples p i b k in record { triple = s.triple; among = inr s.among; property = s.property; subject = s.subject; object = s.object }) ]
  where
    here : (c : Bool) → is_property p y.predicate ≡ c → IsIn {X = Node × Thing} (i, b) (cond c (subject_pairs y.subject (itself y.object)) []) → Source (y ∷ triples) p i b
    here true e k =
        let s = subject_pairs_from y.subject (itself y.object) b i k in
        record { triple = y; among = inl refl; property = property_is p y.predicate e; subject = s.0; object = s.1 }
    here false e k = absurd k

among : (ns : List Node) (o : Term) → ((n : Node) → o ≡ node_term n → IsIn n ns) → IsAmong ns (itself o)
among ns (term.Iri text) h = h (iri text) refl
among ns (term.Blank label) h = h (blank label) refl
among ns (term.Literal value) h = tt

model_of : (triples : List Statement) → IsInterpretationOf triples (node_model triples)
model_of triples = record {
  individual = λ n s. stands_in triples n s;
  class = λ n i s h. h;
  property = λ n i b s h.
      let x = pair_from triples n i b h in (
        stands_in triples i (x.triple, x.among, inl x.subject),
        subst (IsAmong (nodes_of triples)) x.object (among (nodes_of triples) x.triple.object (λ m e. stands_in triples m (x.triple, x.among, inr (inr e)))),
      );
}

let_in_model : (triples : List Statement) (f : RangeForm) (o : Term) → ((n : Node) → o ≡ node_term n → IsIn n (nodes_of triples)) → form_lets f o ≡ true → LetsIn (node_model triples) f (itself o)
let_in_model triples (literals_of datatype) (term.Iri text) h e = true≢false (sym e)
let_in_model triples (literals_of datatype) (term.Blank label) h e = true≢false (sym e)
let_in_model triples (literals_of datatype) (term.Literal value) h e = (has_datatype-decides value.kind datatype).0 e
let_in_model triples anything o h e = tt
let_in_model triples (members_of c) (term.Iri text) h e = h (iri text) refl
let_in_model triples (members_of c) (term.Blank label) h e = h (blank label) refl
let_in_model triples (members_of c) (term.Literal value) h e = true≢false (sym e)

-- ---- a range that no interpretation lets the object into is one that the test refuses

module _ (triples : List Statement) (x : Statement) (i : IsIn x triples) where
  object_nodes : (n : Node) → x.object ≡ node_term n → IsIn n (nodes_of triples)
  object_nodes n e = stands_in triples n (x, i, inr (inr e))

  pub refused : (f : RangeForm) → ((J : Interpretation) → IsInterpretationOf triples J → ¬ LetsIn J f (meaning J x.object)) → form_lets f x.object ≡ false
  refused f none = go (form_lets f x.object) refl
    where
      go : (b : Bool) → form_lets f x.object ≡ b → form_lets f x.object ≡ false
      go true e = absurd (none (node_model triples) (model_of triples) (subst (LetsIn (node_model triples) f) (sym (means_itself triples x.object)) (let_in_model triples f x.object object_nodes e)))
      go false e = e

-- ---- one direction

module _ (triples : List Statement) (J : Interpretation) (is : IsInterpretationOf triples J) (satisfies : (x : Statement) → IsIn x triples → Satisfies J x) where
  no_same_node : (x : Statement) → IsIn x triples → ¬ IsSameNode x
  no_same_node x i c =
      let n = (satisfies x i).pair.0 in
      let e = (satisfies x i).pair.1 in
      (satisfies x i).different c.0 n n e (sym c.1 ∙ e) refl

  none_out_of_range : (x : Statement) → IsIn x triples → ¬ IsOutOfRange triples x
  none_out_of_range x i (r, j, p, s, none) =
      let pair = (satisfies x i).pair in
      none J is ((satisfies r j).range p (iri x.predicate) s (J.individual pair.0) (meaning J x.object) pair.2)

-- no triple of a list that is interpreted is a conflict
pub no_conflict : (triples : List Statement) → HasInterpretation triples → (x : Statement) → IsIn x triples → ¬ IsConflict triples x
no_conflict triples h x i (inl c) = no_same_node triples h.0 h.1 h.2 x i c
no_conflict triples h x i (inr c) = none_out_of_range triples h.0 h.1 h.2 x i c

-- ---- the other direction

subject_node : (t : Term) → is_literal t ≡ false → (n : Node) × (t ≡ node_term n)
subject_node (term.Iri text) e = (iri text, refl)
subject_node (term.Blank label) e = (blank label, refl)
subject_node (term.Literal value) e = absurd (true≢false e)

module _ (triples : List Statement) (good : (x : Statement) → IsIn x triples → is_literal x.subject ≡ false) (fine : (x : Statement) → IsIn x triples → ¬ IsConflict triples x) where
  lets_all : (r : Statement) → IsIn r triples → r.predicate ≡ word_iri RdfsRange → (p : Node) → r.subject ≡ node_term p → (i : Node) (b : Thing) → IsIn {X = Node × Thing} (i, b) (pairs_of p triples)
      → LetsIn (node_model triples) (range_form r.object) b
  lets_all r j e p s i b h = subst (LetsIn (node_model triples) (range_form r.object)) x.object
      (let_in_model triples (range_form r.object) x.triple.object (object_nodes triples x.triple x.among) (go (form_lets (range_form r.object) x.triple.object) refl))
    where
      x : Source triples p i b
      x = pair_from triples p i b h

      go : (c : Bool) → form_lets (range_form r.object) x.triple.object ≡ c → form_lets (range_form r.object) x.triple.object ≡ true
      go true k = k
      go false k = absurd (fine x.triple x.among (inr (r, j, e, s ∙ ap node_term x.property, λ J is. none_let_in (range_form r.object) x.triple.object k J)))

  pub interpretation : HasInterpretation triples
  interpretation = (
    node_model triples,
    model_of triples,
    λ x i. record {
      pair =
          let n = subject_node x.subject (good x i) in (
            n.0,
            n.1,
            subst (λ (b : Thing). IsIn {X = Node × Thing} (n.0, b) (pairs_of (iri x.predicate) triples)) (sym (means_itself triples x.object)) (pair_in triples x n.0 i n.1),
          );
      type = λ p n c s o. stands_in triples n (x, i, inl s);
      domain = λ p n c s o k b h. let y = pair_from triples n k b h in stands_in triples k (y.triple, y.among, inl y.subject);
      range = λ p n s k b h. lets_all x i p n s k b h;
      different = λ p n m s o e. fine x i (inl (p, s ∙ ap node_term e ∙ sym o));
    },
  )

-- triples whose subjects are no literals have an interpretation exactly where none of them is a conflict
pub interpreted_exactly : (triples : List Statement) → ((x : Statement) → IsIn x triples → is_literal x.subject ≡ false)
    → HasInterpretation triples ↔ ((x : Statement) → IsIn x triples → ¬ IsConflict triples x)
interpreted_exactly triples good = ((λ h. no_conflict triples h), (λ fine. interpretation triples good fine))
