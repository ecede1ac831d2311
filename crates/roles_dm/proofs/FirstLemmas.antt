-- What the first objects tell of earlier triples.
use Rattle.std.proofs.Common.{◌≡◌, ◌≢◌, ◌<◌, ◌⊎◌, ◌↔◌, ℕ, suc, List, Option, None, Some, Bool, true, false, refl, sym, ap, ◌∙◌, subst, inl, inr, arith, IsTrue, MatchOption, cond}
use Rattle.std.specs.Prelude.{slice_get}
use Rattle.std.proofs.lemmas.Bool.{cases_lt}
use Rattle.std.proofs.lemmas.Bool.Decides.{eqb_tells}
use Rattle.members_dm.proofs.ElementsLemmas.{item_at_index}
use Rattle.schema_dm.specs.Naming.{Name}
use Rattle.names_dm.specs.declared.names.ColumnName.{ColumnName}
use Rattle.names_dm.specs.declared.term.Term.TheVariants as term
use Rattle.names_dm.specs.Statements.{Statement}
use Rattle.facts_dm.specs.Facts.{Fact, KindText, Link, Node, a_cell, a_class, a_domain, a_link, a_link_range, a_mark, a_node, a_property, a_range, an_object, blank, iri, node_term, triple_of}
use Rattle.facts_dm.specs.Meanings.{NamingLaws}
use Rattle.facts_dm.specs.declared.word.Word.TheVariants.{RdfType}
use Rattle.store_dm.specs.Graphs.{GraphValue}
use Rattle.layouts_dm.specs.Outcomes.{Applies, Passes, SaysAt, TwoTables, TwoValues}
use Rattle.layouts_dm.specs.Rules.{Explains}
use Rattle.layouts_dm.proofs.Facts.{column-injective, word≢column}
use Rattle.roles_dm.specs.Findings.{IsFree, IsTripleOf}
use Rattle.roles_dm.specs.Numbered.{AreNumbersOf}
use Rattle.roles_dm.specs.Numbers.{IsNumberOf}
use Rattle.roles_dm.specs.Seen.{AreFirsts, IsSingle, NotesObject, SaysSingle, first_object, same_pair}
use Rattle.roles_dm.specs.declared.numbered.Numbered.{Numbered}
use Rattle.roles_dm.specs.declared.role.Role.{Role}
use Rattle.roles_dm.specs.declared.seen.Firsts.{Firsts}
use Rattle.roles_dm.specs.declared.words.Words.{Words}
use Rattle.roles_dm.proofs.FindingLemmas.{object_is, object_number, predicate_is, predicate_number, subject_is, subject_number}
use Rattle.roles_dm.proofs.NumberLemmas.{numbered}
use Rattle.roles_dm.proofs.Passing.{applies_tables, applies_values, passes_cell, passes_node}

-- ---- pairs of numbers

pub same_or : (a b s p : ℕ) → ((a ≡ s) × (b ≡ p) × (same_pair (a, b) (s, p) ≡ true)) ⊎ (((a ≡ s) × (b ≡ p) → ⊥) × (same_pair (a, b) (s, p) ≡ false))
same_or a b s p = elim (eqb_tells a s) [
  | inl e ↦ elim (eqb_tells b p) [
    | inl f ↦ inl (e.1, f.1, rw (e.0, f.0) refl)
    | inr f ↦ inr ((λ h. f.1 h.1), rw (e.0, f.0) refl)
  ]
  | inr e ↦ inr ((λ h. e.1 h.0), rw e.0 refl)
]

-- ---- one more object

-- the object was the first one, or the first one was the same
pub record Agreed (old new : Firsts) (n : Numbered) : Type 0 where
  pub before : (first_object old n.subject n.predicate ≡ None) ⊎ (first_object old n.subject n.predicate ≡ Some n.object)
  pub here : first_object new n.subject n.predicate ≡ Some n.object
  pub told : (s p o : ℕ) → first_object new s p ≡ Some o → (first_object old s p ≡ Some o) ⊎ ((s ≡ n.subject) × (p ≡ n.predicate) × (o ≡ n.object))
  pub kept : (s p o : ℕ) → first_object old s p ≡ Some o → first_object new s p ≡ Some o

module _ (old new : Firsts) (n : Numbered) where
  abbrev Notes : Bool → Option ℕ → Type 0
  Notes told r = MatchOption r
      (IsTrue told × ((s p : ℕ) → first_object new s p ≡ cond (same_pair (n.subject, n.predicate) (s, p)) (Some n.object) (first_object old s p)))
      (λ first. (IsTrue told ↔ (first ≡ n.object)) × ((s p : ℕ) → first_object new s p ≡ first_object old s p))

  pub notes_new : first_object old n.subject n.predicate ≡ None → ((s p : ℕ) → first_object new s p ≡ cond (same_pair (n.subject, n.predicate) (s, p)) (Some n.object) (first_object old s p)) → NotesObject old new n true
  notes_new e h = subst (Notes true) (sym e) (refl, h)

  pub agreed : NotesObject old new n true → Agreed old new n
  agreed h = go (first_object old n.subject n.predicate) refl h
    where
      go : (r : Option ℕ) → first_object old n.subject n.predicate ≡ r → Notes true r → Agreed old new n
      go None e k = record {
        before = inl e;
        here = elim (same_or n.subject n.predicate n.subject n.predicate) [
          | inl m ↦ k.1 n.subject n.predicate ∙ ap (λ b. cond b (Some n.object) (first_object old n.subject n.predicate)) m.2
          | inr m ↦ absurd (m.0 (refl, refl))
        ];
        told = λ s p o q. elim (same_or n.subject n.predicate s p) [
          | inl m ↦ (let f : Some n.object ≡ Some o = sym (k.1 s p ∙ ap (λ b. cond b (Some n.object) (first_object old s p)) m.2) ∙ q in inr (sym m.0, sym m.1, sym (cc f)))
          | inr m ↦ inl (sym (k.1 s p ∙ ap (λ b. cond b (Some n.object) (first_object old s p)) m.1) ∙ q)
        ];
        kept = λ s p o q. elim (same_or n.subject n.predicate s p) [
          | inl m ↦ absurd (let f : Some o ≡ None = sym q ∙ ap (λ a. first_object old a p) (sym m.0) ∙ ap (first_object old n.subject) (sym m.1) ∙ e in cc)
          | inr m ↦ (k.1 s p ∙ ap (λ b. cond b (Some n.object) (first_object old s p)) m.1) ∙ q
        ];
      }
      go (Some first) e k = record {
        before = inr (e ∙ ap Some (k.0.0 refl));
        here = k.1 n.subject n.predicate ∙ e ∙ ap Some (k.0.0 refl);
        told = λ s p o q. inl (sym (k.1 s p) ∙ q);
        kept = λ s p o q. k.1 s p ∙ q;
      }

  -- else the first one was another
  pub disagreed : NotesObject old new n false → (first : ℕ) × (first_object old n.subject n.predicate ≡ Some first) × (first ≢ n.object)
  disagreed h = go (first_object old n.subject n.predicate) refl h
    where
      go : (r : Option ℕ) → first_object old n.subject n.predicate ≡ r → Notes false r → (first : ℕ) × (first_object old n.subject n.predicate ≡ Some first) × (first ≢ n.object)
      go None e k = absurd (let f : false ≡ true = k.0 in cc)
      go (Some first) e k = (first, e, (λ q. let f : false ≡ true = k.0.1 q in cc))

-- ---- facts

node_injective : (m k : Node) → node_term m ≡ node_term k → m ≡ k
node_injective (iri i) (iri j) e = cc
node_injective (iri i) (blank j) e = absurd (cc)
node_injective (blank i) (iri j) e = absurd (cc)
node_injective (blank i) (blank j) e = cc

free_not_single : (f : Fact) → IsFree f → IsSingle f → ⊥
free_not_single (a_class t) a b = b
free_not_single (a_property c) a b = b
free_not_single (an_object l) a b = b
free_not_single (a_domain i t) a b = b
free_not_single (a_range c k) a b = b
free_not_single (a_link_range l u) a b = b
free_not_single (a_node n t) a b = a
free_not_single (a_cell n c v) a b = a
free_not_single (a_link n l m) a b = b
free_not_single (a_mark n) a b = b

single_node : (base : List ℕ) (f : Fact) → IsSingle f → (m : Node) × ((triple_of base f).subject ≡ node_term m)
single_node base (a_class t) h = absurd h
single_node base (a_property c) h = absurd h
single_node base (an_object l) h = absurd h
single_node base (a_domain i t) h = absurd h
single_node base (a_range c k) h = absurd h
single_node base (a_link_range l u) h = absurd h
single_node base (a_node n t) h = (n, refl)
single_node base (a_cell n c v) h = (n, refl)
single_node base (a_link n l m) h = absurd h
single_node base (a_mark n) h = absurd h

-- an earlier class or value, told of the same node, where its object is another
module _ (base : List ℕ) (laws : NamingLaws base) where
  -- another class
  other_class : (f : Fact) (m : Node) (t : Name) → IsSingle f → (triple_of base f).subject ≡ (triple_of base (a_node m t)).subject → (triple_of base f).predicate ≡ (triple_of base (a_node m t)).predicate
      → (triple_of base f).object ≢ (triple_of base (a_node m t)).object → (u : Name) × (u ≢ t) × (f ≡ a_node m u)
  other_class (a_node k u) m t h s p o = (u, (λ e. o (ap (λ v. (triple_of base (a_node m v)).object) e)), ap (λ j. a_node j u) (node_injective k m s))
  other_class (a_cell k c v) m t h s p o = absurd (word≢column base laws RdfType c p)
  other_class (a_class r) m t h s p o = absurd h
  other_class (a_property c) m t h s p o = absurd h
  other_class (an_object l) m t h s p o = absurd h
  other_class (a_domain i r) m t h s p o = absurd h
  other_class (a_range c k) m t h s p o = absurd h
  other_class (a_link_range l u) m t h s p o = absurd h
  other_class (a_link k l j) m t h s p o = absurd h
  other_class (a_mark k) m t h s p o = absurd h

  -- another value in the column
  other_value : (f : Fact) (m : Node) (c : ColumnName) (v : KindText) → IsSingle f → (triple_of base f).subject ≡ (triple_of base (a_cell m c v)).subject → (triple_of base f).predicate ≡ (triple_of base (a_cell m c v)).predicate
      → (triple_of base f).object ≢ (triple_of base (a_cell m c v)).object → (u : KindText) × (u ≢ v) × (f ≡ a_cell m c u)
  other_value (a_cell k d u) m c v h s p o =
      let names = column-injective base laws d.table d.column c.table c.column p in
      let column : d ≡ c = λ i. record { table = names.0 i; column = names.1 i } in
      (u, (λ e. o (ap (λ w. (triple_of base (a_cell m c w)).object) e)), (λ i. a_cell (node_injective k m s i) (column i) u))
  other_value (a_node k u) m c v h s p o = absurd (word≢column base laws RdfType c (sym p))
  other_value (a_class r) m c v h s p o = absurd h
  other_value (a_property d) m c v h s p o = absurd h
  other_value (an_object l) m c v h s p o = absurd h
  other_value (a_domain i r) m c v h s p o = absurd h
  other_value (a_range d k) m c v h s p o = absurd h
  other_value (a_link_range l u) m c v h s p o = absurd h
  other_value (a_link k l j) m c v h s p o = absurd h
  other_value (a_mark k) m c v h s p o = absurd h

pub before_or : (j i : ℕ) → j < suc i → (j < i) ⊎ (j ≡ i)
before_or j i l = elim (cases_lt j i) [ inl a ↦ inl a | inr b ↦ inr (omega (arith, l, b)) ]

unsome : (a b : Statement) → Some a ≡ Some b → a ≡ b
unsome a b e = cc

same_fact_class : (m : Node) (t u : Name) → a_node m t ≡ a_node m u → t ≡ u
same_fact_class m t u e = cc

same_fact_value : (m : Node) (c : ColumnName) (v w : KindText) → a_cell m c v ≡ a_cell m c w → v ≡ w
same_fact_value m c v w e = cc

module _ (base : List ℕ) (g : GraphValue) (w : Words) (rs : List Role) (G : List Statement) (x : Statement) (n : Numbered) (t : IsTripleOf base g w rs G x n) (i : ℕ) (at : slice_get G i ≡ Some x) where
  -- an earlier triple of this sort
  triple_at : (j : ℕ) (y : Statement) (m : Numbered) → slice_get G j ≡ Some y → AreNumbersOf g y m → SaysSingle base y → IsTripleOf base g w rs G y m
  triple_at j y m is numbers single = record {
    laws = t.laws;
    read = t.read;
    there = item_at_index y G j is;
    numbers = numbers;
    node = (let k = single_node base single.0 single.1 in (k.0, ap (λ (z : Statement). z.subject) single.2 ∙ k.1));
  }

  -- an earlier one of the same subject and predicate has another object
  record Other (old : Firsts) : Type 0 where
    pub place : ℕ
    pub fact : Fact
    pub below : place < i
    pub single : IsSingle fact
    pub says : SaysAt base G place fact
    pub subject : (triple_of base fact).subject ≡ x.subject
    pub predicate : (triple_of base fact).predicate ≡ x.predicate
    pub object : (triple_of base fact).object ≢ x.object

  other_told : (old : Firsts) → AreFirsts base g G i old → (first : ℕ) → first_object old n.subject n.predicate ≡ Some first → first ≢ n.object → Other old
  other_told old firsts first e apart =
      let m : Numbered = record { subject = n.subject; predicate = n.predicate; object = first } in
      let k = firsts.told m e in
      let y : Statement = k.1 in
      let is : slice_get G k.0 ≡ Some y = k.3 in
      let r = triple_at k.0 y m is k.4 k.5 in
      let fact : Fact = k.5.0 in
      let says : y ≡ triple_of base fact = k.5.2 in
      record {
        place = k.0;
        fact = fact;
        below = k.2;
        single = k.5.1;
        says = is ∙ ap Some says;
        subject = sym (ap (λ (z : Statement). z.subject) says) ∙ subject_is base g w rs G y m r x.subject n.subject t.numbers.subject refl;
        predicate = sym (ap (λ (z : Statement). z.predicate) says) ∙ predicate_is base g w rs G y m r x.predicate n.predicate t.numbers.predicate refl;
        object = λ q. apart (object_number base g w rs G y m r x.object n.object t.numbers.object (ap (λ (z : Statement). z.object) says ∙ q));
      }

  module _ (before : (j : ℕ) → j < i → Passes base G j) (old : Firsts) (firsts : AreFirsts base g G i old) (first : ℕ) (e : first_object old n.subject n.predicate ≡ Some first) (apart : first ≢ n.object) where
    pub two_tables : (m : Node) (name : Name) → x ≡ triple_of base (a_node m name) → Explains base G (a_node m name) → Applies base G i TwoTables
    two_tables m name is explained =
        let k = other_told old firsts first e apart in
        let u = other_class base t.laws k.fact m name k.single (k.subject ∙ ap (λ (z : Statement). z.subject) is) (k.predicate ∙ ap (λ (z : Statement). z.predicate) is) (λ q. k.object (q ∙ sym (ap (λ (z : Statement). z.object) is))) in
        applies_tables base t.laws G i before k.place m u.0 name k.below u.1 (subst (SaysAt base G k.place) u.2 k.says) (at ∙ ap Some is) explained

    pub two_values : (m : Node) (c : ColumnName) (v : KindText) → x ≡ triple_of base (a_cell m c v) → Explains base G (a_cell m c v) → Applies base G i TwoValues
    two_values m c v is explained =
        let k = other_told old firsts first e apart in
        let u = other_value base t.laws k.fact m c v k.single (k.subject ∙ ap (λ (z : Statement). z.subject) is) (k.predicate ∙ ap (λ (z : Statement). z.predicate) is) (λ q. k.object (q ∙ sym (ap (λ (z : Statement). z.object) is))) in
        applies_values base t.laws G i before k.place m c.table c.column u.0 v k.below u.1 (subst (SaysAt base G k.place) u.2 k.says) (at ∙ ap Some is) explained

  module _ (old new : Firsts) (firsts : AreFirsts base g G i old) where
    module _ (a : Agreed old new n) where
      -- an earlier one of the same subject and predicate is the same
      same_earlier : (f h : Fact) → IsSingle f → x ≡ triple_of base h → (j : ℕ) → j < i → SaysAt base G j f → (triple_of base f).subject ≡ (triple_of base h).subject → (triple_of base f).predicate ≡ (triple_of base h).predicate → f ≡ h
      same_earlier f h single is j below says subject predicate =
          let y : Statement = triple_of base f in
          let s : y.subject ≡ x.subject = subject ∙ sym (ap (λ (z : Statement). z.subject) is) in
          let p : y.predicate ≡ x.predicate = predicate ∙ sym (ap (λ (z : Statement). z.predicate) is) in
          let k = (t.read.graph.same y).1 (item_at_index y G j says) in
          let m : Numbered = record { subject = n.subject; predicate = n.predicate; object = k.0.third } in
          let numbers : AreNumbersOf g y m = record {
            subject = subst (λ z. IsNumberOf g z n.subject) (sym s) t.numbers.subject;
            predicate = subst (λ z. IsNumberOf g (term.Iri z) n.predicate) (sym p) t.numbers.predicate;
            object = numbered g G t.read.graph y.object k.0.third k.2.2;
          } in
          let here : first_object old n.subject n.predicate ≡ Some k.0.third = firsts.kept j y m below says numbers (f, single, refl) in
          let same : k.0.third ≡ n.object = elim a.before [ inl none ↦ absurd (let q : None ≡ Some k.0.third = sym none ∙ here in cc) | inr some ↦ (let q : Some k.0.third ≡ Some n.object = sym here ∙ some in cc) ] in
          let o : y.object ≡ x.object = object_is base g w rs G y m (triple_at j y m says numbers (f, single, refl)) x.object n.object t.numbers.object same in
          let whole : y ≡ x = λ q. record { subject = s q; predicate = p q; object = o q } in
          t.laws.one_fact f h (whole ∙ is)

      pub one_class : (m : Node) (name : Name) → x ≡ triple_of base (a_node m name) → Explains base G (a_node m name) → Passes base G i
      one_class m name is explained = passes_node base t.laws G i m name (at ∙ ap Some is) explained (λ j u below says. same_fact_class m u name (same_earlier (a_node m u) (a_node m name) tt is j below says refl refl))

      pub one_value : (m : Node) (c : ColumnName) (v : KindText) → x ≡ triple_of base (a_cell m c v) → Explains base G (a_cell m c v) → Passes base G i
      one_value m c v is explained = passes_cell base t.laws G i m c v (at ∙ ap Some is) explained (λ j u below says. same_fact_value m c u v (same_earlier (a_cell m c u) (a_cell m c v) tt is j below says refl refl))

      pub noted : SaysSingle base x → AreFirsts base g G (suc i) new
      noted single = record {
        told = λ m e. elim (a.told m.subject m.predicate m.object e) [
          | inl q ↦ (let k = firsts.told m q in (k.0, k.1, (let l = k.2 in omega (arith, l)), k.3, k.4, k.5))
          | inr q ↦ (i, x, omega arith, at, record { subject = subst (IsNumberOf g x.subject) (sym q.0) t.numbers.subject; predicate = subst (IsNumberOf g (term.Iri x.predicate)) (sym q.1) t.numbers.predicate; object = subst (IsNumberOf g x.object) (sym q.2) t.numbers.object }, single)
        ];
        kept = λ j y m l says numbers said. elim (before_or j i l) [
          | inl below ↦ a.kept m.subject m.predicate m.object (firsts.kept j y m below says numbers said)
          | inr e ↦
              (let same : y ≡ x = unsome y x (sym says ∙ ap (slice_get G) e ∙ at) in
              let r = triple_at j y m says numbers said in
              let s : m.subject ≡ n.subject = subject_number base g w rs G y m r x.subject n.subject t.numbers.subject (ap (λ (z : Statement). z.subject) same) in
              let p : m.predicate ≡ n.predicate = predicate_number base g w rs G y m r x.predicate n.predicate t.numbers.predicate (ap (λ (z : Statement). z.predicate) same) in
              let o : m.object ≡ n.object = object_number base g w rs G y m r x.object n.object t.numbers.object (ap (λ (z : Statement). z.object) same) in
              ap (λ z. first_object new z m.predicate) s ∙ ap (first_object new n.subject) p ∙ a.here ∙ ap Some (sym o))
        ];
      }

    -- a triple that says no class of a node and no value adds nothing
    pub skipped : ¬ SaysSingle base x → AreFirsts base g G (suc i) old
    skipped none = record {
      told = λ m e. let k = firsts.told m e in (k.0, k.1, (let l = k.2 in omega (arith, l)), k.3, k.4, k.5);
      kept = λ j y m l says numbers said. elim (before_or j i l) [
        | inl below ↦ firsts.kept j y m below says numbers said
        | inr e ↦ absurd (none (subst (SaysSingle base) (unsome y x (sym says ∙ ap (slice_get G) e ∙ at)) said))
      ];
    }

  pub free_says_none : (f : Fact) → IsFree f → x ≡ triple_of base f → ¬ SaysSingle base x
  free_says_none f free is said = free_not_single f free (subst IsSingle (t.laws.one_fact said.0 f (sym said.2 ∙ is)) said.1)

  pub link_says_none : (a b : Node) (l : Link) → x ≡ triple_of base (a_link a l b) → ¬ SaysSingle base x
  link_says_none a b l is said = subst IsSingle (t.laws.one_fact said.0 (a_link a l b) (sym said.2 ∙ is)) said.1
