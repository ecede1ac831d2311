-- Where no cause applies to a triple of a graph, the graph can't fail to be accepted.
use Rattle.std.proofs.Common.{◌≡◌, ◌⊎◌, ℕ, List, refl, sym, ap, ◌∙◌, subst, inl, inr, Some}
use Rattle.std.specs.Prelude.{nat_eq, slice_get}
use Rattle.std.specs.Cmp.Lexicographic.{pointwise}
use Rattle.value_dm.specs.Equality.{numbers_decide}
use Rattle.members_dm.specs.Membership.{IsIn}
use Rattle.members_dm.proofs.ElementsLemmas.{index_of_item}
use Rattle.members_dm.proofs.ElementsTests.{stable_by_test}
use Rattle.schema_dm.specs.Naming.{Name}
use Rattle.names_dm.specs.Statements.{Statement}
use Rattle.names_dm.specs.declared.names.RelName.{RelName}
use Rattle.facts_dm.specs.Facts.{Fact, KindText, Link, Node, a_link, a_node, rel_link, triple_of}
use Rattle.facts_dm.specs.Meanings.{NamingLaws}
use Rattle.facts_dm.specs.Vocabulary.{word_iri}
use Rattle.facts_dm.specs.declared.word.Word.TheVariants.{Datatype}
use Rattle.layouts_dm.specs.Layouts.{cell_fact}
use Rattle.layouts_dm.specs.Outcomes.{Applies, Cause, HasExplainedValues, NoKeyValue, TwoTables, TwoValues, Unexplained}
use Rattle.layouts_dm.specs.Rules.{Accepted, Explained, Explains, HasValues, IsLink, Says}
use Rattle.layouts_dm.proofs.Choosing.{Surely, all_surely, next, surely, told}
use Rattle.layouts_dm.proofs.Facts.{datatype-injective}
use Rattle.layouts_dm.proofs.Outcomes.{by_later}
use Rattle.layouts_dm.proofs.Sound.{link_from, link_to}

pub stable_text : (x y : List ℕ) → ¬ (¬ (x ≡ y)) → x ≡ y
stable_text x y h = stable_by_test (pointwise nat_eq x y) (numbers_decide x y) h

link_node : (n n' m m' : Node) (l l' : Link) → a_link n l m ≡ a_link n' l' m' → n ≡ n'
link_node n n' m m' l l' e = cc

link_link : (n n' m m' : Node) (l l' : Link) → a_link n l m ≡ a_link n' l' m' → l ≡ l'
link_link n n' m m' l l' e = cc

link_other : (n n' m m' : Node) (l l' : Link) → a_link n l m ≡ a_link n' l' m' → m ≡ m'
link_other n n' m m' l l' e = cc

relation_name_of : (q q' : RelName) → rel_link q ≡ rel_link q' → q ≡ q'
relation_name_of q q' e = cc

value_of : (n n' : Node) (t t' c c' : Name) (v w : KindText) → cell_fact n t c v ≡ cell_fact n' t' c' w → v ≡ w
value_of n n' t t' c c' v w e = cc

table_of : (n n' : Node) (t u : Name) → a_node n t ≡ a_node n' u → t ≡ u
table_of n n' t u e = cc

module _ (base : List ℕ) (laws : NamingLaws base) (G : List Statement) (none : (i : ℕ) (c : Cause) → ¬ Applies base G i c) where
  stable_value : (v w : KindText) → ¬ (¬ (v ≡ w)) → v ≡ w
  stable_value v w h =
      let text : v.text ≡ w.text = stable_text v.text w.text (λ n. h (λ e. n (ap (λ (x : KindText). x.text) e))) in
      let iri : word_iri (Datatype v.kind) ≡ word_iri (Datatype w.kind) = stable_text (word_iri (Datatype v.kind)) (word_iri (Datatype w.kind)) (λ n. h (λ e. n (ap (λ (x : KindText). word_iri (Datatype x.kind)) e))) in
      let kind : v.kind ≡ w.kind = datatype-injective base laws v.kind w.kind iri in
      λ i. record { kind = kind i; text = text i }

  explained : Surely ((x : Statement) → IsIn x G → Explained base G x)
  explained = all_surely (Explained base G) G (λ x i. let k = index_of_item x G i in λ n. none k.0 Unexplained (x, k.2, n))

  -- where two facts have one place, they are one
  one_place : (f g : Fact) (i j : ℕ) → slice_get G i ≡ Some (triple_of base f) → slice_get G j ≡ Some (triple_of base g) → i ≡ j → f ≡ g
  one_place f g i j a b e = laws.one_fact f g (unsome (sym a ∙ ap (slice_get G) e ∙ b))
    where
      unsome : {x y : Statement} → Some x ≡ Some y → x ≡ y
      unsome e = cc

  module _ (each : (x : Statement) → IsIn x G → Explained base G x) where
    explains_said : (f : Fact) → Says base G f → Explains base G f
    explains_said f h = let s = each (triple_of base f) h in subst (Explains base G) (sym (laws.one_fact f s.0 s.1)) s.2

    one_value : (n : Node) (t c : Name) (v w : KindText) → Says base G (cell_fact n t c v) → Says base G (cell_fact n t c w) → v ≡ w
    one_value n t c v w h g =
        let i = index_of_item (triple_of base (cell_fact n t c v)) G h in
        let j = index_of_item (triple_of base (cell_fact n t c w)) G g in
        let first = explains_said (cell_fact n t c v) h in
        let second = explains_said (cell_fact n t c w) g in
        stable_value v w (λ apart. by_later ⊥ i.0 j.0
        (λ l. none j.0 TwoValues (i.0, n, t, c, v, w, l, apart, i.2, j.2, first, second))
        (λ l. none i.0 TwoValues (j.0, n, t, c, w, v, l, (λ e. apart (sym e)), j.2, i.2, second, first))
        (λ e. apart (value_of n n t t c c v w (one_place (cell_fact n t c v) (cell_fact n t c w) i.0 j.0 i.2 j.2 e))))

    one_table : (n : Node) (t u : Name) → Says base G (a_node n t) → Says base G (a_node n u) → t ≡ u
    one_table n t u h g =
        let i = index_of_item (triple_of base (a_node n t)) G h in
        let j = index_of_item (triple_of base (a_node n u)) G g in
        let first = explains_said (a_node n t) h in
        let second = explains_said (a_node n u) g in
        stable_text t u (λ apart. by_later ⊥ i.0 j.0
        (λ l. none j.0 TwoTables (i.0, n, t, u, l, apart, i.2, j.2, first, second))
        (λ l. none i.0 TwoTables (j.0, n, u, t, l, (λ e. apart (sym e)), j.2, i.2, second, first))
        (λ e. apart (table_of n n t u (one_place (a_node n t) (a_node n u) i.0 j.0 i.2 j.2 e))))

    -- the pair of a relation that a triple says
    abbrev Pair : Statement → Type 0
    Pair x = (q : RelName) × (t : Name) × (u : Name) × (n : Node) × (m : Node) × IsLink base G (rel_link q) t u × (x ≡ triple_of base (a_link n (rel_link q) m))

    abbrev Valued : Statement → Type 0
    Valued x = (q : RelName) (t u : Name) (n m : Node) → IsLink base G (rel_link q) t u → x ≡ triple_of base (a_link n (rel_link q) m) → HasValues base G q t u n m

    all_values : (x : Statement) (h : Pair x) → HasExplainedValues base G h.0 h.1 h.2 h.3 h.4 → Valued x
    all_values x h v q t u n m k e =
        let f = laws.one_fact (a_link h.3 (rel_link h.0) h.4) (a_link n (rel_link q) m) (sym h.6 ∙ e) in
        let link = link_link h.3 n h.4 m (rel_link h.0) (rel_link q) f in
        let k' : IsLink base G (rel_link h.0) t u = subst (λ l. IsLink base G l t u) (sym link) k in
        let pq = relation_name_of h.0 q link in
        let pt = link_from base laws G (rel_link h.0) h.1 h.2 t u h.5 k' in
        let pu = link_to base laws G (rel_link h.0) h.1 h.2 t u h.5 k' in
        let pn = link_node h.3 n h.4 m (rel_link h.0) (rel_link q) f in
        let pm = link_other h.3 n h.4 m (rel_link h.0) (rel_link q) f in
        let first : HasValues base G h.0 h.1 h.2 h.3 h.4 = ((v.0.0, v.0.1), (v.1.0, v.1.1)) in
        subst {A = RelName × Name × Name × Node × Node} (λ z. HasValues base G z.0 z.1 z.2 z.3 z.4) (λ j. (pq j, pt j, pu j, pn j, pm j)) first

    valued : (x : Statement) → IsIn x G → Surely (Valued x)
    valued x i = next (told (Pair x)) (λ t. go t)
      where
        go : Pair x ⊎ (¬ Pair x) → Surely (Valued x)
        go (inr no_pair) = surely (λ q t u n m k e. absurd (no_pair (q, t, u, n, m, k, e)))
        go (inl h) =
            let k = index_of_item x G i in
            let at : slice_get G k.0 ≡ Some (triple_of base (a_link h.3 (rel_link h.0) h.4)) = k.2 ∙ ap Some h.6 in
            let said : Says base G (a_link h.3 (rel_link h.0) h.4) = subst (λ y. IsIn y G) h.6 i in
            λ n. none k.0 NoKeyValue (h.0, h.1, h.2, h.3, h.4, h.5, at, explains_said (a_link h.3 (rel_link h.0) h.4) said, (λ v. n (all_values x h v)))

    accepted_by : Surely (Accepted base G)
    accepted_by =
        next (all_surely Valued G valued)
        (λ v. surely (record { explained = each; one_value = one_value; one_table = one_table; values = λ q t u n m k h. v (triple_of base (a_link n (rel_link q) m)) h q t u n m k refl }))

  pub accepted : Surely (Accepted base G)
  accepted = next explained (λ each. accepted_by each)
