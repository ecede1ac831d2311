-- What look-ups tell of the values of a relation's nodes and of the class of a marked node.
use Rattle.std.proofs.Common.{◌≡◌, ◌≢◌, ◌↔◌, ℕ, List, None, Some, refl, sym, ap, ◌∙◌, subst}
use Rattle.std.specs.Prelude.{slice_get}
use Rattle.value_dm.specs.declared.kind.Kind.{Kind}
use Rattle.schema_dm.specs.Naming.{Name}
use Rattle.names_dm.specs.declared.names.RelName.{RelName}
use Rattle.names_dm.specs.declared.term.Term.{Term}
use Rattle.names_dm.specs.declared.term.Term.TheVariants as term
use Rattle.names_dm.specs.Statements.{Statement}
use Rattle.facts_dm.specs.Facts.{KindText, Node, a_link, a_mark, a_node, literal_term, node_term, rel_link, table_term, triple_of, word_term}
use Rattle.facts_dm.specs.declared.word.Word.TheVariants.{RdfType}
use Rattle.store_dm.specs.Graphs.{GraphValue}
use Rattle.store_dm.specs.Terms.{term_at}
use Rattle.layouts_dm.specs.Layouts.{cell_fact, column_named}
use Rattle.layouts_dm.specs.Outcomes.{Applies, HasExplainedValues, NoKeyValue, Passes, Unexplained}
use Rattle.layouts_dm.specs.Rules.{Explains, IsColumn, IsLink, IsNode, Says}
use Rattle.layouts_dm.proofs.Facts.{column-injective, word≢column}
use Rattle.layouts_dm.proofs.Sound.{link_from, link_to}
use Rattle.roles_dm.specs.Findings.{IsPair, IsTripleOf}
use Rattle.roles_dm.specs.Naming.{column_term}
use Rattle.roles_dm.specs.Numbers.{HasNumbers, IsNumberOf}
use Rattle.roles_dm.specs.Roles.{IsRole, role_at}
use Rattle.roles_dm.specs.Seen.{CountsFor, HasCounted, column_kind}
use Rattle.roles_dm.specs.declared.numbered.Numbered.{Numbered}
use Rattle.roles_dm.specs.declared.role.ColumnRole.{ColumnRole}
use Rattle.roles_dm.specs.declared.role.Role.{Role}
use Rattle.roles_dm.specs.declared.role.Role.TheVariants as variant
use Rattle.roles_dm.specs.declared.words.Words.{Words}
use Rattle.roles_dm.proofs.Explaining.{explained_by}
use Rattle.roles_dm.proofs.FindingLemmas.{class_role, column_role, role_is, role_there}
use Rattle.roles_dm.proofs.MeaningLemmas.{one_kind}
use Rattle.roles_dm.proofs.NumberLemmas.{number_at, numbered, says}
use Rattle.roles_dm.proofs.Passing.{applies_no_value, applies_unexplained, passes_pair, passes_plain}

same_node : (a b c d : Node) (q r : RelName) → a_link a (rel_link q) b ≡ a_link c (rel_link r) d → a ≡ c
same_node a b c d q r e = cc

same_other : (a b c d : Node) (q r : RelName) → a_link a (rel_link q) b ≡ a_link c (rel_link r) d → b ≡ d
same_other a b c d q r e = cc

same_relation : (a b c d : Node) (q r : RelName) → a_link a (rel_link q) b ≡ a_link c (rel_link r) d → q ≡ r
same_relation a b c d q r e = cc

module _ (base : List ℕ) (g : GraphValue) (w : Words) (rs : List Role) (G : List Statement) (x : Statement) (n : Numbered) (t : IsTripleOf base g w rs G x n) where
  -- ---- values

  module _ (y : Term) (m : ℕ) (node : Node) (name column : Name) (c : ℕ) (number : IsNumberOf g y m) (is : y ≡ node_term node) (property : IsNumberOf g (column_term base (column_named name column)) c) where
    says_cell : (v : KindText) (o : ℕ) → IsNumberOf g (literal_term v) o → HasNumbers g m c o ↔ Says base G (cell_fact node name column v)
    says_cell v o object = says g G t.read.graph (triple_of base (cell_fact node name column v)) m c o (subst (λ z. IsNumberOf g z m) is number) property object

    role_column : (k : Kind) → IsColumn base G name column k → (role : Role) → role_at rs c ≡ Some role → c ≢ 0 → (r : ColumnRole) × (role ≡ variant.Column r) × IsColumn base G name column r.kind
    role_column k column_is role e apart =
        let at : term_at g.terms c ≡ Some (column_term base (column_named name column)) = number_at g G t.read.graph (column_term base (column_named name column)) c property apart in
        let found = column_role base g w rs G x n t (column_named name column) k role (role_is base g w rs G t.read c (column_term base (column_named name column)) role at e) column_is in
        let names = column-injective base t.laws found.0.name.table found.0.name.column name column (iri_of _ _ (sym found.2.term)) in
        (found.0, found.1, subst {A = Name × Name} (λ z. IsColumn base G z.0 z.1 found.0.kind) (λ j. (names.0 j, names.1 j)) found.2.column)
      where
        iri_of : (a b : List ℕ) → term.Iri a ≡ term.Iri b → a ≡ b
        iri_of a b e = cc

    -- what is found for the node and the column is an explained value
    pub counted_value : (k : Kind) → IsNode base G node name → IsColumn base G name column k → HasCounted g rs m c → (v : KindText) × Says base G (cell_fact node name column v) × Explains base G (cell_fact node name column v)
    counted_value k node_is column_is h =
        let r = role_column k column_is h.2.0 h.2.1 h.1.1 in
        let counts : CountsFor g rs (Some r.0.kind) h.0 = subst (λ role. CountsFor g rs (column_kind role) h.0) r.1 h.2.2 in
        let v : KindText = counts.2.0 in
        let object : IsNumberOf g (literal_term v) h.0 = numbered g G t.read.graph (literal_term v) h.0 (counts.1 ∙ ap Some counts.2.1) in
        (v, (says_cell v h.0 object).0 h.1, (node_is, subst (IsColumn base G name column) (sym counts.2.2) r.2, counts.2.3))

    -- and such a value is found
    pub value_counted : (v : KindText) → Says base G (cell_fact node name column v) → Explains base G (cell_fact node name column v) → HasCounted g rs m c
    value_counted v said explained =
        let k = (t.read.graph.same (triple_of base (cell_fact node name column v))).1 said in
        let o = k.0.third in
        let object : IsNumberOf g (literal_term v) o = numbered g G t.read.graph (literal_term v) o k.2.2 in
        let has : HasNumbers g m c o = (says_cell v o object).1 said in
        let at : term_at g.terms c ≡ Some (column_term base (column_named name column)) = number_at g G t.read.graph (column_term base (column_named name column)) c property has.1 in
        let found = role_there base g w rs G t.read c (column_term base (column_named name column)) at in
        let r = role_column v.kind explained.1 found.0 found.1 has.1 in
        let kind : v.kind ≡ r.0.kind = one_kind base t.laws G name column v.kind r.0.kind explained.1 r.2 in
        let counts : CountsFor g rs (Some r.0.kind) o = (literal_term v, k.2.2, (v, refl, kind, explained.2)) in
        (o, has, (found.0, found.1, subst (λ role. CountsFor g rs (column_kind role) o) (sym r.1) counts))

  -- ---- classes

  word_kind : (role : Role) → IsRole base g G (word_term RdfType) role → column_kind role ≡ None
  word_kind (variant.Class name) h = refl
  word_kind (variant.Column column) h = absurd (word≢column base t.laws RdfType column.name (sym (iri_of _ _ h.term)))
    where
      iri_of : (a b : List ℕ) → term.Iri a ≡ term.Iri b → a ≡ b
      iri_of a b e = cc
  word_kind (variant.Link link) h = refl
  word_kind variant.Nothing h = refl

  type_at : w.rdf_type ≢ 0 → term_at g.terms w.rdf_type ≡ Some (word_term RdfType)
  type_at apart = number_at g G t.read.graph (word_term RdfType) w.rdf_type t.read.words.rdf_type apart

  module _ (node : Node) (is : x.subject ≡ node_term node) where
    says_node : (name : Name) (o : ℕ) → IsNumberOf g (table_term base name) o → HasNumbers g n.subject w.rdf_type o ↔ Says base G (a_node node name)
    says_node name o object = says g G t.read.graph (triple_of base (a_node node name)) n.subject w.rdf_type o (subst (λ z. IsNumberOf g z n.subject) is t.numbers.subject) t.read.words.rdf_type object

    counted_node : HasCounted g rs n.subject w.rdf_type → (name : Name) × IsNode base G node name
    counted_node h =
        let role = role_is base g w rs G t.read w.rdf_type (word_term RdfType) h.2.0 (type_at h.1.1) h.2.1 in
        let class : CountsFor g rs None h.0 = subst (λ k. CountsFor g rs k h.0) (word_kind h.2.0 role) h.2.2 in
        let named = t.read.graph.lawful.named (record { first = n.subject; second = w.rdf_type; third = h.0 }) h.1.3 in
        let r : IsRole base g G named.0.object (variant.Class class.0) = role_is base g w rs G t.read h.0 named.0.object (variant.Class class.0) named.1.2 class.1 in
        let object : IsNumberOf g (table_term base class.0) h.0 = numbered g G t.read.graph (table_term base class.0) h.0 (named.1.2 ∙ ap Some r.0) in
        (class.0, (r.1, (says_node class.0 h.0 object).0 h.1))

    node_counted : (name : Name) → IsNode base G node name → HasCounted g rs n.subject w.rdf_type
    node_counted name h =
        let k = (t.read.graph.same (triple_of base (a_node node name))).1 h.1 in
        let o = k.0.third in
        let has : HasNumbers g n.subject w.rdf_type o = (says_node name o (numbered g G t.read.graph (table_term base name) o k.2.2)).1 h.1 in
        let found = role_there base g w rs G t.read o (table_term base name) k.2.2 in
        let class = class_role base g w rs G x n t name found.0 found.2 h.0 in
        let property = role_there base g w rs G t.read w.rdf_type (word_term RdfType) (type_at has.1) in
        let counts : CountsFor g rs None o = (class.0, found.1 ∙ ap Some class.1) in
        (o, has, (property.0, property.1, subst (λ r. CountsFor g rs r o) (sym (word_kind property.0 property.2)) counts))

  -- ---- marks and pairs

  module _ (i : ℕ) (at : slice_get G i ≡ Some x) where
    pub mark_passes : (node : Node) → x ≡ triple_of base (a_mark node) → HasCounted g rs n.subject w.rdf_type → Passes base G i
    mark_passes node is h = passes_plain base t.laws G i (a_mark node) tt (at ∙ ap Some is) (counted_node node (ap (λ (z : Statement). z.subject) is) h)

    pub mark_bad : (node : Node) → x ≡ triple_of base (a_mark node) → ¬ HasCounted g rs n.subject w.rdf_type → Applies base G i Unexplained
    mark_bad node is none = applies_unexplained base t.laws G i x at (λ e.
        let k : Explains base G (a_mark node) = (explained_by base t.laws G x (a_mark node) is).0 e in
        none (node_counted node (ap (λ (z : Statement). z.subject) is) k.0 k.1))

    module _ (left right : ℕ) (p : IsPair base g G x left right) where
      from_node : IsNode base G p.node p.from
      from_node = let e = p.explained.1 in subst (IsNode base G p.node) (link_from base t.laws G (rel_link p.relation) e.0 e.1 p.from p.to e.2 p.link) e.3

      to_node : IsNode base G p.other p.to
      to_node = let e = p.explained.1 in subst (IsNode base G p.other) (link_to base t.laws G (rel_link p.relation) e.0 e.1 p.from p.to e.2 p.link) e.4

      subject : x.subject ≡ node_term p.node
      subject = ap (λ (z : Statement). z.subject) p.explained.0

      object : x.object ≡ node_term p.other
      object = ap (λ (z : Statement). z.object) p.explained.0

      pub pair_passes : HasCounted g rs n.subject left → HasCounted g rs n.object right → Passes base G i
      pair_passes a b = passes_pair base t.laws G i p.node (rel_link p.relation) p.other (at ∙ ap Some p.explained.0) p.explained.1 valued
        where
          values : HasExplainedValues base G p.relation p.from p.to p.node p.other
          values = (
            counted_value x.subject n.subject p.node p.from p.relation.left_target left t.numbers.subject subject p.left p.link.sort.left.0 from_node p.link.sort.left.1 a,
            counted_value x.object n.object p.other p.to p.relation.right_target right t.numbers.object object p.right p.link.sort.right.0 to_node p.link.sort.right.1 b,
          )

          valued : (q : RelName) (from to : Name) (c d : Node) → IsLink base G (rel_link q) from to → a_link p.node (rel_link p.relation) p.other ≡ a_link c (rel_link q) d → HasExplainedValues base G q from to c d
          valued q from to c d link e =
              let relation : p.relation ≡ q = same_relation p.node p.other c d p.relation q e in
              let here : IsLink base G (rel_link q) p.from p.to = subst (λ r. IsLink base G (rel_link r) p.from p.to) relation p.link in
              let first : p.from ≡ from = link_from base t.laws G (rel_link q) p.from p.to from to here link in
              let second : p.to ≡ to = link_to base t.laws G (rel_link q) p.from p.to from to here link in
              let node : p.node ≡ c = same_node p.node p.other c d p.relation q e in
              let other : p.other ≡ d = same_other p.node p.other c d p.relation q e in
              subst {A = RelName × Name × Name × Node × Node} (λ z. HasExplainedValues base G z.0 z.1 z.2 z.3 z.4) (λ j. (relation j, first j, second j, node j, other j)) values

      pub pair_bad : ¬ (HasCounted g rs n.subject left × HasCounted g rs n.object right) → Applies base G i NoKeyValue
      pair_bad none = applies_no_value base t.laws G i p.relation p.from p.to p.node p.other p.link (at ∙ ap Some p.explained.0) p.explained.1 (λ h.
          none (
            value_counted x.subject n.subject p.node p.from p.relation.left_target left t.numbers.subject subject p.left h.0.0 h.0.1 h.0.2,
            value_counted x.object n.object p.other p.to p.relation.right_target right t.numbers.object object p.right h.1.0 h.1.1 h.1.2,
          ))
