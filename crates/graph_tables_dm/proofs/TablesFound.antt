-- The tables that are read off a graph: each class and each relation has one, and its cells are what the graph says.
use Rattle.std.proofs.Common.{◌≡◌, ℕ, List, Some, refl, sym, ap, ◌∙◌, subst}
use Rattle.members_dm.specs.Membership.{IsIn}
use Rattle.value_dm.specs.declared.kind.Kind.{Kind}
use Rattle.value_dm.specs.declared.value.Value.{Value}
use Rattle.schema_dm.specs.Naming.{Name}
use Rattle.names_dm.specs.declared.names.ColumnName.{ColumnName}
use Rattle.names_dm.specs.declared.names.RelName.{RelName}
use Rattle.names_dm.specs.declared.term.Term.{Term}
use Rattle.names_dm.specs.declared.term.Term.TheVariants as term
use Rattle.names_dm.specs.Statements.{Statement}
use Rattle.facts_dm.specs.Facts.{Fact, KindText, Node, a_domain, a_node, literal_term, node_term, rel_link, table_term, triple_of}
use Rattle.facts_dm.specs.Meanings.{NamingLaws}
use Rattle.table_csv.specs.Cells.{Cell}
use Rattle.store_dm.specs.declared.listing.Triad.{Triad}
use Rattle.store_dm.specs.Graphs.{GraphValue}
use Rattle.store_dm.specs.Terms.{term_at}
use Rattle.layouts_dm.specs.Layouts.{IsCanonical, column_named, property_iri}
use Rattle.layouts_dm.specs.LayoutTables.{value_text}
use Rattle.layouts_dm.specs.Rules.{Accepted, IsClass, IsColumn, IsLink, Says}
use Rattle.layouts_dm.proofs.Choosing.{zipped}
use Rattle.layouts_dm.proofs.Facts.{table-injective}
use Rattle.layouts_dm.proofs.Sound.{link_from, link_to}
use Rattle.roles_dm.specs.declared.role.LinkName.{LinkName}
use Rattle.roles_dm.specs.declared.role.LinkName.TheVariants.{Reference, Relation}
use Rattle.roles_dm.specs.declared.role.LinkRole.{LinkRole}
use Rattle.roles_dm.specs.declared.role.Role.{Role}
use Rattle.roles_dm.specs.declared.role.Role.TheVariants as role
use Rattle.roles_dm.specs.declared.words.Words.{Words}
use Rattle.roles_dm.specs.Naming.{column_term, link_term}
use Rattle.roles_dm.specs.Numbers.{HasNumbers, IsNumberOf}
use Rattle.roles_dm.specs.Roles.{AreEnds, IsRead, link_named, role_at}
use Rattle.roles_dm.proofs.MeaningLemmas.{CellTold, cell_told}
use Rattle.roles_dm.proofs.NumberLemmas.{not_zero, number_at, numbered, one_number, says}
use Rattle.graph_tables_dm.specs.declared.listed.NumberedName.{NumberedName}
use Rattle.graph_tables_dm.specs.declared.table.GraphTable.{GraphTable}
use Rattle.graph_tables_dm.specs.Cells.{IsCellAt, IsValueOf, kind_at, some_kind}
use Rattle.graph_tables_dm.specs.Columns.{IsColumnOf, IsRowAt}
use Rattle.graph_tables_dm.specs.Listed.{IsTabled, relation_table_name}
use Rattle.graph_tables_dm.specs.TableReadings.{AreTables, IsClassTable, IsLinkTable, IsRelationTable, IsRoleTable, IsTableAt}
use Rattle.graph_tables_dm.proofs.RolesFound.{ColumnFound, HasRole, class_found, column_found, link_found, number_is, term_of_role}

unsome_role : (r s : Role) → Some r ≡ Some s → r ≡ s
unsome_role r s e = cc

unsome_term : (x y : Term) → Some x ≡ Some y → x ≡ y
unsome_term x y e = cc

iri_of : (x y : List ℕ) → term.Iri x ≡ term.Iri y → x ≡ y
iri_of x y e = cc

relation_name : (n : LinkName) (q : RelName) → link_named n ≡ rel_link q → n ≡ Relation q
relation_name (Relation p) q e = (let f : rel_link p ≡ rel_link q = e in cc)
relation_name (Reference r) q e = absurd (let f : link_named (Reference r) ≡ rel_link q = e in cc)

module _ (base : List ℕ) (laws : NamingLaws base) (g : GraphValue) (w : Words) (rs : List Role) (G : List Statement) (read : IsRead base g w rs G) where
  -- ---- the triples of numbers

  -- a triple that the graph says has numbers
  pub record Numbers (f : Fact) : Type 0 where
    pub first : ℕ
    pub second : ℕ
    pub third : ℕ
    pub subject : term_at g.terms first ≡ Some (triple_of base f).subject
    pub predicate : term_at g.terms second ≡ Some (term.Iri (triple_of base f).predicate)
    pub object : term_at g.terms third ≡ Some (triple_of base f).object
    pub has : HasNumbers g first second third

  pub numbers_of : (f : Fact) → Says base G f → Numbers f
  numbers_of f s =
      let h = (read.graph.same (triple_of base f)).1 s in
      let n : Triad = h.0 in
      record {
        first = n.first;
        second = n.second;
        third = n.third;
        subject = h.2.0;
        predicate = h.2.1;
        object = h.2.2;
        has = (says g G read.graph (triple_of base f) n.first n.second n.third (numbered g G read.graph _ n.first h.2.0) (numbered g G read.graph _ n.second h.2.1) (numbered g G read.graph _ n.third h.2.2)).1 s;
      }

  pub one_term : (n : ℕ) (x y : Term) → term_at g.terms n ≡ Some x → term_at g.terms n ≡ Some y → x ≡ y
  one_term n x y a b = unsome_term x y (sym a ∙ b)

  pub one_place : (x : Term) (m n : ℕ) → term_at g.terms m ≡ Some x → term_at g.terms n ≡ Some x → m ≡ n
  one_place x m n a b = one_number g.terms x m n read.graph.lawful.apart a b

  pub one_role : (n : ℕ) (r s : Role) → role_at rs n ≡ Some r → role_at rs n ≡ Some s → r ≡ s
  one_role n r s a b = unsome_role r s (sym a ∙ b)

  -- the statement of numbers
  pub said_by : (n p o : ℕ) → HasNumbers g n p o → (s : Statement) × IsIn s G × (term_at g.terms n ≡ Some s.subject) × (term_at g.terms p ≡ Some (term.Iri s.predicate)) × (term_at g.terms o ≡ Some s.object)
  said_by n p o h =
      let t : Triad = record { first = n; second = p; third = o } in
      let x = read.graph.lawful.named t h.3 in
      (x.0, (read.graph.same x.0).0 (t, h.3, x.1), x.1.0, x.1.1, x.1.2)

  -- numbers of a fact's three terms
  pub says_numbers : (f : Fact) (n p o : ℕ) → term_at g.terms n ≡ Some (triple_of base f).subject → term_at g.terms p ≡ Some (term.Iri (triple_of base f).predicate) → term_at g.terms o ≡ Some (triple_of base f).object
      → HasNumbers g n p o → Says base G f
  says_numbers f n p o a b c h = (says g G read.graph (triple_of base f) n p o (numbered g G read.graph _ n a) (numbered g G read.graph _ p b) (numbered g G read.graph _ o c)).0 h

  pub numbers_said : (f : Fact) (n p o : ℕ) → term_at g.terms n ≡ Some (triple_of base f).subject → term_at g.terms p ≡ Some (term.Iri (triple_of base f).predicate) → term_at g.terms o ≡ Some (triple_of base f).object
      → Says base G f → HasNumbers g n p o
  numbers_said f n p o a b c s = (says g G read.graph (triple_of base f) n p o (numbered g G read.graph _ n a) (numbered g G read.graph _ p b) (numbered g G read.graph _ o c)).1 s

  -- those of a node of a class
  pub node_numbers : (n t : ℕ) (x : Node) (c : Name) → term_at g.terms n ≡ Some (node_term x) → term_at g.terms t ≡ Some (table_term base c) → Says base G (a_node x c) → HasNumbers g n w.rdf_type t
  node_numbers n t x c a b s = (says g G read.graph (triple_of base (a_node x c)) n w.rdf_type t (numbered g G read.graph _ n a) read.words.rdf_type (numbered g G read.graph _ t b)).1 s

  pub node_said : (n t : ℕ) (x : Node) (c : Name) → term_at g.terms n ≡ Some (node_term x) → term_at g.terms t ≡ Some (table_term base c) → HasNumbers g n w.rdf_type t → Says base G (a_node x c)
  node_said n t x c a b h = (says g G read.graph (triple_of base (a_node x c)) n w.rdf_type t (numbered g G read.graph _ n a) read.words.rdf_type (numbered g G read.graph _ t b)).0 h

  -- ---- columns

  -- a column that the graph has is one of its class by numbers
  pub record ColumnNumber (t c : Name) (k : Kind) (class : ℕ) : Type 0 where
    pub number : ℕ
    pub at : term_at g.terms number ≡ Some (column_term base (column_named t c))
    pub kind : kind_at rs number ≡ k
    pub is : IsColumnOf g w rs class (record { name = c; number = number })

  pub column_number : (t c : Name) (k : Kind) (class : ℕ) → term_at g.terms class ≡ Some (table_term base t) → IsColumn base G t c k → ColumnNumber t c k class
  column_number t c k class at h =
      let f : ColumnFound base laws g w rs G read t c k = column_found base laws g w rs G read t c k h in
      let n = f.has.number in
      let x = term_of_role base laws g w rs G read n (role.Column f.found) f.has.here in
      let table : f.found.name.table ≡ t = ap (λ (m : ColumnName). m.table) f.name in
      let is_class : f.found.class ≡ class =
      number_is base laws g w rs G read (table_term base f.found.name.table) f.found.class class x.2.class (at ∙ ap (λ u. Some (table_term base u)) (sym table)) in
      let domain : HasNumbers g n w.domain class =
      (says g G read.graph (triple_of base (a_domain (property_iri base t c) t)) n w.domain class (numbered g G read.graph _ n f.has.at) read.words.domain (numbered g G read.graph _ class at)).1 h.domain in
      record {
        number = n;
        at = f.has.at;
        kind = ap some_kind f.has.here ∙ f.kind;
        is = (domain, (f.found, f.has.here, is_class, ap (λ (m : ColumnName). m.column) f.name));
      }

  pub kind_here : (t c : Name) (k : Kind) (n : ℕ) → term_at g.terms n ≡ Some (column_term base (column_named t c)) → IsColumn base G t c k → kind_at rs n ≡ k
  kind_here t c k n at h =
      let f : ColumnFound base laws g w rs G read t c k = column_found base laws g w rs G read t c k h in
      ap (λ i. kind_at rs i) (one_place (column_term base (column_named t c)) n f.has.number at f.has.at) ∙ ap some_kind f.has.here ∙ f.kind

  -- a column of a class by numbers is one that the graph has
  pub record ColumnRead (t c : Name) (n : ℕ) : Type 0 where
    pub at : term_at g.terms n ≡ Some (column_term base (column_named t c))
    pub is : IsColumn base G t c (kind_at rs n)

  pub column_read : (t : Name) (class : ℕ) (e : NumberedName) → term_at g.terms class ≡ Some (table_term base t) → IsColumnOf g w rs class e → ColumnRead t e.name e.number
  column_read t class e at h =
      let c = h.1.0 in
      let x = term_of_role base laws g w rs G read e.number (role.Column c) h.1.1 in
      let number : IsNumberOf g (table_term base c.name.table) class = subst (IsNumberOf g (table_term base c.name.table)) h.1.2 x.2.class in
      let at_class : term_at g.terms class ≡ Some (table_term base c.name.table) = number_at g G read.graph (table_term base c.name.table) class number (not_zero g.terms (table_term base t) class at) in
      let table : c.name.table ≡ t = table-injective base laws c.name.table t (iri_of _ _ (one_term class _ _ at_class at)) in
      let name : c.name ≡ column_named t e.name = λ i. record { table = table i; column = h.1.3 i } in
      let kind : c.kind ≡ kind_at rs e.number = sym (ap some_kind h.1.1) in
      record {
        at = x.1 ∙ ap Some x.2.term ∙ ap (λ (n : ColumnName). Some (column_term base n)) name;
        is = subst (IsColumn base G t e.name) kind (subst (λ (n : ColumnName). IsColumn base G n.table n.column c.kind) name x.2.column);
      }

  -- the columns that a relation is named with, by the numbers of its role
  pub link_ends : (q : RelName) (t u : Name) → IsLink base G (rel_link q) t u → (n : ℕ) (l : LinkRole) → l.name ≡ Relation q → role_at rs n ≡ Some (role.Link l)
      → (term_at g.terms l.left ≡ Some (column_term base (column_named t q.left_target))) × (term_at g.terms l.right ≡ Some (column_term base (column_named u q.right_target)))
  link_ends q t u h n l name here =
      let x = term_of_role base laws g w rs G read n (role.Link l) here in
      let link : IsLink base G (rel_link q) x.2.source x.2.target = subst (λ k. IsLink base G (link_named k) x.2.source x.2.target) name x.2.link in
      let from : x.2.source ≡ t = link_from base laws G (rel_link q) x.2.source x.2.target t u link h in
      let to : x.2.target ≡ u = link_to base laws G (rel_link q) x.2.source x.2.target t u link h in
      let ends : AreEnds base g x.2.source x.2.target (Relation q) l.left l.right = subst (λ k. AreEnds base g x.2.source x.2.target k l.left l.right) name x.2.ends in
      let left = column_found base laws g w rs G read t q.left_target h.sort.left.0 h.sort.left.1 in
      let right = column_found base laws g w rs G read u q.right_target h.sort.right.0 h.sort.right.1 in (
        number_here t q.left_target l.left left.has.number (subst (λ s. IsNumberOf g (column_term base (column_named s q.left_target)) l.left) from ends.0) left.has.at,
        number_here u q.right_target l.right right.has.number (subst (λ s. IsNumberOf g (column_term base (column_named s q.right_target)) l.right) to ends.1) right.has.at,
      )
    where
      number_here : (s c : Name) (i j : ℕ) → IsNumberOf g (column_term base (column_named s c)) i → term_at g.terms j ≡ Some (column_term base (column_named s c)) → term_at g.terms i ≡ Some (column_term base (column_named s c))
      number_here s c i j number at = subst (λ k. term_at g.terms k ≡ Some (column_term base (column_named s c))) (sym (number_is base laws g w rs G read (column_term base (column_named s c)) i j number at)) at

  -- ---- cells

  -- an object of an accepted graph is the canonical literal of a value
  pub object_told : Accepted base G → (x : Node) (t c : Name) (k : Kind) → IsColumn base G t c k → (n p o : ℕ) → term_at g.terms p ≡ Some (column_term base (column_named t c)) → HasNumbers g n p o
      → (v : Value) × IsValueOf k v × (term_at g.terms o ≡ Some (literal_term (value_text v)))
  object_told a x t c k column n p o b h =
      let s = said_by n p o h in
      let told : CellTold base laws G s.0 (column_named t c) k = cell_told base laws G s.0 (column_named t c) k (one_term p _ _ s.3 b, column) (a.explained s.0 s.1) in
      let v : IsCanonical told.value = told.canonical in
      let same : told.value ≡ value_text v.0 = λ i. record { kind = sym v.2 i; text = sym v.3 i } in
      (v.0, (v.2 ∙ told.kind, v.1), s.4 ∙ ap Some told.object ∙ ap (λ (y : KindText). Some (literal_term y)) same)

  -- ---- tables

  module _ (made : List GraphTable) (m : AreTables g w rs made) where
    table_there : (n : ℕ) (name : Name) → IsTabled rs (record { name = name; number = n }) → (T : GraphTable) × IsIn T made × IsTableAt g w rs n T
    table_there n name h = zipped (λ (e : NumberedName) T. IsTableAt g w rs e.number T) m.names made m.each (record { name = name; number = n }) ((m.all.lists.items (record { name = name; number = n })).1 h)

    pub record ClassTable (t : Name) : Type 0 where
      pub number : ℕ
      pub at : term_at g.terms number ≡ Some (table_term base t)
      pub table : GraphTable
      pub there : IsIn table made
      pub is : IsClassTable g w rs number t table

    pub class_table : (t : Name) → IsClass base G t → ClassTable t
    class_table t h =
        let f : HasRole base laws g w rs G read (table_term base t) (role.Class t) = class_found base laws g w rs G read t h in
        let z = table_there f.number t (role.Class t, f.here, refl) in
        let same : z.2.0 ≡ role.Class t = one_role f.number z.2.0 (role.Class t) z.2.1 f.here in
        record { number = f.number; at = f.at; table = z.0; there = z.1; is = subst (λ r. IsRoleTable g w rs f.number r z.0) same z.2.2 }

    pub record RelationTable (q : RelName) (t u : Name) : Type 0 where
      pub number : ℕ
      pub at : term_at g.terms number ≡ Some (link_term base (rel_link q))
      pub found : LinkRole
      pub left : term_at g.terms found.left ≡ Some (column_term base (column_named t q.left_target))
      pub right : term_at g.terms found.right ≡ Some (column_term base (column_named u q.right_target))
      pub table : GraphTable
      pub there : IsIn table made
      pub is : IsRelationTable g rs number found q table

    pub relation_table : (q : RelName) (t u : Name) → IsLink base G (rel_link q) t u → RelationTable q t u
    relation_table q t u h =
        let f = link_found base laws g w rs G read (rel_link q) t u h in
        let n = f.has.number in
        let name : f.found.name ≡ Relation q = relation_name f.found.name q f.name in
        let z = table_there n q.table (role.Link f.found, f.has.here, ap relation_table_name name) in
        let same : z.2.0 ≡ role.Link f.found = one_role n z.2.0 (role.Link f.found) z.2.1 f.has.here in
        let ends = link_ends q t u h n f.found name f.has.here in
        record {
          number = n;
          at = f.has.at;
          found = f.found;
          left = ends.0;
          right = ends.1;
          table = z.0;
          there = z.1;
          is = subst (λ k. IsLinkTable g rs n f.found k z.0) name (subst (λ r. IsRoleTable g w rs n r z.0) same z.2.2);
        }

    -- the cell that a node of a class has in a column
    pub record CellRead (x : Node) (t c : Name) (k : Kind) : Type 0 where
      pub cell : Cell
      pub node : ℕ
      pub column : ℕ
      pub at_node : term_at g.terms node ≡ Some (node_term x)
      pub at_column : term_at g.terms column ≡ Some (column_term base (column_named t c))
      pub kind : kind_at rs column ≡ k
      pub is : IsCellAt g rs node column cell

    pub cell_read : (x : Node) (t c : Name) (k : Kind) → IsClass base G t → IsColumn base G t c k → Says base G (a_node x t) → CellRead x t c k
    cell_read x t c k class column said =
        let T = class_table t class in
        let col = column_number t c k T.number T.at column in
        let e : NumberedName = record { name = c; number = col.number } in
        let n = numbers_of (a_node x t) said in
        let row = zipped (IsRowAt g rs T.is.columns) T.is.nodes T.table.rows T.is.rows n.first ((T.is.are_nodes.items n.first).1 (node_numbers n.first T.number x t n.subject T.at said)) in
        let cell = zipped (λ (d : NumberedName) y. IsCellAt g rs n.first d.number y) T.is.columns row.0 row.2 e ((T.is.are_columns.lists.items e).1 col.is) in
        record { cell = cell.0; node = n.first; column = col.number; at_node = n.subject; at_column = col.at; kind = col.kind; is = cell.2 }
