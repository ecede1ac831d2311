-- The tables that are read off an accepted graph are those of its layout.
use Rattle.std.specs.Prelude.{◌↔◌, ◌≢◌}
use Rattle.std.proofs.Common.{◌≡◌, ◌<◌, ℕ, List, [], ◌∷◌, Option, Some, None, Bool, true, false, map, length, refl, sym, ap, ◌∙◌, subst, inl, inr, arith}
use Rattle.std.specs.List.{AllZip}
use Rattle.std.specs.List.Sorted.{IsPermutation}
use Rattle.std.specs.Option.{option_map}
use Rattle.std.proofs.lemmas.List.Sorted.{IsPermutation-map}
use Rattle.members_dm.specs.Membership.{IsIn, IsRising, SameItems}
use Rattle.members_dm.proofs.ElementsLemmas.{NoRepeats-map, each_from_items, permutation_of_items}
use Rattle.members_dm.proofs.MembershipLemmas.{IsIn-map, map-IsIn}
use Rattle.value_dm.specs.declared.kind.Kind.{Kind}
use Rattle.schema_dm.specs.Naming.{Name, column_names}
use Rattle.schema_dm.specs.Shapes.{IsBefore, IsShapeColumn}
use Rattle.schema_dm.specs.declared.draft.Column.{Column}
use Rattle.schema_dm.specs.declared.table.ShapeTable.{ShapeTable}
use Rattle.names_dm.specs.declared.names.RelName.{RelName}
use Rattle.names_dm.specs.declared.term.Term.{Term}
use Rattle.names_dm.specs.declared.term.Term.TheVariants as term
use Rattle.names_dm.specs.Names.{table_iri}
use Rattle.names_dm.specs.Statements.{Statement}
use Rattle.facts_dm.specs.declared.word.Word.{Word}
use Rattle.facts_dm.specs.declared.word.Word.TheVariants.{RdfType}
use Rattle.facts_dm.specs.Facts.{Fact, KindText, Node, a_class, a_link, a_node, blank, iri, node_term, rel_link, table_term, triple_of, word_term}
use Rattle.facts_dm.specs.Meanings.{NamingLaws}
use Rattle.facts_dm.specs.Vocabulary.{word_iri}
use Rattle.table_csv.specs.Cells.{Cell, IsCellOf, IsRowOf, Row}
use Rattle.table_csv.specs.Plain.{PlainTable}
use Rattle.store_dm.specs.Graphs.{GraphValue}
use Rattle.store_dm.specs.Terms.{term_at}
use Rattle.layouts_dm.specs.Layouts.{Class, ClassColumn, HasColumnOfKind, IsGoodLink, IsGoodName, Layout, Part, cell_fact, column_named, range_fact}
use Rattle.layouts_dm.specs.LayoutTables.{AreOfShape, AreTablesOf, IsOfShape, IsTableOf, LiteralTable, SameTable, StandsFor, class_column, class_table, in_order, is_before, literal_table, relation_table, value_text}
use Rattle.layouts_dm.specs.Outcomes.{Applies, Cause}
use Rattle.layouts_dm.specs.Rules.{Accepted, Explains, IsClass, IsColumn, IsLink, ReadOff, Says}
use Rattle.layouts_dm.proofs.Choosing.{zipped_back}
use Rattle.layouts_dm.proofs.Facts.{table-injective, word≢table}
use Rattle.layouts_dm.proofs.Outcomes.{explains_of, some_class}
use Rattle.layouts_dm.proofs.Sorting.{before_false, before_true, name_order}
use Rattle.layouts_dm.proofs.Sound as sound
use Rattle.layouts_dm.proofs.Sound.{link_from, link_to}
use Rattle.roles_dm.specs.declared.role.LinkName.{LinkName}
use Rattle.roles_dm.specs.declared.role.LinkName.TheVariants.{Reference, Relation}
use Rattle.roles_dm.specs.declared.role.LinkRole.{LinkRole}
use Rattle.roles_dm.specs.declared.role.Role.{Role}
use Rattle.roles_dm.specs.declared.role.Role.TheVariants as role
use Rattle.roles_dm.specs.declared.words.Words.{Words}
use Rattle.roles_dm.specs.Naming.{column_term, link_term}
use Rattle.roles_dm.specs.Numbers.{HasNumbers}
use Rattle.roles_dm.specs.Roles.{IsRead, link_named, role_at}
use Rattle.roles_dm.proofs.Explaining.{as_node}
use Rattle.roles_dm.proofs.MeaningLemmas.{PairTold, pair_told}
use Rattle.roles_dm.proofs.NumberLemmas.{number_at}
use Rattle.graph_tables_dm.specs.declared.listed.NumberedName.{NumberedName}
use Rattle.graph_tables_dm.specs.declared.table.GraphTable.{GraphTable}
use Rattle.graph_tables_dm.specs.Cells.{IsCellAt, kind_at}
use Rattle.graph_tables_dm.specs.Columns.{IsRowAt, column_at}
use Rattle.graph_tables_dm.specs.TableReadings.{AreTables, IsLinkTable, IsPairRow, IsRelationTable, IsRoleTable, IsTableAt, plain_of, shape_column}
use Rattle.graph_tables_dm.proofs.AcceptedGraph.{accepted}
use Rattle.graph_tables_dm.proofs.Collecting.{zip_agree}
use Rattle.graph_tables_dm.proofs.FactsTold.{cell, nodes, nodes_once, nodes_same}
use Rattle.graph_tables_dm.proofs.GraphLayout.{ClassTableRead, cell_said, cell_there, class_from, class_of, class_read, class_said, class_to, columns_rising, layout, read_off, tables_rising}
use Rattle.graph_tables_dm.proofs.RolesFound.{term_of_role}
use Rattle.graph_tables_dm.proofs.TablesFound.{column_read, kind_here, link_ends, numbers_of, numbers_said, object_told, one_place, one_term, said_by, says_numbers}
use Rattle.graph_tables_dm.proofs.TablesFound as found

-- ---- lists

abbrev literals : Row → List (Option KindText)
literals row = map (option_map value_text) row

map_map : {X Y Z : Type 0} (f : X → Y) (h : Y → Z) (xs : List X) → map h (map f xs) ≡ map (λ x. h (f x)) xs
map_map f h [] = refl
map_map f h (x ∷ xs) = ap (λ zs. h (f x) ∷ zs) (map_map f h xs)

map_in_order : {X Y : Type 0} (f : X → Y) (b : Bool) (x y : X) → map f (in_order b x y) ≡ in_order b (f x) (f y)
map_in_order f true x y = refl
map_in_order f false x y = refl

some_item : {X : Type 0} (x : X) (xs : List X) → IsIn x xs → 0 < length xs
some_item x [] i = absurd i
some_item x (y ∷ ys) i = omega arith

in_order_item : {X : Type 0} (P : X → Type 0) (b : Bool) (x y z : X) → P x → P y → IsIn z (in_order b x y) → P z
in_order_item P true x y z p q (inl e) = subst P e p
in_order_item P true x y z p q (inr (inl e)) = subst P e q
in_order_item P true x y z p q (inr (inr h)) = absurd h
in_order_item P false x y z p q (inl e) = subst P e q
in_order_item P false x y z p q (inr (inl e)) = subst P e p
in_order_item P false x y z p q (inr (inr h)) = absurd h

in_order_some : {X : Type 0} (b : Bool) (x y : X) → 0 < length (in_order b x y)
in_order_some true x y = omega arith
in_order_some false x y = omega arith

in_order_zip : {X Y : Type 0} (R : X → Y → Type 0) (b : Bool) (x y : X) (z v : Y) → R x z → R y v → AllZip R (in_order b x y) (in_order b z v)
in_order_zip R true x y z v h k = (h, (k, tt))
in_order_zip R false x y z v h k = (k, (h, tt))

two_rising : (x y : Name) → IsBefore x y → IsRising IsBefore (x ∷ y ∷ [])
two_rising x y h = ((λ z i. elim i [ inl e ↦ subst (IsBefore x) e h | inr k ↦ absurd k ]), ((λ z i. absurd i), tt))

in_order_rising : (x y : Name) → x ≢ y → IsRising IsBefore (in_order (is_before x y) x y)
in_order_rising x y apart = elim (name_order x y) [
  | inl e ↦ absurd (apart e)
  | inr h ↦ elim h [
    | inl before ↦ subst (λ b. IsRising IsBefore (in_order b x y)) (sym (before_true x y before)) (two_rising x y before)
    | inr after ↦ subst (λ b. IsRising IsBefore (in_order b x y)) (sym (before_false x y after)) (two_rising y x after)
  ]
]

-- ---- nodes

some_node : Option Term → Node
some_node (Some (term.Iri i)) = iri i
some_node (Some (term.Blank b)) = blank b
some_node (Some (term.Literal v)) = blank []
some_node None = blank []

node_back : (x : Node) → some_node (Some (node_term x)) ≡ x
unfolding some_node
node_back (iri i) = refl
node_back (blank b) = refl

iri_of : (x y : List ℕ) → term.Iri x ≡ term.Iri y → x ≡ y
iri_of x y e = cc

-- ---- cells by the rules of a shape

module _ (g : GraphValue) (rs : List Role) where
  cell_of : (n p : ℕ) (name : Name) (y : Cell) → IsCellAt g rs n p y → IsCellOf (shape_column name (kind_at rs p)) y
  cell_of n p name None h = refl
  cell_of n p name (Some v) (inl h) = absurd (let f : Some v ≡ None = h.1 in cc)
  cell_of n p name (Some v) (inr h) = h.2.0

  cells_of : (n : ℕ) (es : List NumberedName) (row : Row) → IsRowAt g rs es n row → IsRowOf (map (column_at rs) es) row
  cells_of n [] [] h = tt
  cells_of n [] (y ∷ row) h = absurd h
  cells_of n (e ∷ es) [] h = absurd h
  cells_of n (e ∷ es) (y ∷ row) h = (cell_of n e.number e.name y h.0, cells_of n es row h.1)

module _ (base : List ℕ) (laws : NamingLaws base) (g : GraphValue) (w : Words) (rs : List Role) (G : List Statement) (read : IsRead base g w rs G)
    (made : List GraphTable) (m : AreTables g w rs made) (a : Accepted base G) where
  explains : (f : Fact) → Says base G f → Explains base G f
  explains f s = explains_of base laws G a f s

  abbrev L : Layout
  L = layout base laws g w rs G read made m

  off : ReadOff base G L
  off = read_off base laws g w rs G read made m a

  -- ---- cells

  no_value : (x : Node) (t c : Name) → Says base G (a_node x t) → ((v : KindText) → ¬ Says base G (cell_fact x t c v)) → cell base laws G x c ≡ None
  no_value x t c node none = go (cell base laws G x c) refl
    where
      go : (o : Option KindText) → cell base laws G x c ≡ o → cell base laws G x c ≡ None
      go None e = e
      go (Some v) e = absurd (none v (cell_said base laws g w rs G read made m a x t c v node e))

  -- the literal of a cell that is read is what the layout has there
  read_cell : (n p : ℕ) (x : Node) (t c : Name) → term_at g.terms n ≡ Some (node_term x) → term_at g.terms p ≡ Some (column_term base (column_named t c)) → Says base G (a_node x t) → IsColumn base G t c (kind_at rs p)
      → (y : Cell) → IsCellAt g rs n p y → option_map value_text y ≡ cell base laws G x c
  read_cell n p x t c at_n at_p node column y (inl h) =
      ap (option_map value_text) h.1
      ∙ sym (no_value x t c node (λ v s. let q = numbers_of base laws g w rs G read (cell_fact x t c v) s in h.0 q.third (numbers_said base laws g w rs G read (cell_fact x t c v) n p q.third at_n at_p q.object s)))
  read_cell n p x t c at_n at_p node column None (inr h) =
      let v = object_told base laws g w rs G read a x t c (kind_at rs p) column n p h.0 at_p h.1 in
      absurd (h.2 v.0 v.1 v.2)
  read_cell n p x t c at_n at_p node column (Some v) (inr h) =
      let said : Says base G (cell_fact x t c (value_text v)) = says_numbers base laws g w rs G read (cell_fact x t c (value_text v)) n p h.0 at_n at_p h.2.1 h.1 in
      sym (cell_there base laws g w rs G read made m a x t c (value_text v) node said)

  -- ---- nodes

  node_at : ℕ → Node
  node_at n = some_node (term_at g.terms n)

  at_node : (n : ℕ) (x : Node) → term_at g.terms n ≡ Some (node_term x) → node_at n ≡ x
  unfolding node_at
  at_node n x e = ap some_node e ∙ node_back x

  record NodeRead (n : ℕ) (t : Name) : Type 0 where
    node : Node
    at : term_at g.terms n ≡ Some (node_term node)
    said : Says base G (a_node node t)

  no_word : (o : Term) (t : Name) → o ≡ table_term base t → (v : Word) → o ≢ word_term v
  no_word o t e v f = word≢table base laws v t (iri_of (word_iri v) (table_iri base t) (sym f ∙ e))

  one_table : (s : Statement) (x : Node) (t u : Name) → s ≡ triple_of base (a_node x u) → s.object ≡ table_term base t → u ≡ t
  one_table s x t u e f = table-injective base laws u t (iri_of (table_iri base u) (table_iri base t) (sym (ap (λ (y : Statement). y.object) e) ∙ f))

  -- the node that a triple gives a class
  node_of : (s : Statement) (t : Name) → IsIn s G → s.predicate ≡ word_iri RdfType → s.object ≡ table_term base t → (x : Node) × (s.subject ≡ node_term x) × Says base G (a_node x t)
  node_of s t i p o =
      let x = as_node base laws G s p (no_word s.object t o) (a.explained s i) in
      let table : x.1 ≡ t = one_table s x.0 t x.1 x.2 o in
      (x.0, ap (λ (y : Statement). y.subject) x.2, subst (λ u. Says base G (a_node x.0 u)) table (subst (λ y. IsIn y G) x.2 i))

  node_read : (n class : ℕ) (t : Name) → term_at g.terms class ≡ Some (table_term base t) → HasNumbers g n w.rdf_type class → NodeRead n t
  node_read n class t at h =
      let s = said_by base laws g w rs G read n w.rdf_type class h in
      let type : term_at g.terms w.rdf_type ≡ Some (word_term RdfType) = number_at g G read.graph (word_term RdfType) w.rdf_type read.words.rdf_type h.1 in
      let predicate : s.0.predicate ≡ word_iri RdfType = iri_of s.0.predicate (word_iri RdfType) (one_term base laws g w rs G read w.rdf_type (term.Iri s.0.predicate) (word_term RdfType) s.3 type) in
      let object : s.0.object ≡ table_term base t = one_term base laws g w rs G read class s.0.object (table_term base t) s.4 at in
      let x = node_of s.0 t s.1 predicate object in
      record { node = x.0; at = s.2 ∙ ap Some x.1; said = x.2 }

  -- ---- the table of a class

  abbrev node_row : List ClassColumn → Node → List (Option KindText)
  node_row ds x = map (λ (d : ClassColumn). cell base laws G x d.name) ds

  row_names : (es : List NumberedName) (x : Node) → node_row (map class_column (map (column_at rs) es)) x ≡ map (λ (e : NumberedName). cell base laws G x e.name) es
  row_names [] x = refl
  row_names (e ∷ es) x = ap (λ ys. cell base laws G x e.name ∷ ys) (row_names es x)

  class_rows : (T : GraphTable) (r : ClassTableRead base laws g w rs G read made m a T) → map (λ n. node_row (map class_column T.table.columns) (node_at n)) r.is.nodes ≡ map literals T.rows
  class_rows T r = zip_agree (IsRowAt g rs r.is.columns) (λ n. node_row (map class_column T.table.columns) (node_at n)) literals r.is.nodes T.rows row r.is.rows
    where
      row : (n : ℕ) (y : Row) → IsIn n r.is.nodes → IsRowAt g rs r.is.columns n y → node_row (map class_column T.table.columns) (node_at n) ≡ literals y
      row n y i h =
          let x = node_read n r.number T.table.name r.at ((r.is.are_nodes.items n).0 i) in
          ap (λ cs. node_row (map class_column cs) (node_at n)) (ap (λ (s : ShapeTable). s.columns) r.is.shape)
          ∙ row_names r.is.columns (node_at n)
          ∙ zip_agree (λ (e : NumberedName) c. IsCellAt g rs n e.number c) (λ (e : NumberedName). cell base laws G (node_at n) e.name) (option_map value_text) r.is.columns y
          (λ e c j k.
          let column = column_read base laws g w rs G read T.table.name r.number e r.at ((r.is.are_columns.lists.items e).0 j) in
          ap (λ z. cell base laws G z e.name) (at_node n x.node x.at) ∙ sym (read_cell n e.number x.node T.table.name e.name x.at column.at x.said column.is c k)) h

  class_nodes : (T : GraphTable) (r : ClassTableRead base laws g w rs G read made m a T) → IsPermutation (map node_at r.is.nodes) (nodes base laws G T.table.name)
  class_nodes T r = permutation_of_items (map node_at r.is.nodes) (nodes base laws G T.table.name) (NoRepeats-map node_at r.is.nodes one r.is.are_nodes.once) (nodes_once base laws G T.table.name) same
    where
      node : (n : ℕ) → IsIn n r.is.nodes → NodeRead n T.table.name
      node n i = node_read n r.number T.table.name r.at ((r.is.are_nodes.items n).0 i)

      one : (n o : ℕ) → IsIn n r.is.nodes → IsIn o r.is.nodes → node_at n ≡ node_at o → n ≡ o
      one n o i j e =
          let x = node n i in
          let y = node o j in
          let z : x.node ≡ y.node = sym (at_node n x.node x.at) ∙ e ∙ at_node o y.node y.at in
          one_place base laws g w rs G read (node_term y.node) n o (x.at ∙ ap (λ v. Some (node_term v)) z) y.at

      same : SameItems (map node_at r.is.nodes) (nodes base laws G T.table.name)
      same x = (
        (λ i.
            let n = IsIn-map node_at x r.is.nodes i in
            let y = node n.0 n.1 in
            (nodes_same base laws G T.table.name x).1 (subst (λ v. Says base G (a_node v T.table.name)) (sym (at_node n.0 y.node y.at) ∙ n.2) y.said)),
        (λ i.
            let s = (nodes_same base laws G T.table.name x).0 i in
            let q = numbers_of base laws g w rs G read (a_node x T.table.name) s in
            let there = (r.is.are_nodes.items q.first).1 (found.node_numbers base laws g w rs G read q.first r.number x T.table.name q.subject r.at s) in
            subst (λ v. IsIn v (map node_at r.is.nodes)) (at_node q.first x q.subject) (map-IsIn node_at q.first r.is.nodes there)),
      )

  class_same : (T : GraphTable) → ClassTableRead base laws g w rs G read made m a T → SameTable (literal_table (plain_of T)) (class_table L (class_of base laws g w rs G read made m T))
  class_same T r = record {
    name = refl;
    columns = refl;
    rows = subst (λ rows. IsPermutation rows (map (node_row (map class_column T.table.columns)) (nodes base laws G T.table.name)))
        (map_map node_at (node_row (map class_column T.table.columns)) r.is.nodes ∙ class_rows T r)
        (IsPermutation-map (node_row (map class_column T.table.columns)) (map node_at r.is.nodes) (nodes base laws G T.table.name) (class_nodes T r));
  }

  class_shape : (T : GraphTable) → IsIn T made → IsClass base G T.table.name → ClassTableRead base laws g w rs G read made m a T → IsOfShape (plain_of T)
  class_shape T i class r = record {
    name = class.1;
    some =
        let h = explains (a_class T.table.name) class.0 in
        let d = off.columns (class_of base laws g w rs G read made m T) h.0 h.1 (class_to base laws g w rs G read made m T i class.0) h.2.range in
        let c = IsIn-map class_column d.0 T.table.columns d.1 in
        some_item c.0 T.table.columns c.1;
    rising = columns_rising base laws g w rs G read made m a T r;
    columns = λ column j.
        let e = IsIn-map (column_at rs) column r.is.columns (subst (λ cs. IsIn column cs) columns j) in
        let there = column_read base laws g w rs G read T.table.name r.number e.0 r.at ((r.is.are_columns.lists.items e.0).0 e.1) in
        subst IsShapeColumn e.2 (there.is.good, refl);
    rows = each_from_items (IsRowOf T.table.columns) T.rows (λ row j.
        let n = zipped_back (IsRowAt g rs r.is.columns) r.is.nodes T.rows r.is.rows row j in
        subst (λ cs. IsRowOf cs row) (sym columns) (cells_of g rs n.0 r.is.columns row n.2));
  }
    where
      columns : T.table.columns ≡ map (column_at rs) r.is.columns
      columns = ap (λ (s : ShapeTable). s.columns) r.is.shape

  -- ---- the table of a relation

  -- a table that is read off for a relation, and the part of the layout
  record RelationRead (T : GraphTable) : Type 0 where
    name : RelName
    part : Part
    there : IsIn part L.parts
    is_link : part.link ≡ rel_link name
    link : IsLink base G (rel_link name) part.from part.to
    number : ℕ
    at : term_at g.terms number ≡ Some (link_term base (rel_link name))
    role : LinkRole
    left : term_at g.terms role.left ≡ Some (column_term base (column_named part.from name.left_target))
    right : term_at g.terms role.right ≡ Some (column_term base (column_named part.to name.right_target))
    left_column : IsColumn base G part.from name.left_target (kind_at rs role.left)
    right_column : IsColumn base G part.to name.right_target (kind_at rs role.right)
    is : IsRelationTable g rs number role name T

  relation_read : (T : GraphTable) (n : ℕ) (l : LinkRole) (q : RelName) → l.name ≡ Relation q → role_at rs n ≡ Some (role.Link l) → IsRelationTable g rs n l q T → RelationRead T
  relation_read T n l q name here is =
      let x = term_of_role base laws g w rs G read n (role.Link l) here in
      let link : IsLink base G (rel_link q) x.2.source x.2.target = subst (λ k. IsLink base G (link_named k) x.2.source x.2.target) name x.2.link in
      let p = off.parts (rel_link q) link.linked.object in
      let own : IsLink base G (rel_link q) p.0.from p.0.to = subst (λ k. IsLink base G k p.0.from p.0.to) p.2 (off.parts_back p.0 p.1) in
      let ends = link_ends base laws g w rs G read q p.0.from p.0.to own n l name here in
      let left = own.sort.left in
      let right = own.sort.right in
      record {
        name = q;
        part = p.0;
        there = p.1;
        is_link = p.2;
        link = own;
        number = n;
        at = x.1 ∙ ap Some (x.2.term ∙ ap (λ k. link_term base (link_named k)) name);
        role = l;
        left = ends.0;
        right = ends.1;
        left_column = subst (IsColumn base G p.0.from q.left_target) (sym (kind_here base laws g w rs G read p.0.from q.left_target left.0 l.left ends.0 left.1)) left.1;
        right_column = subst (IsColumn base G p.0.to q.right_target) (sym (kind_here base laws g w rs G read p.0.to q.right_target right.0 l.right ends.1 right.1)) right.1;
        is = is;
      }

  record PairRead (T : GraphTable) (r : RelationRead T) (z : ℕ × ℕ) : Type 0 where
    from : Node
    to : Node
    at_from : term_at g.terms z.0 ≡ Some (node_term from)
    at_to : term_at g.terms z.1 ≡ Some (node_term to)
    said_from : Says base G (a_node from r.part.from)
    said_to : Says base G (a_node to r.part.to)
    said : Says base G (a_link from (rel_link r.name) to)

  pair_read : (T : GraphTable) (r : RelationRead T) (z : ℕ × ℕ) → HasNumbers g z.0 r.number z.1 → PairRead T r z
  pair_read T r z h =
      let s = said_by base laws g w rs G read z.0 r.number z.1 h in
      let told : PairTold base laws G s.0 r.part.from r.part.to =
      pair_told base laws G s.0 (rel_link r.name) r.part.from r.part.to (one_term base laws g w rs G read r.number _ _ s.3 r.at, r.link) (a.explained s.0 s.1) in
      let at_from : term_at g.terms z.0 ≡ Some (node_term told.node) = s.2 ∙ ap Some told.subject in
      let at_to : term_at g.terms z.1 ≡ Some (node_term told.other) = s.4 ∙ ap Some told.object in
      record {
        from = told.node;
        to = told.other;
        at_from = at_from;
        at_to = at_to;
        said_from = told.from.1;
        said_to = told.to.1;
        said = says_numbers base laws g w rs G read (a_link told.node (rel_link r.name) told.other) z.0 r.number z.1 at_from r.at at_to h;
      }

  abbrev pair_at : ℕ × ℕ → Node × Node
  pair_at z = (node_at z.0, node_at z.1)

  abbrev pair_row : RelName → Node × Node → List (Option KindText)
  pair_row q p = in_order (is_before q.left q.right) (cell base laws G p.0 q.left_target) (cell base laws G p.1 q.right_target)

  relation_rows : (T : GraphTable) (r : RelationRead T) → map (λ (z : ℕ × ℕ). pair_row r.name (pair_at z)) r.is.pairs ≡ map literals T.rows
  relation_rows T r = zip_agree {X = ℕ × ℕ} (IsPairRow g rs r.role (is_before r.name.left r.name.right)) (λ z. pair_row r.name (pair_at z)) literals r.is.pairs T.rows row r.is.rows
    where
      row : (z : ℕ × ℕ) (y : Row) → IsIn z r.is.pairs → IsPairRow g rs r.role (is_before r.name.left r.name.right) z y → pair_row r.name (pair_at z) ≡ literals y
      row z y i h =
          let b = is_before r.name.left r.name.right in
          let x = pair_read T r z ((r.is.are_pairs.items z).0 i) in
          let left : option_map value_text h.0 ≡ cell base laws G (node_at z.0) r.name.left_target =
          read_cell z.0 r.role.left x.from r.part.from r.name.left_target x.at_from r.left x.said_from r.left_column h.0 h.2 ∙ ap (λ v. cell base laws G v r.name.left_target) (sym (at_node z.0 x.from x.at_from)) in
          let right : option_map value_text h.1 ≡ cell base laws G (node_at z.1) r.name.right_target =
          read_cell z.1 r.role.right x.to r.part.to r.name.right_target x.at_to r.right x.said_to r.right_column h.1 h.3 ∙ ap (λ v. cell base laws G v r.name.right_target) (sym (at_node z.1 x.to x.at_to)) in
          (λ t. in_order b (sym left t) (sym right t)) ∙ sym (map_in_order (option_map value_text) b h.0 h.1) ∙ ap literals (sym h.4)

  relation_pairs : (T : GraphTable) (r : RelationRead T) → IsPermutation (map pair_at r.is.pairs) r.part.pairs
  relation_pairs T r = permutation_of_items {X = Node × Node} (map pair_at r.is.pairs) r.part.pairs (NoRepeats-map {X = ℕ × ℕ} {Y = Node × Node} pair_at r.is.pairs one r.is.are_pairs.once) (off.pairs_distinct r.part r.there) same
    where
      pair : (z : ℕ × ℕ) → IsIn z r.is.pairs → PairRead T r z
      pair z i = pair_read T r z ((r.is.are_pairs.items z).0 i)

      one : (y z : ℕ × ℕ) → IsIn y r.is.pairs → IsIn z r.is.pairs → pair_at y ≡ pair_at z → y ≡ z
      one y z i j e =
          let p = pair y i in
          let q = pair z j in
          let from : p.from ≡ q.from = sym (at_node y.0 p.from p.at_from) ∙ ap (λ (x : Node × Node). x.0) e ∙ at_node z.0 q.from q.at_from in
          let to : p.to ≡ q.to = sym (at_node y.1 p.to p.at_to) ∙ ap (λ (x : Node × Node). x.1) e ∙ at_node z.1 q.to q.at_to in
          let first : y.0 ≡ z.0 = one_place base laws g w rs G read (node_term q.from) y.0 z.0 (p.at_from ∙ ap (λ v. Some (node_term v)) from) q.at_from in
          let second : y.1 ≡ z.1 = one_place base laws g w rs G read (node_term q.to) y.1 z.1 (p.at_to ∙ ap (λ v. Some (node_term v)) to) q.at_to in
          λ t. (first t, second t)

      said_there : (x : Node × Node) → Says base G (a_link x.0 (rel_link r.name) x.1) ↔ IsIn x r.part.pairs
      said_there x = subst (λ k. Says base G (a_link x.0 k x.1) ↔ IsIn {X = Node × Node} x r.part.pairs) r.is_link (off.pairs r.part x.0 x.1 r.there)

      same : SameItems {X = Node × Node} (map pair_at r.is.pairs) r.part.pairs
      same x = (
        (λ i.
            let z = IsIn-map {X = ℕ × ℕ} pair_at x r.is.pairs i in
            let p = pair z.0 z.1 in
            let is : (p.from, p.to) ≡ x = (λ t. (sym (at_node z.0.0 p.from p.at_from) t, sym (at_node z.0.1 p.to p.at_to) t)) ∙ z.2 in
            (said_there x).0 (subst (λ (v : Node × Node). Says base G (a_link v.0 (rel_link r.name) v.1)) is p.said)),
        (λ i.
            let s = (said_there x).1 i in
            let q = numbers_of base laws g w rs G read (a_link x.0 (rel_link r.name) x.1) s in
            let there = (r.is.are_pairs.items (q.first, q.third)).1 (numbers_said base laws g w rs G read (a_link x.0 (rel_link r.name) x.1) q.first r.number q.third q.subject r.at q.object s) in
            subst (λ (v : Node × Node). IsIn v (map pair_at r.is.pairs)) (λ t. (at_node q.first x.0 q.subject t, at_node q.third x.1 q.object t)) (map-IsIn {X = ℕ × ℕ} pair_at (q.first, q.third) r.is.pairs there)),
      )

  relation_same : (T : GraphTable) (r : RelationRead T) → SameTable (literal_table (plain_of T)) (relation_table L r.part r.name (kind_at rs r.role.left) (kind_at rs r.role.right))
  relation_same T r = record {
    name = ap (λ (s : ShapeTable). s.name) r.is.shape;
    columns = ap (map class_column) (ap (λ (s : ShapeTable). s.columns) r.is.shape) ∙ map_in_order class_column (is_before r.name.left r.name.right) _ _;
    rows = subst (λ rows. IsPermutation rows (map (pair_row r.name) r.part.pairs)) (map_map {X = ℕ × ℕ} {Y = Node × Node} pair_at (pair_row r.name) r.is.pairs ∙ relation_rows T r)
        (IsPermutation-map {P = Node × Node} (pair_row r.name) (map pair_at r.is.pairs) r.part.pairs (relation_pairs T r));
  }

  has_column : (t c : Name) (k : Kind) → IsColumn base G t c k → HasColumnOfKind L t c k
  has_column t c k h =
      let b = off.classes t h.class in
      let d = off.columns b.0 c k b.1 (subst (λ u. Says base G (range_fact u c k)) (sym b.2) h.range) in
      (b.0, b.1, b.2, d.0, d.1, d.2, d.3)

  relation_shape : (T : GraphTable) → RelationRead T → IsOfShape (plain_of T)
  relation_shape T r = record {
    name = subst IsGoodName (sym (ap (λ (s : ShapeTable). s.name) r.is.shape)) good.0;
    some = subst (λ cs. 0 < length cs) (sym columns) (in_order_some b left right);
    rising = subst (λ cs. IsRising IsBefore (column_names cs)) (sym columns)
        (subst (IsRising IsBefore) (sym (map_in_order (λ (c : Column). c.name) b left right)) (in_order_rising r.name.left r.name.right r.link.sort.two));
    columns = λ column i. in_order_item IsShapeColumn b left right column (good.1, refl) (good.3, refl) (subst (λ cs. IsIn column cs) columns i);
    rows = each_from_items (IsRowOf T.table.columns) T.rows (λ row i.
        let z = zipped_back {A = ℕ × ℕ} (IsPairRow g rs r.role b) r.is.pairs T.rows r.is.rows row i in
        let h = z.2 in
        subst (λ cs. IsRowOf cs row) (sym columns) (subst (IsRowOf (in_order b left right)) (sym h.4)
        (in_order_zip IsCellOf b left right h.0 h.1 (cell_of g rs z.0.0 r.role.left r.name.left h.0 h.2) (cell_of g rs z.0.1 r.role.right r.name.right h.1 h.3))));
  }
    where
      b : Bool
      b = is_before r.name.left r.name.right

      left : Column
      left = shape_column r.name.left (kind_at rs r.role.left)

      right : Column
      right = shape_column r.name.right (kind_at rs r.role.right)

      good : IsGoodLink (rel_link r.name)
      good = r.link.linked.good

      columns : T.table.columns ≡ in_order b left right
      columns = ap (λ (s : ShapeTable). s.columns) r.is.shape

  -- ---- all tables

  data TableRead (T : GraphTable) : Type 0 where
    of_class : IsClass base G T.table.name → ClassTableRead base laws g w rs G read made m a T → TableRead T
    of_relation : RelationRead T → TableRead T

  table_read : (T : GraphTable) → IsIn T made → TableRead T
  table_read T i = let z = zipped_back (λ (e : NumberedName) U. IsTableAt g w rs e.number U) m.names made m.each T i in go z.0.number z.2.0 z.2.1 z.2.2
    where
      link : (n : ℕ) (l : LinkRole) (k : LinkName) → l.name ≡ k → role_at rs n ≡ Some (role.Link l) → IsLinkTable g rs n l k T → TableRead T
      link n l (Reference q) same here is = absurd is
      link n l (Relation q) same here is = of_relation (relation_read T n l q same here is)

      go : (n : ℕ) (r : Role) → role_at rs n ≡ Some r → IsRoleTable g w rs n r T → TableRead T
      go n (role.Class t) here is =
          let x = term_of_role base laws g w rs G read n (role.Class t) here in
          let class : IsClass base G T.table.name = subst (IsClass base G) (sym (ap (λ (s : ShapeTable). s.name) is.shape)) x.2.1 in
          of_class class (class_read base laws g w rs G read made m a T i class)
      go n (role.Column c) here is = absurd is
      go n (role.Link l) here is = link n l l.name refl here is
      go n role.Nothing here is = absurd is

  table_of : (T : GraphTable) → IsIn T made → TableRead T → IsTableOf L (literal_table (plain_of T))
  table_of T i (of_class class r) = inl (class_of base laws g w rs G read made m T, class_to base laws g w rs G read made m T i class.0, class_same T r)
  table_of T i (of_relation r) = inr (
    r.part,
    r.name,
    kind_at rs r.role.left,
    kind_at rs r.role.right,
    r.there,
    r.is_link,
    has_column r.part.from r.name.left_target (kind_at rs r.role.left) r.left_column,
    has_column r.part.to r.name.right_target (kind_at rs r.role.right) r.right_column,
    relation_same T r,
  )

  shape_of : (T : GraphTable) → IsIn T made → TableRead T → IsOfShape (plain_of T)
  shape_of T i (of_class class r) = class_shape T i class r
  shape_of T i (of_relation r) = relation_shape T r

  abbrev name_of : GraphTable → Name
  name_of T = T.table.name

  plain_names : (ts : List GraphTable) → map name_of ts ≡ map (λ (p : PlainTable). p.shape.name) (map plain_of ts)
  plain_names [] = refl
  plain_names (T ∷ ts) = ap (λ ns. T.table.name ∷ ns) (plain_names ts)

  literal_names : (ts : List GraphTable) → map name_of ts ≡ map (λ (T : LiteralTable). T.name) (map literal_table (map plain_of ts))
  literal_names [] = refl
  literal_names (T ∷ ts) = ap (λ ns. T.table.name ∷ ns) (literal_names ts)

  of_shape : (x : Statement) → IsIn x G → AreOfShape (map plain_of made)
  of_shape x i = record {
    some =
        let c = some_class base laws G a x i in
        let T = found.class_table base laws g w rs G read made m c.0 c.1 in
        some_item (plain_of T.table) (map plain_of made) (map-IsIn plain_of T.table made T.there);
    rising = subst (IsRising IsBefore) (plain_names made) (tables_rising base laws g w rs G read made m a);
    each = λ plain j. let T = IsIn-map plain_of plain made j in subst IsOfShape T.2 (shape_of T.0 T.1 (table_read T.0 T.1));
  }

  there_named : (T : GraphTable) (n : Name) → IsIn T made → T.table.name ≡ n → IsIn n (map (λ (T : LiteralTable). T.name) (map literal_table (map plain_of made)))
  there_named T n i e = subst (λ ns. IsIn n ns) (literal_names made) (subst (λ k. IsIn k (map name_of made)) e (map-IsIn name_of T made i))

  are_tables : AreTablesOf L (map literal_table (map plain_of made))
  are_tables = record {
    rising = subst (IsRising IsBefore) (literal_names made) (tables_rising base laws g w rs G read made m a);
    columns = λ c i.
        let T = class_from base laws g w rs G read made m c i in
        let r = class_read base laws g w rs G read made m a T.0 T.1 (class_said base laws g w rs G read made m a T.0.table.name T.2) in
        subst (λ (d : Class). IsRising (λ (x y : ClassColumn). IsBefore x.name y.name) d.columns) T.3 (column_order T.0.table.columns (columns_rising base laws g w rs G read made m a T.0 r));
    only = λ T i.
        let p = IsIn-map literal_table T (map plain_of made) i in
        let U = IsIn-map plain_of p.0 made p.1 in
        subst (IsTableOf L) (ap literal_table U.2 ∙ p.2) (table_of U.0 U.1 (table_read U.0 U.1));
    classes = λ c i.
        let T = class_from base laws g w rs G read made m c i in
        there_named T.0 c.name T.1 (ap (λ (d : Class). d.name) T.3);
    relations = λ p q i e.
        let link : IsLink base G (rel_link q) p.from p.to = subst (λ k. IsLink base G k p.from p.to) e (off.parts_back p i) in
        let T = found.relation_table base laws g w rs G read made m q p.from p.to link in
        there_named T.table q.table T.there (ap (λ (s : ShapeTable). s.name) T.is.shape);
  }
    where
      column_order : (cs : List Column) → IsRising IsBefore (column_names cs) → IsRising (λ (x y : ClassColumn). IsBefore x.name y.name) (map class_column cs)
      column_order [] h = tt
      column_order (c ∷ cs) h = (
        (λ d i. let k = IsIn-map class_column d cs i in subst (λ (y : ClassColumn). IsBefore c.name y.name) k.2 (h.0 k.0.name (map-IsIn (λ (x : Column). x.name) k.0 cs k.1))),
        column_order cs h.1,
      )

  accepted_stands : (x : Statement) → IsIn x G → StandsFor base G (map plain_of made)
  accepted_stands x i =
      let class = some_class base laws G a x i in
      let c = off.classes class.0 class.1 in
      record {
        layout = L;
        well_formed = sound.well_formed base laws L G a off;
        some_class = (c.0, c.1);
        describes = sound.describes base laws L G a off;
        of_shape = of_shape x i;
        are = are_tables;
      }

some_triple : (G : List Statement) → G ≢ [] → (x : Statement) × IsIn x G
some_triple [] n = absurd (n refl)
some_triple (x ∷ G) n = (x, inl refl)

-- the graph stands for the tables that are read off it, where it has a triple and no cause applies to any
pub tables_stand : (base : List ℕ) → NamingLaws base → (g : GraphValue) (w : Words) (rs : List Role) (made : List GraphTable) → AreTables g w rs made → (G : List Statement) → IsRead base g w rs G → G ≢ []
    → ((i : ℕ) (cause : Cause) → ¬ Applies base G i cause) → StandsFor base G (map plain_of made)
tables_stand base laws g w rs made m G read some none =
    let x = some_triple G some in
    accepted_stands base laws g w rs G read made m (accepted base laws g w rs G read made m none) x.0 x.1
