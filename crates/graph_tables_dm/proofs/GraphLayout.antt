-- The layout that an accepted graph describes, made of the tables that are read off it.
use Rattle.std.specs.Prelude.{◌↔◌}
use Rattle.std.proofs.Common.{◌≡◌, ℕ, List, [], ◌∷◌, Option, Some, None, map, refl, sym, ap, ◌∙◌, subst, inl, inr}
use Rattle.members_dm.specs.Membership.{IsIn, IsRising, NoRepeats}
use Rattle.members_dm.proofs.ElementsLemmas.{NoRepeats-map}
use Rattle.members_dm.proofs.MembershipLemmas.{IsIn-map, map-IsIn, rising-NoRepeats}
use Rattle.value_dm.specs.declared.kind.Kind.{Kind}
use Rattle.schema_dm.specs.Naming.{Name, column_names}
use Rattle.schema_dm.specs.Shapes.{IsBefore}
use Rattle.schema_dm.specs.declared.draft.Column.{Column}
use Rattle.schema_dm.specs.declared.table.ShapeTable.{ShapeTable}
use Rattle.names_dm.specs.declared.names.RelName.{RelName}
use Rattle.names_dm.specs.Statements.{Statement}
use Rattle.facts_dm.specs.Facts.{Fact, KindText, Link, Node, a_class, a_link, a_node, an_object, rel_link, table_term}
use Rattle.facts_dm.specs.Meanings.{NamingLaws}
use Rattle.store_dm.specs.Graphs.{GraphValue}
use Rattle.store_dm.specs.Terms.{term_at}
use Rattle.layouts_dm.specs.Layouts.{Class, ClassColumn, Layout, Part, cell_fact, column_named, range_fact}
use Rattle.layouts_dm.specs.LayoutTables.{class_column}
use Rattle.layouts_dm.specs.Rules.{Accepted, Explains, IsClass, IsColumn, IsLink, IsNode, ReadOff, Says}
use Rattle.layouts_dm.proofs.Choosing.{zipped_back}
use Rattle.layouts_dm.proofs.Outcomes.{explains_of}
use Rattle.layouts_dm.proofs.Sorting.{name_order}
use Rattle.layouts_dm.proofs.Unique.{before_one_way}
use Rattle.roles_dm.specs.declared.role.LinkName.{LinkName}
use Rattle.roles_dm.specs.declared.role.LinkName.TheVariants.{Reference, Relation}
use Rattle.roles_dm.specs.declared.role.LinkRole.{LinkRole}
use Rattle.roles_dm.specs.declared.role.Role.{Role}
use Rattle.roles_dm.specs.declared.role.Role.TheVariants as role
use Rattle.roles_dm.specs.declared.words.Words.{Words}
use Rattle.roles_dm.specs.Naming.{column_term, link_term}
use Rattle.roles_dm.specs.Roles.{IsRead, link_named, role_at}
use Rattle.graph_tables_dm.specs.declared.listed.NumberedName.{NumberedName}
use Rattle.graph_tables_dm.specs.declared.table.GraphTable.{GraphTable}
use Rattle.graph_tables_dm.specs.Columns.{IsColumnOf, column_at}
use Rattle.graph_tables_dm.specs.Listed.{AreInOrder, IsNotAfter, IsTabled, relation_table_name, table_name}
use Rattle.graph_tables_dm.specs.TableReadings.{AreTables, IsClassTable, IsLinkTable, IsRoleTable, IsTableAt}
use Rattle.graph_tables_dm.proofs.Collecting.{collect, collect_apart, collected, to_collect, zip_agree}
use Rattle.graph_tables_dm.proofs.Decisions.{Told}
use Rattle.graph_tables_dm.proofs.FactsTold.{cell, cell_said_of, cell_stands, links, links_once, links_same, marks, marks_same, nodes, nodes_once, nodes_same, pairs, pairs_once, pairs_same}
use Rattle.graph_tables_dm.proofs.RolesFound.{IsLinkOf, term_of_role, told_link_of, told_said}
use Rattle.graph_tables_dm.proofs.TablesFound.{class_table, column_number, column_read, one_place}

-- ---- names in order

pub rising_names : (xs : List NumberedName) → IsRising IsNotAfter xs → NoRepeats (map (λ (e : NumberedName). e.name) xs) → IsRising IsBefore (map (λ (e : NumberedName). e.name) xs)
rising_names [] rising once = tt
rising_names (x ∷ xs) rising once = (
  (λ y i.
      let h = IsIn-map (λ (e : NumberedName). e.name) y xs i in
      elim (name_order x.name y) [
        | inl e ↦ absurd (once.0 (subst (λ n. IsIn n (map (λ (d : NumberedName). d.name) xs)) (sym e) i))
        | inr o ↦ elim o [ inl before ↦ before | inr after ↦ absurd (rising.0 h.0 h.1 (subst (λ n. IsBefore n x.name) (sym h.2) after)) ]
      ]),
  rising_names xs rising.1 once.1,
)

unsome_class : (c d : Class) → Some c ≡ Some d → c ≡ d
unsome_class c d e = cc

unsome_part : (p q : Part) → Some p ≡ Some q → p ≡ q
unsome_part p q e = cc

unsome_name : (x y : Name) → Some x ≡ Some y → x ≡ y
unsome_name x y e = cc

ids : {X : Type 0} (xs : List X) → xs ≡ map (λ x. x) xs
ids [] = refl
ids (x ∷ xs) = ap (λ ys. x ∷ ys) (ids xs)

pub table_columns : (rs : List Role) (es : List NumberedName) → column_names (map (column_at rs) es) ≡ map (λ (e : NumberedName). e.name) es
table_columns rs [] = refl
table_columns rs (e ∷ es) = ap (λ ns. e.name ∷ ns) (table_columns rs es)

class_names : (cs : List Column) → map (λ (d : ClassColumn). d.name) (map class_column cs) ≡ column_names cs
class_names [] = refl
class_names (c ∷ cs) = ap (λ ns. c.name ∷ ns) (class_names cs)

-- a table has the name that its role gives
pub role_name : (g : GraphValue) (w : Words) (rs : List Role) (n : ℕ) (r : Role) (T : GraphTable) → IsRoleTable g w rs n r T → table_name r ≡ Some T.table.name
role_name g w rs n (role.Class t) T is = ap Some (sym (ap (λ (s : ShapeTable). s.name) is.shape))
role_name g w rs n (role.Column c) T is = absurd is
role_name g w rs n role.Nothing T is = absurd is
role_name g w rs n (role.Link l) T is = link l.name is
  where
    link : (k : LinkName) → IsLinkTable g rs n l k T → relation_table_name k ≡ Some T.table.name
    link (Relation q) h = ap Some (sym (ap (λ (s : ShapeTable). s.name) h.shape))
    link (Reference q) h = absurd h

pub table_named : (g : GraphValue) (w : Words) (rs : List Role) (e : NumberedName) (T : GraphTable) → IsTabled rs e → IsTableAt g w rs e.number T → e.name ≡ T.table.name
table_named g w rs e T h z =
    let same : h.0 ≡ z.0 = unsome_role h.0 z.0 (sym h.1 ∙ z.1) in
    unsome_name e.name T.table.name (sym h.2 ∙ ap table_name same ∙ role_name g w rs e.number z.0 T z.2)
  where
    unsome_role : (r s : Role) → Some r ≡ Some s → r ≡ s
    unsome_role r s f = cc

module _ (base : List ℕ) (laws : NamingLaws base) (g : GraphValue) (w : Words) (rs : List Role) (G : List Statement) (read : IsRead base g w rs G)
    (made : List GraphTable) (m : AreTables g w rs made) where
  -- ---- the layout

  abbrev pub class_of : GraphTable → Class
  class_of T = record { name = T.table.name; columns = map class_column T.table.columns; nodes = nodes base laws G T.table.name }

  -- a table is that of a class where the graph says that its name is one
  pub class_if : (T : GraphTable) → Told (Says base G (a_class T.table.name)) → Option Class
  class_if T (inl s) = Some (class_of T)
  class_if T (inr n) = None

  abbrev class_found : GraphTable → Option Class
  class_found T = class_if T (told_said base laws g w rs G read (a_class T.table.name))

  pub part_if : (l : Link) → Told (IsLinkOf base laws g w rs G read l) → Option Part
  part_if l (inl k) = Some (record { link = l; from = k.0; to = k.1; pairs = pairs base laws G l })
  part_if l (inr n) = None

  abbrev part_found : Link → Option Part
  part_found l = part_if l (told_link_of base laws g w rs G read l)

  abbrev pub layout : Layout
  layout = record {
    classes = collect class_found made;
    cell = cell base laws G;
    parts = collect part_found (links base laws G);
    marked = marks base laws G;
  }

  -- ---- its classes

  class_if-is : (T : GraphTable) (t : Told (Says base G (a_class T.table.name))) (c : Class) → class_if T t ≡ Some c → Says base G (a_class T.table.name) × (class_of T ≡ c)
  unfolding class_if
  class_if-is T (inl s) c e = (s, unsome_class (class_of T) c e)
  class_if-is T (inr n) c e = absurd (let f : None ≡ Some c = e in cc)

  class_if-said : (T : GraphTable) (t : Told (Says base G (a_class T.table.name))) → Says base G (a_class T.table.name) → class_if T t ≡ Some (class_of T)
  unfolding class_if
  class_if-said T (inl s) h = refl
  class_if-said T (inr n) h = absurd (n h)

  pub class_from : (c : Class) → IsIn c layout.classes → (T : GraphTable) × IsIn T made × Says base G (a_class T.table.name) × (class_of T ≡ c)
  class_from c i =
      let h = collected class_found made c i in
      let k = class_if-is h.0 (told_said base laws g w rs G read (a_class h.0.table.name)) c h.2 in
      (h.0, h.1, k.0, k.1)

  pub class_to : (T : GraphTable) → IsIn T made → Says base G (a_class T.table.name) → IsIn (class_of T) layout.classes
  class_to T i s = to_collect class_found made T (class_of T) i (class_if-said T (told_said base laws g w rs G read (a_class T.table.name)) s)

  class_keeps : (T : GraphTable) (c : Class) → class_found T ≡ Some c → T.table.name ≡ c.name
  class_keeps T c e = ap (λ (d : Class). d.name) (class_if-is T (told_said base laws g w rs G read (a_class T.table.name)) c e).1

  -- ---- its parts

  part_if-is : (l : Link) (t : Told (IsLinkOf base laws g w rs G read l)) (p : Part) → part_if l t ≡ Some p → (l ≡ p.link) × IsLink base G p.link p.from p.to × (p.pairs ≡ pairs base laws G p.link)
  unfolding part_if
  part_if-is l (inr n) p e = absurd (let f : None ≡ Some p = e in cc)
  part_if-is l (inl k) p e =
      let q : Part = record { link = l; from = k.0; to = k.1; pairs = pairs base laws G l } in
      let same : q ≡ p = unsome_part q p e in
      (ap (λ (x : Part). x.link) same, subst (λ (x : Part). IsLink base G x.link x.from x.to) same k.2, subst (λ (x : Part). x.pairs ≡ pairs base laws G x.link) same refl)

  part_if-some : (l : Link) (t : Told (IsLinkOf base laws g w rs G read l)) → IsLinkOf base laws g w rs G read l → (p : Part) × (part_if l t ≡ Some p)
  unfolding part_if
  part_if-some l (inl k) h = (record { link = l; from = k.0; to = k.1; pairs = pairs base laws G l }, refl)
  part_if-some l (inr n) h = absurd (n h)

  pub part_from : (p : Part) → IsIn p layout.parts → IsLink base G p.link p.from p.to × (p.pairs ≡ pairs base laws G p.link)
  part_from p i =
      let h = collected part_found (links base laws G) p i in
      let k = part_if-is h.0 (told_link_of base laws g w rs G read h.0) p h.2 in
      (k.1, k.2)

  part_keeps : (l : Link) (p : Part) → part_found l ≡ Some p → l ≡ p.link
  part_keeps l p e = (part_if-is l (told_link_of base laws g w rs G read l) p e).0

  -- ---- what an accepted graph adds

  module _ (a : Accepted base G) where
    explains : (f : Fact) → Says base G f → Explains base G f
    explains f s = explains_of base laws G a f s

    pub class_said : (t : Name) → Says base G (a_class t) → IsClass base G t
    class_said t s = (explains (a_class t) s).2.class

    -- what a term that stands for a table is
    data Tabled (e : NumberedName) : Type 0 where
      is_class : IsClass base G e.name → term_at g.terms e.number ≡ Some (table_term base e.name) → Tabled e
      is_relation : (q : RelName) (t u : Name) → IsLink base G (rel_link q) t u → term_at g.terms e.number ≡ Some (link_term base (rel_link q)) → q.table ≡ e.name → Tabled e

    tabled : (e : NumberedName) → IsTabled rs e → Tabled e
    tabled e h = go h.0 h.1 h.2
      where
        link : (l : LinkRole) (n : LinkName) → l.name ≡ n → role_at rs e.number ≡ Some (role.Link l) → relation_table_name n ≡ Some e.name → Tabled e
        link l (Reference r) same here name = absurd (let f : None ≡ Some e.name = name in cc)
        link l (Relation q) same here name =
            let x = term_of_role base laws g w rs G read e.number (role.Link l) here in
            is_relation q x.2.source x.2.target (subst (λ k. IsLink base G (link_named k) x.2.source x.2.target) same x.2.link)
            (x.1 ∙ ap Some (x.2.term ∙ ap (λ k. link_term base (link_named k)) same)) (unsome_name q.table e.name name)

        go : (r : Role) → role_at rs e.number ≡ Some r → table_name r ≡ Some e.name → Tabled e
        go (role.Class t) here name =
            let x = term_of_role base laws g w rs G read e.number (role.Class t) here in
            let same : t ≡ e.name = unsome_name t e.name name in
            is_class (subst (IsClass base G) same x.2.1) (x.1 ∙ ap Some x.2.0 ∙ ap (λ u. Some (table_term base u)) same)
        go (role.Column c) here name = absurd (let f : None ≡ Some e.name = name in cc)
        go (role.Link l) here name = link l l.name refl here name
        go role.Nothing here name = absurd (let f : None ≡ Some e.name = name in cc)

    -- no class has the name of a relation
    apart : (q : RelName) (t u s : Name) → IsLink base G (rel_link q) t u → IsClass base G s → q.table ≡ s → ⊥
    apart q t u s link class e = link.sort.no_class (subst (IsClass base G) (sym e) class)

    one_number : (d e : NumberedName) → Tabled d → Tabled e → d.name ≡ e.name → d.number ≡ e.number
    one_number d e (is_class c i) (is_class h j) same = one_place base laws g w rs G read (table_term base e.name) d.number e.number (i ∙ ap (λ n. Some (table_term base n)) same) j
    one_number d e (is_class c i) (is_relation q t u link j name) same = absurd (apart q t u d.name link c (name ∙ sym same))
    one_number d e (is_relation q t u link i name) (is_class h j) same = absurd (apart q t u e.name link h (name ∙ same))
    one_number d e (is_relation q t u link i name) (is_relation p v x other j called) same =
        let one : p ≡ q = link.sort.one p other.linked.good (called ∙ sym same ∙ sym name) other.linked.object in
        one_place base laws g w rs G read (link_term base (rel_link p)) d.number e.number (i ∙ ap (λ k. Some (link_term base (rel_link k))) (sym one)) j

    one_name : (d e : NumberedName) → IsIn d m.names → IsIn e m.names → d.name ≡ e.name → d ≡ e
    one_name d e i j same =
        let number : d.number ≡ e.number = one_number d e (tabled d ((m.all.lists.items d).0 i)) (tabled e ((m.all.lists.items e).0 j)) same in
        λ k. record { name = same k; number = number k }

    names_once : NoRepeats (map (λ (e : NumberedName). e.name) m.names)
    names_once = NoRepeats-map (λ (e : NumberedName). e.name) m.names one_name m.all.lists.once

    -- ---- the names of the tables that are read off

    names_are : map (λ (e : NumberedName). e.name) m.names ≡ map (λ (T : GraphTable). T.table.name) made
    names_are = zip_agree (λ (e : NumberedName) T. IsTableAt g w rs e.number T) (λ (e : NumberedName). e.name) (λ (T : GraphTable). T.table.name) m.names made (λ e T i h. table_named g w rs e T ((m.all.lists.items e).0 i) h) m.each

    tables_once : NoRepeats (map (λ (T : GraphTable). T.table.name) made)
    tables_once = subst NoRepeats names_are names_once

    pub tables_rising : IsRising IsBefore (map (λ (T : GraphTable). T.table.name) made)
    tables_rising = subst (IsRising IsBefore) names_are (rising_names m.names m.all.rising names_once)

    -- ---- the table of a class

    -- a table whose name is a class is that of the class
    pub record ClassTableRead (T : GraphTable) : Type 0 where
      pub number : ℕ
      pub at : term_at g.terms number ≡ Some (table_term base T.table.name)
      pub is : IsClassTable g w rs number T.table.name T

    pub class_read : (T : GraphTable) → IsIn T made → IsClass base G T.table.name → ClassTableRead T
    class_read T i class =
        let z = zipped_back (λ (e : NumberedName) U. IsTableAt g w rs e.number U) m.names made m.each T i in
        go z.0.number z.2.0 z.2.1 z.2.2
      where
        link : (n : ℕ) (l : LinkRole) (k : LinkName) → l.name ≡ k → role_at rs n ≡ Some (role.Link l) → IsRoleTable g w rs n (role.Link l) T → relation_table_name k ≡ Some T.table.name → ClassTableRead T
        link n l (Reference r) same here is name = absurd (let f : None ≡ Some T.table.name = name in cc)
        link n l (Relation q) same here is name =
            let x = term_of_role base laws g w rs G read n (role.Link l) here in
            absurd (apart q x.2.source x.2.target T.table.name (subst (λ k. IsLink base G (link_named k) x.2.source x.2.target) same x.2.link) class (unsome_name q.table T.table.name name))

        go : (n : ℕ) (r : Role) → role_at rs n ≡ Some r → IsRoleTable g w rs n r T → ClassTableRead T
        go n (role.Class t) here is =
            let x = term_of_role base laws g w rs G read n (role.Class t) here in
            let same : t ≡ T.table.name = sym (ap (λ (s : ShapeTable). s.name) is.shape) in
            record { number = n; at = x.1 ∙ ap Some x.2.0 ∙ ap (λ u. Some (table_term base u)) same; is = subst (λ u. IsClassTable g w rs n u T) same is }
        go n (role.Column c) here is = absurd is
        go n (role.Link l) here is = link n l l.name refl here is (role_name g w rs n (role.Link l) T is)
        go n role.Nothing here is = absurd is

    -- ---- its columns

    columns_once : (t : Name) (n : ℕ) (es : List NumberedName) → term_at g.terms n ≡ Some (table_term base t) → AreInOrder (IsColumnOf g w rs n) es → NoRepeats (map (λ (e : NumberedName). e.name) es)
    columns_once t n es at are = NoRepeats-map (λ (e : NumberedName). e.name) es one are.lists.once
      where
        one : (d e : NumberedName) → IsIn d es → IsIn e es → d.name ≡ e.name → d ≡ e
        one d e i j same =
            let x = column_read base laws g w rs G read t n d at ((are.lists.items d).0 i) in
            let y = column_read base laws g w rs G read t n e at ((are.lists.items e).0 j) in
            let number : d.number ≡ e.number = one_place base laws g w rs G read (column_term base (column_named t e.name)) d.number e.number (x.at ∙ ap (λ c. Some (column_term base (column_named t c))) same) y.at in
            λ k. record { name = same k; number = number k }

    pub columns_rising : (T : GraphTable) → ClassTableRead T → IsRising IsBefore (column_names T.table.columns)
    columns_rising T r = subst (λ ns. IsRising IsBefore ns) (sym (ap column_names (ap (λ (s : ShapeTable). s.columns) r.is.shape) ∙ table_columns rs r.is.columns))
        (rising_names r.is.columns r.is.are_columns.rising (columns_once T.table.name r.number r.is.columns r.at r.is.are_columns))

    -- ---- what is read off

    -- a class of the layout and its table
    read_class : (c : Class) → IsIn c layout.classes → (T : GraphTable) × (class_of T ≡ c) × IsClass base G T.table.name × ClassTableRead T
    read_class c i =
        let h = class_from c i in
        let class = class_said h.0.table.name h.2 in
        (h.0, h.3, class, class_read h.0 h.1 class)

    pub cell_said : (n : Node) (t x : Name) (v : KindText) → Says base G (a_node n t) → cell base laws G n x ≡ Some v → Says base G (cell_fact n t x v)
    cell_said n t x v node e =
        let h = cell_said_of base laws G n x v e in
        let there : IsNode base G n h.0 = (explains (cell_fact n h.0 x v) h.1).0 in
        subst (λ u. Says base G (cell_fact n u x v)) (a.one_table n h.0 t there.1 node) h.1

    pub cell_there : (n : Node) (t x : Name) (v : KindText) → Says base G (a_node n t) → Says base G (cell_fact n t x v) → cell base laws G n x ≡ Some v
    cell_there n t x v node said =
        let u = cell_stands base laws G n t x v said in
        u.1 ∙ ap Some (a.one_value n t x u.0 v (cell_said n t x u.0 node u.1) said)

    pub read_off : ReadOff base G layout
    read_off = record {
      names = collect_apart class_found (λ (T : GraphTable). T.table.name) (λ (c : Class). c.name) class_keeps made tables_once;
      classes = λ t h.
          let c = class_table base laws g w rs G read made m t h in
          let name : c.table.table.name ≡ t = ap (λ (s : ShapeTable). s.name) c.is.shape in
          (class_of c.table, class_to c.table c.there (subst (λ u. Says base G (a_class u)) (sym name) h.0), name);
      classes_back = λ c i. let h = read_class c i in subst (λ (d : Class). IsClass base G d.name) h.1 h.2;
      columns_distinct = λ c i.
          let h = read_class c i in
          subst (λ (d : Class). NoRepeats (map (λ (x : ClassColumn). x.name) d.columns)) h.1
          (subst NoRepeats (sym (class_names h.0.table.columns)) (rising-NoRepeats IsBefore before_one_way (column_names h.0.table.columns) (columns_rising h.0 h.3)));
      columns = λ c x k i s.
          let h = read_class c i in
          subst (λ (d : Class). Says base G (range_fact d.name x k) → (y : ClassColumn) × IsIn y d.columns × (y.name ≡ x) × (y.kind ≡ k)) h.1 (column_there h.0 h.3 x k) s;
      columns_back = λ c d i j. let h = read_class c i in subst (λ (b : Class). IsIn d b.columns → Says base G (range_fact b.name d.name d.kind)) h.1 (column_back h.0 h.3 d) j;
      nodes_distinct = λ c i. let h = read_class c i in subst (λ (d : Class). NoRepeats d.nodes) h.1 (nodes_once base laws G h.0.table.name);
      nodes = λ c n i.
          let h = read_class c i in
          let same = nodes_same base laws G h.0.table.name n in
          subst (λ (d : Class). Says base G (a_node n d.name) ↔ IsIn n d.nodes) h.1 (same.1, same.0);
      cells = λ c n d v i j k.
          let h = read_class c i in
          let node : Says base G (a_node n c.name) = subst (λ (b : Class). IsIn n b.nodes → Says base G (a_node n b.name)) h.1 (nodes_same base laws G h.0.table.name n).0 j in
          (cell_there n c.name d.name v node, cell_said n c.name d.name v node);
      links = collect_apart part_found (λ l. l) (λ (p : Part). p.link) part_keeps (links base laws G) (subst NoRepeats (ids (links base laws G)) (links_once base laws G));
      parts = λ l s.
          let h = part_if-some l (told_link_of base laws g w rs G read l) (explains (an_object l) s) in
          (h.0, to_collect part_found (links base laws G) l h.0 ((links_same base laws G l).1 s) h.1, sym (part_keeps l h.0 h.1));
      parts_back = λ p i. (part_from p i).0;
      pairs_distinct = λ p i. subst (λ ps. NoRepeats ps) (sym (part_from p i).1) (pairs_once base laws G p.link);
      pairs = λ p n o i.
          let same = pairs_same base laws G p.link (n, o) in
          subst (λ ps. Says base G (a_link n p.link o) ↔ IsIn {X = Node × Node} (n, o) ps) (sym (part_from p i).1) (same.1, same.0);
      marks = λ n. let same = marks_same base laws G n in (same.1, same.0);
    }
      where
        column_there : (T : GraphTable) → ClassTableRead T → (x : Name) (k : Kind) → Says base G (range_fact T.table.name x k) → (y : ClassColumn) × IsIn y (map class_column T.table.columns) × (y.name ≡ x) × (y.kind ≡ k)
        column_there T r x k s =
            let column : IsColumn base G T.table.name x k = explains (range_fact T.table.name x k) s in
            let n = column_number base laws g w rs G read T.table.name x k r.number r.at column in
            let e : NumberedName = record { name = x; number = n.number } in
            let i : IsIn (column_at rs e) (map (column_at rs) r.is.columns) = map-IsIn (column_at rs) e r.is.columns ((r.is.are_columns.lists.items e).1 n.is) in
            let j : IsIn (column_at rs e) T.table.columns = subst (λ cs. IsIn (column_at rs e) cs) (sym (ap (λ (s : ShapeTable). s.columns) r.is.shape)) i in
            (class_column (column_at rs e), map-IsIn class_column (column_at rs e) T.table.columns j, refl, n.kind)

        column_back : (T : GraphTable) → ClassTableRead T → (d : ClassColumn) → IsIn d (map class_column T.table.columns) → Says base G (range_fact T.table.name d.name d.kind)
        column_back T r d i =
            let c = IsIn-map class_column d T.table.columns i in
            let j : IsIn c.0 (map (column_at rs) r.is.columns) = subst (λ cs. IsIn c.0 cs) (ap (λ (s : ShapeTable). s.columns) r.is.shape) c.1 in
            let e = IsIn-map (column_at rs) c.0 r.is.columns j in
            let same : class_column (column_at rs e.0) ≡ d = ap class_column e.2 ∙ c.2 in
            let n = column_read base laws g w rs G read T.table.name r.number e.0 r.at ((r.is.are_columns.lists.items e.0).0 e.1) in
            subst (λ (y : ClassColumn). Says base G (range_fact T.table.name y.name y.kind)) same n.is.range
