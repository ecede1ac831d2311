-- A graph to which no cause applies is accepted, where tables are read off it: what can't fail to be explained is.
use Rattle.std.proofs.Common.{◌≡◌, ◌⊎◌, ℕ, List, Some, None, sym, ap, ◌∙◌, subst, inl, inr}
use Rattle.members_dm.specs.Membership.{IsIn}
use Rattle.schema_dm.specs.Naming.{Name}
use Rattle.names_dm.specs.Statements.{Statement}
use Rattle.facts_dm.specs.Facts.{Fact, KindText, Node, a_cell, a_class, a_domain, a_link, a_link_range, a_mark, a_node, a_property, a_range, an_object, triple_of}
use Rattle.facts_dm.specs.Meanings.{NamingLaws}
use Rattle.table_csv.specs.Cells.{Cell}
use Rattle.store_dm.specs.Graphs.{GraphValue}
use Rattle.layouts_dm.specs.Layouts.{IsCanonical, cell_fact}
use Rattle.layouts_dm.specs.LayoutTables.{value_text}
use Rattle.layouts_dm.specs.Outcomes.{Applies, Cause}
use Rattle.layouts_dm.specs.Rules.{Accepted, Explained, Explains, IsClass, IsColumn, IsLink, IsNode, Says}
use Rattle.layouts_dm.proofs.Accepting as accepting
use Rattle.layouts_dm.proofs.Outcomes.{explains_of}
use Rattle.layouts_dm.proofs.Sound.{link_from, link_to}
use Rattle.roles_dm.specs.declared.role.Role.{Role}
use Rattle.roles_dm.specs.declared.words.Words.{Words}
use Rattle.roles_dm.specs.Numbers.{HasNumbers}
use Rattle.roles_dm.specs.Roles.{IsRead}
use Rattle.graph_tables_dm.specs.declared.table.GraphTable.{GraphTable}
use Rattle.graph_tables_dm.specs.Cells.{TellsObject, kind_at}
use Rattle.graph_tables_dm.specs.TableReadings.{AreTables}
use Rattle.graph_tables_dm.proofs.Decisions.{sure, told_some, told_statement, told_text, told_value}
use Rattle.graph_tables_dm.proofs.FactsTold.{facts, to_facts, told_values}
use Rattle.graph_tables_dm.proofs.RolesFound.{IsLinkOf, class_sure, column_sure, domain_sure, node_sure, told_kinded, told_link_of, told_said}
use Rattle.graph_tables_dm.proofs.TablesFound.{CellRead, cell_read, numbers_of, numbers_said, object_told, says_numbers}

module _ (base : List ℕ) (laws : NamingLaws base) (g : GraphValue) (w : Words) (rs : List Role) (G : List Statement) (read : IsRead base g w rs G)
    (made : List GraphTable) (m : AreTables g w rs made) (none : (i : ℕ) (c : Cause) → ¬ Applies base G i c) where
  maybe : ¬ (¬ Accepted base G)
  maybe = accepting.accepted base laws G none

  explained_maybe : (f : Fact) → Says base G f → ¬ (¬ Explains base G f)
  explained_maybe f s n = maybe (λ a. n (explains_of base laws G a f s))

  class_is : (t : Name) → ¬ (¬ IsClass base G t) → IsClass base G t
  class_is t h = (sure (told_said base laws g w rs G read (a_class t)) (λ n. h (λ c. n c.0)), (λ bad. h (λ c. c.1 bad)))

  node_is : (n : Node) (t : Name) → ¬ (¬ IsNode base G n t) → IsNode base G n t
  node_is n t h = (class_is t (λ k. h (λ i. k i.0)), sure (told_said base laws g w rs G read (a_node n t)) (λ k. h (λ i. k i.1)))

  -- the value of a cell that is read is canonical
  canonical : (x : Node) (t c : Name) (v : KindText) → Says base G (cell_fact x t c v) → IsNode base G x t → IsColumn base G t c v.kind → IsCanonical v
  canonical x t c v said node column = go r.cell r.is
    where
      r : CellRead base laws g w rs G read made m x t c v.kind
      r = cell_read base laws g w rs G read made m x t c v.kind node.0 column node.1

      told : (cell : Cell) (o : ℕ) → HasNumbers g r.node r.column o → TellsObject g (kind_at rs r.column) o cell → IsCanonical v
      told None o has no_value = absurd (maybe (λ a.
          let u = object_told base laws g w rs G read a x t c v.kind column r.node r.column o r.at_column has in
          no_value u.0 (u.1.0 ∙ sym r.kind, u.1.1) u.2))
      told (Some u) o has is =
          let there : Says base G (cell_fact x t c (value_text u)) = says_numbers base laws g w rs G read (cell_fact x t c (value_text u)) r.node r.column o r.at_node r.at_column is.1 has in
          let same : value_text u ≡ v = sure (told_value base laws (value_text u) v) (λ n. maybe (λ a. n (a.one_value x t c (value_text u) v there said))) in
          (u, is.0.1, ap (λ (y : KindText). y.kind) same, ap (λ (y : KindText). y.text) same)

      go : (cell : Cell) → (((o : ℕ) → ¬ HasNumbers g r.node r.column o) × (cell ≡ None)) ⊎ ((o : ℕ) × HasNumbers g r.node r.column o × TellsObject g (kind_at rs r.column) o cell) → IsCanonical v
      go cell (inr h) = told cell h.0 h.1 h.2
      go cell (inl h) =
          let n = numbers_of base laws g w rs G read (cell_fact x t c v) said in
          absurd (h.0 n.third (numbers_said base laws g w rs G read (cell_fact x t c v) r.node r.column n.third r.at_node r.at_column n.object said))

  explains : (f : Fact) → Says base G f → Explains base G f
  explains (a_class t) s = class_sure base laws g w rs G read t (explained_maybe (a_class t) s)
  explains (a_property c) s = sure (told_kinded base laws g w rs G read c) (explained_maybe (a_property c) s)
  explains (an_object l) s = sure (told_link_of base laws g w rs G read l) (explained_maybe (an_object l) s)
  explains (a_domain i t) s = domain_sure base laws g w rs G read i t (explained_maybe (a_domain i t) s)
  explains (a_range c k) s = column_sure base laws g w rs G read c k (explained_maybe (a_range c k) s)
  explains (a_link_range l u) s =
      let h = explained_maybe (a_link_range l u) s in
      let k : IsLinkOf base laws g w rs G read l = sure (told_link_of base laws g w rs G read l) (λ n. h (λ e. n (e.0, u, e.1))) in
      let same : k.1 ≡ u = sure (told_text k.1 u) (λ n. h (λ e. n (link_to base laws G l k.0 k.1 e.0 u k.2 e.1))) in
      (k.0, subst (IsLink base G l k.0) same k.2)
  explains (a_node n t) s = class_is t (explained_maybe (a_node n t) s)
  explains (a_cell n c v) s =
      let h = explained_maybe (a_cell n c v) s in
      let node = node_is n c.table (λ k. h (λ e. k e.0)) in
      let column = column_sure base laws g w rs G read c v.kind (λ k. h (λ e. k e.1)) in
      (node, column, canonical n c.table c.column v s node column)
  explains (a_link n l o) s =
      let h = explained_maybe (a_link n l o) s in
      let k : IsLinkOf base laws g w rs G read l = sure (told_link_of base laws g w rs G read l) (λ x. h (λ e. x (e.0, e.1, e.2))) in (
        k.0,
        k.1,
        k.2,
        node_is n k.0 (λ x. h (λ e. x (subst (IsNode base G n) (link_from base laws G l e.0 e.1 k.0 k.1 e.2 k.2) e.3))),
        node_is o k.1 (λ x. h (λ e. x (subst (IsNode base G o) (link_to base laws G l e.0 e.1 k.0 k.1 e.2 k.2) e.4))),
      )
  explains (a_mark n) s = node_sure base laws g w rs G read n (explained_maybe (a_mark n) s)

  explained : (x : Statement) → IsIn x G → Explained base G x
  explained x i =
      let f = sure (told_some (λ f. x ≡ triple_of base f) (λ f. told_statement x (triple_of base f)) (facts base laws G))
      (λ n. maybe (λ a. let s = a.explained x i in n (s.0, to_facts base laws G s.0 (subst (λ y. IsIn y G) s.1 i), s.1))) in
      (f.0, f.2, explains f.0 (subst (λ y. IsIn y G) f.2 i))

  pub accepted : Accepted base G
  accepted = record {
    explained = explained;
    one_value = λ n t c v u h k. sure (told_value base laws v u) (λ apart. maybe (λ a. apart (a.one_value n t c v u h k)));
    one_table = λ n t u h k. sure (told_text t u) (λ apart. maybe (λ a. apart (a.one_table n t u h k)));
    values = λ q t u n o link s. (
      sure (told_values base laws G n t q.left_target) (λ k. maybe (λ a. k (a.values q t u n o link s).0)),
      sure (told_values base laws G o u q.right_target) (λ k. maybe (λ a. k (a.values q t u n o link s).1)),
    );
  }
