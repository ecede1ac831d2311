-- When a triple passes, by the fact that it says, and when a cause applies to it.
use Rattle.std.proofs.Common.{◌≡◌, ◌≢◌, ◌<◌, ℕ, List, Some, sym, ◌∙◌, subst}
use Rattle.std.specs.Prelude.{slice_get}
use Rattle.schema_dm.specs.Naming.{Name}
use Rattle.names_dm.specs.declared.names.ColumnName.{ColumnName}
use Rattle.names_dm.specs.declared.names.RelName.{RelName}
use Rattle.names_dm.specs.Statements.{Statement}
use Rattle.facts_dm.specs.Facts.{Fact, KindText, Link, Node, a_cell, a_link, a_node, rel_link, triple_of}
use Rattle.facts_dm.specs.Meanings.{NamingLaws}
use Rattle.layouts_dm.specs.Layouts.{cell_fact, column_named}
use Rattle.layouts_dm.specs.Outcomes.{Applies, HasExplainedValues, NoKeyValue, Passes, SaysAt, TwoTables, TwoValues, Unexplained}
use Rattle.layouts_dm.specs.Rules.{Explained, Explains, IsLink}
use Rattle.roles_dm.specs.Findings.{IsFree}

-- ---- facts of different sorts, and their parts

node_cell : (n m : Node) (t : Name) (c : ColumnName) (v : KindText) → a_node n t ≡ a_cell m c v → ⊥
node_cell n m t c v e = cc

node_link : (n m o : Node) (t : Name) (l : Link) → a_node n t ≡ a_link m l o → ⊥
node_link n m o t l e = cc

cell_link : (n m o : Node) (c : ColumnName) (v : KindText) (l : Link) → a_cell n c v ≡ a_link m l o → ⊥
cell_link n m o c v l e = cc

node_of : (n m : Node) (t u : Name) → a_node n t ≡ a_node m u → n ≡ m
node_of n m t u e = cc

table_of : (n m : Node) (t u : Name) → a_node n t ≡ a_node m u → t ≡ u
table_of n m t u e = cc

cell_node_of : (n m : Node) (c d : ColumnName) (v w : KindText) → a_cell n c v ≡ a_cell m d w → n ≡ m
cell_node_of n m c d v w e = cc

column_of : (n m : Node) (c d : ColumnName) (v w : KindText) → a_cell n c v ≡ a_cell m d w → c ≡ d
column_of n m c d v w e = cc

value_of : (n m : Node) (c d : ColumnName) (v w : KindText) → a_cell n c v ≡ a_cell m d w → v ≡ w
value_of n m c d v w e = cc

module _ (base : List ℕ) (laws : NamingLaws base) (G : List Statement) (i : ℕ) where
  unsome : (x y : Statement) → Some x ≡ Some y → x ≡ y
  unsome x y e = cc

  -- a triple says one fact
  said_one : (f g : Fact) → SaysAt base G i f → SaysAt base G i g → f ≡ g
  said_one f g a b = laws.one_fact f g (unsome _ _ (sym a ∙ b))

  explained_at : (f : Fact) → SaysAt base G i f → Explains base G f → (x : Statement) → slice_get G i ≡ Some x → Explained base G x
  explained_at f a h x b = (f, unsome _ _ (sym b ∙ a), h)

  -- a fact that no other triple makes bad passes
  pub passes_plain : (f : Fact) → IsFree f → SaysAt base G i f → Explains base G f → Passes base G i
  passes_plain f plain a h = record {
    explained = explained_at f a h;
    one_value = λ j n t c v w l p q. absurd (subst IsFree (said_one f (cell_fact n t c w) a q) plain);
    one_table = λ j n t u l p q. absurd (subst IsFree (said_one f (a_node n u) a q) plain);
    values = λ q t u n m k b. absurd (subst IsFree (said_one f (a_link n (rel_link q) m) a b) plain);
  }

  -- so does a node of a class, where no earlier triple gives it another
  pub passes_node : (n : Node) (t : Name) → SaysAt base G i (a_node n t) → Explains base G (a_node n t) → ((j : ℕ) (u : Name) → j < i → SaysAt base G j (a_node n u) → u ≡ t) → Passes base G i
  passes_node n t a h first = record {
    explained = explained_at (a_node n t) a h;
    one_value = λ j m s c v w l p q. absurd (node_cell n m t (column_named s c) w (said_one (a_node n t) (cell_fact m s c w) a q));
    one_table = λ j m s u l p q.
        let e = said_one (a_node n t) (a_node m u) a q in
        first j s l (subst (λ y. SaysAt base G j (a_node y s)) (sym (node_of n m t u e)) p) ∙ table_of n m t u e;
    values = λ q s u m o k b. absurd (node_link n m o t (rel_link q) (said_one (a_node n t) (a_link m (rel_link q) o) a b));
  }

  -- so does a value, where no earlier triple gives the node another in this column
  pub passes_cell : (n : Node) (c : ColumnName) (v : KindText) → SaysAt base G i (a_cell n c v) → Explains base G (a_cell n c v) → ((j : ℕ) (w : KindText) → j < i → SaysAt base G j (a_cell n c w) → w ≡ v) → Passes base G i
  passes_cell n c v a h first = record {
    explained = explained_at (a_cell n c v) a h;
    one_value = λ j m s x u w l p q.
        let e = said_one (a_cell n c v) (cell_fact m s x w) a q in
        let node = cell_node_of n m c (column_named s x) v w e in
        let column = column_of n m c (column_named s x) v w e in
        let here : SaysAt base G j (a_cell n c u) = subst {A = Node × ColumnName} (λ z. SaysAt base G j (a_cell z.0 z.1 u)) (λ t. (sym node t, sym column t)) p in
        first j u l here ∙ value_of n m c (column_named s x) v w e;
    one_table = λ j m s u l p q. absurd (node_cell m n u c v (sym (said_one (a_cell n c v) (a_node m u) a q)));
    values = λ q s u m o k b. absurd (cell_link n m o c v (rel_link q) (said_one (a_cell n c v) (a_link m (rel_link q) o) a b));
  }

  -- so does a pair, where both ends have their values if the link is a relation
  pub passes_pair : (n : Node) (l : Link) (m : Node) → SaysAt base G i (a_link n l m) → Explains base G (a_link n l m)
      → ((q : RelName) (t u : Name) (a b : Node) → IsLink base G (rel_link q) t u → a_link n l m ≡ a_link a (rel_link q) b → HasExplainedValues base G q t u a b) → Passes base G i
  passes_pair n l m a h valued = record {
    explained = explained_at (a_link n l m) a h;
    one_value = λ j o s c v w below p q. absurd (cell_link o n m (column_named s c) w l (sym (said_one (a_link n l m) (cell_fact o s c w) a q)));
    one_table = λ j o s u below p q. absurd (node_link o n m u l (sym (said_one (a_link n l m) (a_node o u) a q)));
    values = λ q t u o r k b. valued q t u o r k (said_one (a_link n l m) (a_link o (rel_link q) r) a b);
  }

  -- ---- causes

  -- a triple that isn't explained
  pub applies_unexplained : (x : Statement) → slice_get G i ≡ Some x → ¬ Explained base G x → Applies base G i Unexplained
  applies_unexplained x at none = (x, at, none)

  module _ (before : (j : ℕ) → j < i → Passes base G j) where
    -- what an earlier triple says is explained
    explained_before : (j : ℕ) (f : Fact) → j < i → SaysAt base G j f → Explains base G f
    explained_before j f below a =
        let h = (before j below).explained (triple_of base f) a in
        subst (Explains base G) (sym (laws.one_fact f h.0 h.1)) h.2

    pub applies_tables : (j : ℕ) (n : Node) (t u : Name) → j < i → t ≢ u → SaysAt base G j (a_node n t) → SaysAt base G i (a_node n u) → Explains base G (a_node n u) → Applies base G i TwoTables
    applies_tables j n t u below apart a b h = (j, n, t, u, below, apart, a, b, explained_before j (a_node n t) below a, h)

    pub applies_values : (j : ℕ) (n : Node) (t c : Name) (v w : KindText) → j < i → v ≢ w → SaysAt base G j (cell_fact n t c v) → SaysAt base G i (cell_fact n t c w) → Explains base G (cell_fact n t c w) → Applies base G i TwoValues
    applies_values j n t c v w below apart a b h = (j, n, t, c, v, w, below, apart, a, b, explained_before j (cell_fact n t c v) below a, h)

  pub applies_no_value : (q : RelName) (t u : Name) (n m : Node) → IsLink base G (rel_link q) t u → SaysAt base G i (a_link n (rel_link q) m) → Explains base G (a_link n (rel_link q) m) → ¬ HasExplainedValues base G q t u n m → Applies base G i NoKeyValue
  applies_no_value q t u n m link a h none = (q, t, u, n, m, link, a, h, none)
