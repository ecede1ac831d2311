-- The pattern of a table keeps its rows.
use Rattle.std.proofs.Common.{◌≡◌, ◌∙◌, ◌<◌, ℕ, List, Some, length, refl, sym, ap, subst, inl, inr, ⊎_elim}
use Rattle.std.specs.Prelude.{slice_get}
use Rattle.std.proofs.lemmas.Option.{get_or_from_slice_get, slice_get_within}
use Rattle.members_dm.specs.Membership.{IsIn}
use Rattle.members_dm.proofs.ElementsLemmas.{item_within}
use Rattle.schema_dm.specs.Naming.{Name, column_names}
use Rattle.schema_dm.specs.Schemas.{no_table, table_at}
use Rattle.schema_dm.specs.declared.table.Binary.{Binary}
use Rattle.schema_dm.specs.declared.table.Table.{Table as SchemaTable}
use Rattle.facts_dm.specs.Meanings.{NamingLaws}
use Rattle.table_csv.specs.Databases.{Data, IsDatabase, rows_at}
use Rattle.keys_dm.specs.KeyCells.{row_at}
use Rattle.keys_dm.proofs.OneMatch.{kept_matches}
use Rattle.algebra_dm.specs.Certain.{KeepsKeysOf}
use Rattle.algebra_dm.specs.Tuples.{IsRowOfTable}
use Rattle.algebra_dm.specs.declared.query.Mode.{Mode}
use Rattle.algebra_dm.specs.declared.query.Mode.TheVariants.{Map, MapKeys}
use Rattle.algebra_dm.specs.declared.query.Query.TheVariants.{Table}
use Rattle.algebra_dm.proofs.NeverNull.{never_null}
use Rattle.query_rows_dm.proofs.RowLemmas.{in_or_not}
use Rattle.graphs_dm.specs.Graphs.{IsTripleOf}
use Rattle.graphs_dm.specs.OwnNodes.{RowsHaveOwnNodes}
use Rattle.graphs_dm.specs.Relations.{CountsAsRelation}
use Rattle.graphs_dm.proofs.NodeLaws.{own_nodes}
use Rattle.pattern_dm.specs.declared.pattern.Pattern.{Pattern}
use Rattle.keeping_dm.specs.Keeping.{Keeps}
use Rattle.table_patterns_dm.specs.TablePatterns.{IsTablePattern, graph_of, of_class, of_relation, relation_pattern}
use Rattle.table_patterns_dm.proofs.Classes.{class_keeps, is_row}
use Rattle.table_patterns_dm.proofs.Links.{relation_keeps}
use Rattle.table_patterns_dm.proofs.Rows.{tuple_in, tuple_under}
use Rattle.table_patterns_dm.proofs.Told.{is_table}

module _ (base : List ℕ) (D : Data) (database : IsDatabase D) (laws : NamingLaws base) where
  own : RowsHaveOwnNodes base D
  own = own_nodes base D database

  relation_law : (mode : Mode) → KeepsKeysOf mode D → (t : ℕ) → t < length D.tables → (sides : Binary) → CountsAsRelation (graph_of mode) D.tables t sides → (attributes : List Name)
      → ((a : Name) → (IsIn a attributes → IsIn a (column_names (table_at D.tables t).columns)) × (IsIn a (column_names (table_at D.tables t).columns) → IsIn a attributes))
      → Keeps (IsTripleOf (graph_of mode) base D) (relation_pattern base D.tables t sides attributes) (IsRowOfTable D (table_at D.tables t).name)
  relation_law Map kept t below sides is attributes all = relation_keeps base D database laws own kept (kept_matches D database.schema kept) t below sides is attributes all
  relation_law MapKeys kept t below sides is attributes all = absurd is

  pub table_law : (mode : Mode) → KeepsKeysOf mode D → (t : ℕ) (p : Pattern) → t < length D.tables → IsTablePattern mode base D.tables t p
      → Keeps (IsTripleOf (graph_of mode) base D) p (IsRowOfTable D (table_at D.tables t).name)
  table_law mode kept t p below (of_relation sides is attributes listed e) =
      subst (λ q. Keeps (IsTripleOf (graph_of mode) base D) q (IsRowOfTable D (table_at D.tables t).name)) (sym e) (relation_law mode kept t below sides is attributes listed.exact)
  table_law mode kept t p below (of_class class certain others attributes sure rest listed e) =
      subst (λ q. Keeps (IsTripleOf (graph_of mode) base D) q (IsRowOfTable D (table_at D.tables t).name)) (sym e)
      (class_keeps (graph_of mode) base D database laws own t below class certain others attributes
      (λ c h. let k = (sure.exact c).0 h in (
        k.0,
        λ i. never_null mode D (Table (table_at D.tables t).name) (tuple_in (graph_of mode) base D database laws own t i.row) c database kept
            (table_at D.tables t, (item_within D.tables t no_table below, refl), k.1)
            (is_row D t i.row (tuple_in (graph_of mode) base D database laws own t i.row) i.has
            (tuple_under (column_names (table_at D.tables t).columns) (row_at (rows_at D.rows t) i.row) (is_table D.tables t database.schema below).distinct)),
      ))
      (λ c h. ((rest.exact c).0 h).0)
      (λ c h. ⊎_elim inl (λ n. inr ((rest.exact c).1 (h, λ k. n ((sure.exact c).1 (h, k))))) (in_or_not c certain))
      listed.exact)

  -- the same by a table's name
  pub named_law : (mode : Mode) → KeepsKeysOf mode D → (t : ℕ) (table : SchemaTable) (name : Name) (p : Pattern) → slice_get D.tables t ≡ Some table → table.name ≡ name → IsTablePattern mode base D.tables t p
      → Keeps (IsTripleOf (graph_of mode) base D) p (IsRowOfTable D name)
  named_law mode kept t table name p at named is =
      subst (λ n. Keeps (IsTripleOf (graph_of mode) base D) p (IsRowOfTable D n)) (ap (λ (x : SchemaTable). x.name) (get_or_from_slice_get D.tables t table no_table at) ∙ named)
      (table_law mode kept t p (slice_get_within D.tables t table at) is)
