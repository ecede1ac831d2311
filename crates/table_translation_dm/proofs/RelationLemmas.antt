-- Binary relations.
use Rattle.std.proofs.Common.{◌≡◌, ◌≢◌, ◌∙◌, ◌<◌, ℕ, List, [], get_or, length, sym, ap, subst, arith}
use Rattle.std.proofs.lemmas.List.{length-map}
use Rattle.std.proofs.lemmas.Option.{slice_get-get_or, slice_get_within}
use Rattle.members_dm.specs.Membership.{IsIn}
use Rattle.members_dm.proofs.ElementsLemmas.{item_at_index, item_within}
use Rattle.names_dm.specs.Names.{rel_iri}
use Rattle.names_dm.specs.declared.names.RelName.{RelName}
use Rattle.schema_dm.specs.Naming.{Name, column_names, name_at}
use Rattle.schema_dm.specs.Relations.{IsBinaryRelation}
use Rattle.schema_dm.specs.Schemas.{IsSchema, no_table, table_at}
use Rattle.schema_dm.specs.declared.draft.Column.{Column}
use Rattle.schema_dm.specs.declared.table.Binary.{Binary}
use Rattle.schema_dm.specs.declared.table.ForeignKey.{ForeignKey}
use Rattle.schema_dm.specs.declared.table.Table.{Table}
use Rattle.algebra_dm.specs.declared.query.Mode.{Mode}
use Rattle.algebra_dm.specs.declared.query.Mode.TheVariants.{Map, MapKeys}
use Rattle.graphs_dm.specs.Relations.{CountsAsRelation, left_key, relation_name, right_key}
use Rattle.pattern_dm.specs.declared.pattern.Operand.TheVariants as operands
use Rattle.pattern_dm.specs.declared.pattern.Pattern.{Pattern}
use Rattle.pattern_dm.specs.declared.pattern.Pattern.TheVariants as patterns
use Rattle.keeping_dm.specs.Guards.{same_names}
use Rattle.query_rows_dm.proofs.EvaluationLemmas.{names_good}
use Rattle.table_patterns_dm.specs.TablePatterns.{graph_of, key_triple, left_triple, relation_pattern, relation_triple, right_triple, row_variable, second_variable}

-- a foreign key leads to a table of the schema
pub key_target : (tables : List Table) → IsSchema tables → (place : ℕ) → place < length tables → (number : ℕ) → number < length (table_at tables place).foreign
    → (read : List ForeignKey) (key : ForeignKey) → read ≡ (table_at tables place).foreign → key ≡ get_or read number key → key.target < length tables
key_target tables schema place l number m read key same is =
    let there : key ≡ get_or (table_at tables place).foreign number key = is ∙ ap (λ (keys : List ForeignKey). get_or keys number key) same in
    ((schema.each (table_at tables place) (item_at_index (table_at tables place) tables place (slice_get-get_or tables place no_table l))).foreign key (subst (λ (k : ForeignKey). IsIn k (table_at tables place).foreign) (sym there) (item_within (table_at tables place).foreign number key m))).target

-- the keys and names of a relation are there
module _ (tables : List Table) (schema : IsSchema tables) (t : ℕ) (l : t < length tables) (sides : Binary) (is : IsBinaryRelation tables t sides) where
  pub left_there : sides.left < length (table_at tables t).foreign
  left_there = slice_get_within (table_at tables t).foreign sides.left is.left.0 is.left.1

  pub right_there : sides.right < length (table_at tables t).foreign
  right_there = slice_get_within (table_at tables t).foreign sides.right is.right.0 is.right.1

  column_named : (k : ℕ) → k < 2 → name_at (table_at tables t).columns k ≢ []
  column_named k m e =
      names_good tables schema t l (subst (λ (n : Name). IsIn n (column_names (table_at tables t).columns)) e
      (item_within (column_names (table_at tables t).columns) k [] (omega (arith, m, is.two_columns, length-map (table_at tables t).columns (λ (c : Column). c.name)))))

  pub left_named : (name : RelName) → name ≡ relation_name tables t sides → name.left ≢ []
  left_named name same e = column_named 0 (omega arith) (sym (ap (λ (n : RelName). n.left) same) ∙ e)

  pub right_named : (name : RelName) → name ≡ relation_name tables t sides → name.right ≢ []
  right_named name same e = column_named 1 (omega arith) (sym (ap (λ (n : RelName). n.right) same) ∙ e)

-- a relation of a graph is a binary relation
pub counts_binary : (mode : Mode) (tables : List Table) (t : ℕ) (sides : Binary) → CountsAsRelation (graph_of mode) tables t sides → IsBinaryRelation tables t sides
counts_binary Map tables t sides h = h
counts_binary MapKeys tables t sides h = absurd h

-- its triples make its pattern
pub relation_made : (base : List ℕ) (tables : List Table) (t : ℕ) (sides : Binary) (attributes : List Name) (name : RelName) (left right : ForeignKey) (link pair all : Pattern)
    → name ≡ relation_name tables t sides → left ≡ left_key tables t sides → right ≡ right_key tables t sides
    → link ≡ patterns.Triple (operands.Var row_variable) (operands.Iri (rel_iri base name)) (operands.Var second_variable)
    → pair ≡ patterns.And link (key_triple base row_variable tables left name.left) → all ≡ patterns.And pair (key_triple base second_variable tables right name.right)
    → patterns.Select all (same_names attributes) ≡ relation_pattern base tables t sides attributes
relation_made base tables t sides attributes name left right link pair all names lefts rights links pairs alls =
    let linked : link ≡ relation_triple base tables t sides = links ∙ ap (λ (n : RelName). patterns.Triple (operands.Var row_variable) (operands.Iri (rel_iri base n)) (operands.Var second_variable)) names in
    let both : pair ≡ patterns.And (relation_triple base tables t sides) (left_triple base tables t sides) = pairs ∙ (λ i. patterns.And (linked i) (key_triple base row_variable tables (lefts i) (names i).left)) in
    let whole : all ≡ patterns.And (patterns.And (relation_triple base tables t sides) (left_triple base tables t sides)) (right_triple base tables t sides) = alls ∙ (λ i. patterns.And (both i) (key_triple base second_variable tables (rights i) (names i).right)) in
    ap (λ (p : Pattern). patterns.Select p (same_names attributes)) whole
