-- The pattern of a table: its solutions over the graph of a database (A Direct Mapping of Relational Data to RDF, section 2)
-- are the table's rows (SPARQL 1.1 Query Language, section 18.2: basic graph patterns, Join, LeftJoin, Project). Tables,
-- columns and keys are counted from 0.
use Rattle.std.specs.Prelude.{◌≡◌, ◌<◌, ◌↔◌, ℕ, List, [], ◌∷◌, codes}
use Rattle.members_dm.specs.Membership.{IsIn, IsRising}
use Rattle.names_dm.specs.Names.{column_iri, rel_iri, table_iri}
use Rattle.names_dm.specs.Variables.{variable_of}
use Rattle.schema_dm.specs.Naming.{Name, column_names, column_place}
use Rattle.schema_dm.specs.Schemas.{table_at}
use Rattle.schema_dm.specs.declared.draft.Column.{Column}
use Rattle.schema_dm.specs.declared.table.Binary.{Binary}
use Rattle.schema_dm.specs.declared.table.ForeignKey.{ForeignKey}
use Rattle.schema_dm.specs.declared.table.Table.{Table}
use Rattle.facts_dm.specs.Vocabulary.{word_iri}
use Rattle.facts_dm.specs.declared.word.Word.TheVariants.{RdfType}
use Rattle.algebra_dm.specs.Attributes.{Lists}
use Rattle.algebra_dm.specs.Certain.{IsCertainColumn}
use Rattle.algebra_dm.specs.declared.query.Mode.{Mode}
use Rattle.algebra_dm.specs.declared.query.Mode.TheVariants.{Map, MapKeys}
use Rattle.graphs_dm.specs.Relations.{CountsAsClass, CountsAsRelation, left_key, relation_name, right_key, target_name}
use Rattle.graphs_dm.specs.declared.graph_name.GraphName.{GraphName}
use Rattle.graphs_dm.specs.declared.graph_name.GraphName.TheVariants as graphs
use Rattle.pattern_dm.specs.declared.pattern.Condition.TheVariants as conditions
use Rattle.pattern_dm.specs.declared.pattern.Operand.TheVariants as operands
use Rattle.pattern_dm.specs.declared.pattern.Pattern.{Pattern}
use Rattle.pattern_dm.specs.declared.pattern.Pattern.TheVariants as patterns
use Rattle.keeping_dm.specs.Guards.{same_names}

-- the graph of a mode
abbrev pub graph_of : Mode → GraphName
graph_of Map = graphs.Map
graph_of MapKeys = graphs.MapKeys

-- ---- variables and triples

-- the variable of a row's node
abbrev pub row_variable : List ℕ
row_variable = codes "_r"

-- the variable of the node that a relation leads to
abbrev pub second_variable : List ℕ
second_variable = codes "_s"

-- the row is one of the table's
abbrev pub type_triple : List ℕ → Name → Pattern
type_triple base table = patterns.Triple (operands.Var row_variable) (operands.Iri (word_iri RdfType)) (operands.Iri (table_iri base table))

-- the node has a value in the table's column, and it is that of the attribute
abbrev pub value_triple : List ℕ → List ℕ → Name → Name → Name → Pattern
value_triple base node table column attribute =
    patterns.Triple (operands.Var node) (operands.Iri (column_iri base (record { table = table; column = column }))) (operands.Var (variable_of attribute))

-- the row has a value in the column
abbrev pub column_triple : List ℕ → Name → Name → Pattern
column_triple base table column = value_triple base row_variable table column column

-- ---- classes

-- and the row has a value in each of the columns
abbrev pub with_columns : List ℕ → Name → Pattern → List Name → Pattern
with_columns base table p [] = p
with_columns base table p (c ∷ cs) = with_columns base table (patterns.And p (column_triple base table c)) cs

-- and its values in the columns, where it has one
abbrev pub with_optional : List ℕ → Name → Pattern → List Name → Pattern
with_optional base table p [] = p
with_optional base table p (c ∷ cs) = with_optional base table (patterns.LeftJoin p (column_triple base table c) conditions.True) cs

-- the certain columns are joined, then the others where they have a value
abbrev pub class_pattern : List ℕ → Name → List Name → List Name → List Name → Pattern
class_pattern base table certain others attributes =
    patterns.Select (with_optional base table (with_columns base table (type_triple base table) certain) others) (same_names attributes)

-- ---- relations

-- the relation leads from the row's node to another
abbrev pub relation_triple : List ℕ → List Table → ℕ → Binary → Pattern
relation_triple base tables t sides =
    patterns.Triple (operands.Var row_variable) (operands.Iri (rel_iri base (relation_name tables t sides))) (operands.Var second_variable)

-- the node has, in the column that the key references, the value of the attribute
abbrev pub key_triple : List ℕ → List ℕ → List Table → ForeignKey → Name → Pattern
key_triple base node tables key attribute = value_triple base node (table_at tables key.target).name (target_name tables key) attribute

-- the node that the relation leads from has the value of its first column
abbrev pub left_triple : List ℕ → List Table → ℕ → Binary → Pattern
left_triple base tables t sides = key_triple base row_variable tables (left_key tables t sides) (relation_name tables t sides).left

-- the node that it leads to has the value of its second column
abbrev pub right_triple : List ℕ → List Table → ℕ → Binary → Pattern
right_triple base tables t sides = key_triple base second_variable tables (right_key tables t sides) (relation_name tables t sides).right

abbrev pub relation_pattern : List ℕ → List Table → ℕ → Binary → List Name → Pattern
relation_pattern base tables t sides attributes =
    patterns.Select (patterns.And (patterns.And (relation_triple base tables t sides) (left_triple base tables t sides)) (right_triple base tables t sides)) (same_names attributes)

-- ---- tables

-- exactly the names of the columns with the property, in declared order
pub record AreDeclared (columns : List Column) (P : Name → Type 0) (names : List Name) : Type 0 where
  pub declared : IsRising (λ a b. column_place columns a < column_place columns b) names
  pub exact : (a : Name) → IsIn a names ↔ (IsIn a (column_names columns) × P a)

-- the names of the columns, in the order of their bytes
abbrev pub AreAttributesOf : Table → List Name → Type 0
AreAttributesOf table attributes = Lists (λ a. IsIn a (column_names table.columns)) attributes

-- the pattern of the table t: of a class with its certain columns apart from the others, or of a relation
pub data IsTablePattern (mode : Mode) (base : List ℕ) (tables : List Table) (t : ℕ) (pattern : Pattern) : Type 0 where
  of_class : CountsAsClass (graph_of mode) tables t → (certain others attributes : List Name)
      → AreDeclared (table_at tables t).columns (IsCertainColumn mode (table_at tables t)) certain
      → AreDeclared (table_at tables t).columns (λ a. ¬ IsCertainColumn mode (table_at tables t) a) others
      → AreAttributesOf (table_at tables t) attributes
      → pattern ≡ class_pattern base (table_at tables t).name certain others attributes → IsTablePattern mode base tables t pattern
  of_relation : (sides : Binary) → CountsAsRelation (graph_of mode) tables t sides → (attributes : List Name) → AreAttributesOf (table_at tables t) attributes
      → pattern ≡ relation_pattern base tables t sides attributes → IsTablePattern mode base tables t pattern
