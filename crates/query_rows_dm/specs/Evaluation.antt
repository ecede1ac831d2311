-- The relation of a query.
use Rattle.std.specs.Prelude.{List}
use Rattle.value_dm.specs.declared.value.Value.{Value}
use Rattle.table_csv.specs.Databases.{Data}
use Rattle.algebra_dm.specs.Attributes.{HasAttribute}
use Rattle.algebra_dm.specs.Tuples.{IsTuple}
use Rattle.algebra_dm.specs.declared.query.Query.{Query}
use Rattle.query_rows_dm.specs.Numbers.{AreGrown}
use Rattle.query_rows_dm.specs.Relations.{IsRelation}
use Rattle.query_rows_dm.specs.declared.relation.Relation.{Relation}

-- the query's tuples, where the values have grown meanwhile
pub record IsEvaluated (old new : List Value) (D : Data) (q : Query) (r : Relation) : Type 0 where
  pub grown : AreGrown old new
  pub relation : IsRelation new (HasAttribute D.tables q) (IsTuple D q) r
