use Rattle.std.proofs.lemmas.Result.{IfOk-weaker}
use Rattle.schema_dm.specs.Naming.{column_names}
use Rattle.schema_dm.specs.Schemas.{table_at}
use Rattle.table_csv.specs.Databases.{rows_at}
use Rattle.algebra_dm.specs.declared.query.Query.TheVariants.{Table}
use Rattle.query_rows_dm.specs.Evaluation.{IsEvaluated}
use Rattle.query_rows_dm.specs.Tables.{IsTableRelation}
use Rattle.query_rows_dm.specs.declared.relation.Relation.{Relation}
use Rattle.query_rows_dm.proofs.EvaluationLemmas.{below, name_in, table_of_name}
use Rattle.query_rows_dm.proofs.evaluation.table.Goals as goal

pub place_of-place-requires : goal.place_of-place-requires
place_of-place-requires c = name_in c.args.database.now.tables c.args.tables.now c.args.name.now c.requires.named c.requires.there

pub table_at-requires-clause-place : goal.table_at-requires-clause-place
table_at-requires-clause-place c = below c.args.tables.now c.args.database.now.tables c.place_of-place.result c.args.name.now c.requires.named c.place_of-place.ensures

pub returns : goal.returns
returns c =
    let D = c.args.database.now in
    let old = c.args.dictionary.now in
    let new = c.table_at.new.dictionary in
    let place = c.place_of-place.result in
    IfOk-weaker c.table_at.result (λ (r : Relation). IsTableRelation old new (column_names (table_at D.tables place).columns) (rows_at D.rows place) r) (λ (r : Relation). IsEvaluated old new D (Table c.args.name.now) r)
    (λ r h. table_of_name D old new c.args.tables.now c.args.name.now place r c.requires.schema c.requires.named c.place_of-place.ensures h) c.table_at.ensures
