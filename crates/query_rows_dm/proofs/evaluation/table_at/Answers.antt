use Rattle.std.proofs.Common.{◌≡◌, ◌∙◌, List, [], arith, ap, subst, sym}
use Rattle.std.proofs.lemmas.Result.{IfOk-weaker}
use Rattle.members_dm.specs.Membership.{IsIn, NoRepeats}
use Rattle.schema_dm.specs.Naming.{Name, column_names}
use Rattle.schema_dm.specs.Schemas.{table_at}
use Rattle.schema_dm.specs.declared.table.Table.{Table as SchemaTable}
use Rattle.table_csv.specs.Cells.{Row}
use Rattle.table_csv.specs.Databases.{rows_at}
use Rattle.query_rows_dm.specs.Tables.{IsTableRelation}
use Rattle.query_rows_dm.specs.declared.relation.Relation.{Relation}
use Rattle.query_rows_dm.proofs.EvaluationLemmas.{names_good, names_once, place_small, table_read}
use Rattle.query_rows_dm.proofs.evaluation.table_at.Goals as goal

pub overflow_cast-place : goal.overflow_cast-place
overflow_cast-place c = let small = place_small c.args.database.now.tables c.schema.ensures.fits.schema c.args.place c.requires.place in omega (arith, small)

pub table_rows-requires-clause-named : goal.table_rows-requires-clause-named
table_rows-requires-clause-named c =
    let D = c.args.database.now in
    let table = table_read c.tables.result.now D.tables c.args.place c.index-tables-place.result (c.tables.ensures.value ∙ c.schema.ensures.value) c.requires.place c.index-tables-place.is in
    let names : c.as_slice-2.result.now ≡ column_names (table_at D.tables c.args.place).columns = c.as_slice-2.ensures.value ∙ c.in_ok-names.ensures ∙ ap column_names (c.as_slice.ensures ∙ ap (λ (t : SchemaTable). t.columns) table) in
    subst (λ (ns : List Name). ¬ IsIn [] ns) (sym names) (names_good D.tables c.schema.ensures.fits.schema c.args.place c.requires.place)

pub table_rows-requires-clause-once : goal.table_rows-requires-clause-once
table_rows-requires-clause-once c =
    let D = c.args.database.now in
    let table = table_read c.tables.result.now D.tables c.args.place c.index-tables-place.result (c.tables.ensures.value ∙ c.schema.ensures.value) c.requires.place c.index-tables-place.is in
    let names : c.as_slice-2.result.now ≡ column_names (table_at D.tables c.args.place).columns = c.as_slice-2.ensures.value ∙ c.in_ok-names.ensures ∙ ap column_names (c.as_slice.ensures ∙ ap (λ (t : SchemaTable). t.columns) table) in
    subst (λ (ns : List Name). NoRepeats ns) (sym names) (names_once D.tables c.schema.ensures.fits.schema c.args.place c.requires.place)

pub returns : goal.returns
returns c =
    let D = c.args.database.now in
    let table = table_read c.tables.result.now D.tables c.args.place c.index-tables-place.result (c.tables.ensures.value ∙ c.schema.ensures.value) c.requires.place c.index-tables-place.is in
    let names : c.as_slice-2.result.now ≡ column_names (table_at D.tables c.args.place).columns = c.as_slice-2.ensures.value ∙ c.in_ok-names.ensures ∙ ap column_names (c.as_slice.ensures ∙ ap (λ (t : SchemaTable). t.columns) table) in
    let rows : c.as_slice-3.result.now ≡ rows_at D.rows c.args.place = c.as_slice-3.ensures ∙ c.rows_of-rows.ensures.value in
    IfOk-weaker c.table_rows.result (λ (r : Relation). IsTableRelation c.args.dictionary.now c.table_rows.new.dictionary c.as_slice-2.result.now c.as_slice-3.result.now r)
    (λ (r : Relation). IsTableRelation c.args.dictionary.now c.table_rows.new.dictionary (column_names (table_at D.tables c.args.place).columns) (rows_at D.rows c.args.place) r)
    (λ r h. subst (λ (ns : List Name). IsTableRelation c.args.dictionary.now c.table_rows.new.dictionary ns (rows_at D.rows c.args.place) r) names
    (subst (λ (all : List Row). IsTableRelation c.args.dictionary.now c.table_rows.new.dictionary c.as_slice-2.result.now all r) rows h))
    c.table_rows.ensures
