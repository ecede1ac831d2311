use Rattle.std.proofs.Common.{◌∙◌, List, ap, get_or}
use Rattle.schema_dm.specs.declared.table.Table.{Table}
use Rattle.bench_lines_dm.proofs.PlainTables.{found_few, found_once, found_plain, is_there}
use Rattle.bench_lines_dm.proofs.inverted.stands_in.Goals as goal

pub is_table-requires-clause-once : goal.is_table-requires-clause-once
is_table-requires-clause-once c =
    found_once c.args.database.now c.schema.ensures.fits c.args.names.now c.requires.names _ c.requires.there c.in-Some.t c.in-Some.ensures c.index-tables-t.result
    (c.index-tables-t.is ∙ ap (λ (ts : List Table). get_or ts c.in-Some.t c.index-tables-t.result) (c.tables-tables.ensures.value ∙ c.schema.ensures.value))

pub is_table-requires-clause-few : goal.is_table-requires-clause-few
is_table-requires-clause-few c =
    found_few c.args.database.now c.schema.ensures.fits c.args.names.now c.requires.names _ c.requires.there c.in-Some.t c.in-Some.ensures c.index-tables-t.result
    (c.index-tables-t.is ∙ ap (λ (ts : List Table). get_or ts c.in-Some.t c.index-tables-t.result) (c.tables-tables.ensures.value ∙ c.schema.ensures.value))

pub is_table-requires-clause-plain : goal.is_table-requires-clause-plain
is_table-requires-clause-plain c =
    found_plain c.args.database.now c.schema.ensures.fits c.args.names.now c.requires.names _ c.requires.there c.in-Some.t c.in-Some.ensures c.index-tables-t.result
    (c.index-tables-t.is ∙ ap (λ (ts : List Table). get_or ts c.in-Some.t c.index-tables-t.result) (c.tables-tables.ensures.value ∙ c.schema.ensures.value)) c.rows_of-rows.result.now c.rows_of-rows.ensures.value

pub returns-in-None : goal.returns-in-None
returns-in-None c = absurd (is_there c.args.database.now c.schema.ensures.fits c.args.names.now c.requires.names _ c.requires.there c.in-None.ensures)
