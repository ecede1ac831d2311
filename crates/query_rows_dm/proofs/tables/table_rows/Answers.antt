use Rattle.std.proofs.Common.{ℕ, List, map, ◌∙◌, subst}
use Rattle.names_dm.specs.Variables.{variable_of}
use Rattle.solutions_dm.specs.Repeats.{IsDistinct}
use Rattle.solutions_dm.specs.Table.{Table}
use Rattle.query_rows_dm.specs.Tables.{AreColumns}
use Rattle.query_rows_dm.proofs.TableLemmas.{table_fits, table_is}
use Rattle.query_rows_dm.proofs.tables.table_rows.Goals as goal

pub of_columns-all-requires : goal.of_columns-all-requires
of_columns-all-requires c = table_fits c.args.dictionary.now c.table_columns.new.dictionary c.args.names.now c.args.rows.now c.in_ok-columns.columns c.requires.once c.in_ok-attributes.ensures.owned c.requires.apart
    (subst (λ (xs : List (List ℕ)). AreColumns c.args.dictionary.now c.table_columns.new.dictionary c.args.rows.now xs c.in_ok-columns.columns) (c.as_slice.ensures ∙ c.in_ok-attributes.ensures.texts) c.in_ok-columns.ensures)

pub returns : goal.returns
returns c =
    let h : AreColumns c.args.dictionary.now c.table_columns.new.dictionary c.args.rows.now (map variable_of c.args.names.now) c.in_ok-columns.columns =
    subst (λ (xs : List (List ℕ)). AreColumns c.args.dictionary.now c.table_columns.new.dictionary c.args.rows.now xs c.in_ok-columns.columns) (c.as_slice.ensures ∙ c.in_ok-attributes.ensures.texts) c.in_ok-columns.ensures in
    table_is c.args.dictionary.now c.table_columns.new.dictionary c.args.names.now c.args.rows.now c.in_ok-columns.columns c.requires.once c.in_ok-attributes.ensures.owned c.requires.apart h
    c.attributes.inside.items.items c.in_ok-distinct.field-0 (c.attributes.view_is ∙ c.in_ok-attributes.ensures.texts)
    (subst (λ (t : Table). IsDistinct t c.in_ok-distinct.field-0) c.of_columns-all.ensures c.in_ok-distinct.ensures)
