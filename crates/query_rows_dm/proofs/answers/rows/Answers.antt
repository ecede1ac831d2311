use Rattle.std.proofs.Common.{◌≡◌, ◌∙◌, ℕ, List, [], ap, map, subst, sym}
use Rattle.std.proofs.lemmas.Result.{IfOk-weaker}
use Rattle.members_dm.specs.Membership.{IsIn}
use Rattle.schema_dm.specs.Naming.{Name}
use Rattle.schema_dm.specs.declared.table.Table.{Table as SchemaTable}
use Rattle.table_csv.specs.Cells.{Row}
use Rattle.names_dm.specs.Variables.{variable_of}
use Rattle.algebra_dm.specs.Attributes.{AreAttributes}
use Rattle.algebra_dm.specs.Nodes.{IsFaultless}
use Rattle.query_rows_dm.specs.Answers.{AreCellsIn, AreRows}
use Rattle.query_rows_dm.proofs.AnswerLemmas.{answered, cells_within}
use Rattle.query_rows_dm.proofs.EvaluationLemmas.{no_empty}
use Rattle.query_rows_dm.proofs.NumberLemmas.{none_apart}
use Rattle.query_rows_dm.proofs.answers.rows.Goals as goal

pub attributes-requires : goal.attributes-requires
attributes-requires c = subst (λ (tables : List SchemaTable). IsFaultless tables c.args.query.now) (sym c.schema-schema.ensures.value) c.requires.faultless

pub variables_of-requires : goal.variables_of-requires
variables_of-requires c =
    let tables = c.args.database.now.tables in
    let q = c.args.query.now in
    let names = c.in_ok-names.names in
    let are : AreAttributes tables q names = subst (λ (ts : List SchemaTable). AreAttributes ts q names) c.schema-schema.ensures.value c.in_ok-names.ensures in
    λ here. no_empty tables c.schema-schema.ensures.fits.schema q c.requires.names ((are.exact []).0 (subst (λ (ns : List Name). IsIn [] ns) c.as_slice.ensures here))

pub relation_of-requires : goal.relation_of-requires
relation_of-requires c = record {
  schema = c.schema-schema.ensures.fits.schema;
  named = c.in_ok-tables.ensures ∙ c.in_ok-table_names.ensures ∙ ap (map (λ (t : SchemaTable). t.name)) (c.tables.ensures.value ∙ c.schema-schema.ensures.value);
  formed = c.requires;
  apart = none_apart c.new-dictionary.result c.new-dictionary.ensures;
}

pub all_cells-requires : goal.all_cells-requires
all_cells-requires c = λ row x l.
    cells_within c.relation_of.new.dictionary (c.in_ok-relation.ensures.grown.apart (none_apart c.new-dictionary.result c.new-dictionary.ensures)) c.args.database.now c.args.query.now c.in_ok-relation.relation
    c.in_ok-relation.ensures.relation c.in_ok-each.each c.in_ok-each.ensures row x l

pub returns : goal.returns
returns c =
    let D = c.args.database.now in
    let q = c.args.query.now in
    let names = c.in_ok-names.names in
    let values = c.relation_of.new.dictionary in
    let each = c.in_ok-each.each in
    let are : AreAttributes D.tables q names = subst (λ (ts : List SchemaTable). AreAttributes ts q names) c.schema-schema.ensures.value c.in_ok-names.ensures in
    let vars : c.as_slice-2.result.now ≡ map variable_of names = c.as_slice-2.ensures ∙ c.in_ok-vars.ensures.texts ∙ ap (map variable_of) c.as_slice.ensures in
    IfOk-weaker c.all_cells.result (λ (made : List Row). AreCellsIn values c.as_slice-2.result.now each made) (λ (rows : List Row). (others : List Name) → AreAttributes D.tables q others → AreRows D q others rows)
    (λ made h. answered values (c.in_ok-relation.ensures.grown.apart (none_apart c.new-dictionary.result c.new-dictionary.ensures)) D q c.in_ok-relation.relation c.in_ok-relation.ensures.relation each c.in_ok-each.ensures names are made
    (subst (λ (xs : List (List ℕ)). AreCellsIn values xs each made) vars h))
    c.all_cells.ensures
