use Rattle.std.proofs.Common.{◌≡◌, ◌∙◌, List, [], ap, map, subst, sym}
use Rattle.std.proofs.lemmas.Result.{IfOk-weaker}
use Rattle.members_dm.specs.Membership.{IsIn}
use Rattle.names_dm.specs.Variables.{variable_of}
use Rattle.schema_dm.specs.Naming.{Name}
use Rattle.schema_dm.specs.declared.table.Table.{Table as SchemaTable}
use Rattle.algebra_dm.specs.Attributes.{AreAttributes}
use Rattle.algebra_dm.specs.Nodes.{IsFaultless}
use Rattle.query_rows_dm.proofs.EvaluationLemmas.{no_empty}
use Rattle.tsv_dm.specs.Lines.{IsTsv}
use Rattle.query_lines_dm.specs.Lines.{AreQueryLines}
use Rattle.query_lines_dm.proofs.Rows.{query_lines_made}
use Rattle.query_lines_dm.proofs.lines.query_lines.Goals as goal

pub attributes-requires : goal.attributes-requires
attributes-requires c = subst (λ (tables : List SchemaTable). IsFaultless tables c.args.query.now) (sym c.schema.ensures.value) c.requires.faultless

pub header-requires : goal.header-requires
header-requires c =
    let tables = c.args.database.now.tables in
    let q = c.args.query.now in
    let names = c.in_ok-names.names in
    let are : AreAttributes tables q names = subst (λ (ts : List SchemaTable). AreAttributes ts q names) c.schema.ensures.value c.in_ok-names.ensures in
    λ here. no_empty tables c.schema.ensures.fits.schema q c.requires.names ((are.exact []).0 (subst (λ (ns : List Name). IsIn [] ns) c.as_slice.ensures here))

pub returns : goal.returns
returns c =
    let D = c.args.database.now in
    let q = c.args.query.now in
    let names = c.in_ok-names.names in
    let are : AreAttributes D.tables q names = subst (λ (ts : List SchemaTable). AreAttributes ts q names) c.schema.ensures.value c.in_ok-names.ensures in
    let header : c.in_ok-variables.variables ≡ map variable_of names = c.in_ok-variables.ensures ∙ ap (map variable_of) c.as_slice.ensures in
    IfOk-weaker c.tsv.result (λ text. IsTsv c.in_ok-variables.variables c.in_ok-terms.terms text.items) (λ text. AreQueryLines D q text.items)
    (λ text tsv. query_lines_made D q names c.in_ok-answers.answers c.in_ok-variables.variables c.in_ok-terms.terms text.items are header (c.in_ok-answers.ensures names are) c.in_ok-terms.ensures tsv)
    c.tsv.ensures
