use Rattle.std.proofs.Common.{◌∙◌, ℕ, List, [], ap, map, subst, sym}
use Rattle.members_dm.specs.Membership.{IsIn}
use Rattle.names_dm.specs.Statements.{Statement}
use Rattle.names_dm.specs.Variables.{variable_of}
use Rattle.schema_dm.specs.declared.table.Table.{Table}
use Rattle.algebra_dm.specs.Attributes.{AreAttributes}
use Rattle.algebra_dm.specs.Tuples.{IsTuple}
use Rattle.graphs_dm.specs.Graphs.{IsTripleOf}
use Rattle.graphs_dm.specs.declared.graph_name.GraphName.TheVariants as graph
use Rattle.pattern_dm.specs.declared.pattern.Pattern.{Pattern}
use Rattle.keeping_dm.specs.Keeping.{Keeps}
use Rattle.pattern_lines_dm.specs.Lines.{AreSolutionLines}
use Rattle.pattern_lines_dm.proofs.KeptLines.{kept_lines}
use Rattle.query_rows_dm.proofs.EvaluationLemmas.{no_empty}
use Rattle.bench_lines_dm.proofs.answers.graph_lines.Goals as goal

pub header-requires : goal.header-requires
header-requires c =
    let D = c.args.database.now in
    let q = c.args.query.now in
    let names = c.in_ok-names.names in
    let are : AreAttributes D.tables q names = subst (λ (tables : List Table). AreAttributes tables q names) c.schema-schema.ensures.value c.in_ok-names.ensures in
    λ here. no_empty D.tables c.schema-schema.ensures.fits.schema q c.requires.formed.names ((are.exact []).0 (subst (λ (ns : List (List ℕ)). IsIn [] ns) c.as_slice.ensures here))

pub returns : goal.returns
returns c =
    let D = c.args.database.now in
    let q = c.args.query.now in
    let names = c.in_ok-names.names in
    let triples = c.args.triples.now in
    let text = c.in_ok-text.text.items in
    let p = c.in_ok-translate.field-0 in
    let are : AreAttributes D.tables q names = subst (λ (tables : List Table). AreAttributes tables q names) c.schema-schema.ensures.value c.in_ok-names.ensures in
    let same = c.in_ok-translate.ensures.keeps D c.schema-schema.ensures.fits (sym c.schema-schema.ensures.value) c.requires.kept in
    let keeps : Keeps (IsTripleOf graph.Map c.args.base.now D) p (IsTuple D q) = record {
      back = λ m s. let h = (same m).0 s in (h.0, h.1, h.2);
      forth = λ m w t a. (same m).1 (w, t, a);
    } in
    let of_pattern : AreSolutionLines c.in_ok-copied.copied p c.in_ok-header.header text =
    subst (λ (x : Pattern). AreSolutionLines c.in_ok-copied.copied x c.in_ok-header.header text) (c.get.ensures ∙ c.in_ok-pattern.ensures) c.in_ok-text.ensures in
    let of_triples : AreSolutionLines triples p c.in_ok-header.header text = subst (λ (ts : List Statement). AreSolutionLines ts p c.in_ok-header.header text) c.in_ok-copied.ensures of_pattern in
    let lines : AreSolutionLines triples p (map variable_of names) text =
    subst (λ (header : List (List ℕ)). AreSolutionLines triples p header text) (c.in_ok-header.ensures ∙ ap (map variable_of) c.as_slice.ensures) of_triples in
    (kept_lines D q c.requires.formed triples (IsTripleOf graph.Map c.args.base.now D) (λ t. (c.requires.triples.all t, c.requires.triples.only t)) p keeps names are text).0 lines
