use Rattle.lines_dm.proofs.Appending.{on_same}
use Rattle.std.proofs.Common.{◌≡◌, ◌∙◌, ◌++◌, List, ℕ, ap, rules}
use Rattle.names_dm.specs.Names.{table_iri}
use Rattle.facts_dm.specs.declared.word.Word.TheVariants.{RdfType}
use Rattle.graphs_dm.specs.Heads.{iri_line}
use Rattle.graphs_dm.specs.Levels.{columns_level, references_level, text_of}
use Rattle.graphs_dm.proofs.OntologyTexts.{class_lines}
use Rattle.graphs_dm.proofs.ontology.append_class.Goals as goal

pub returns : goal.returns
returns c =
    let base = c.args.base.now in
    let table = c.args.table.now in
    let old = c.args.out.now.items in
    let class : c.in_ok-class.class ≡ table_iri c.args.base.now c.args.table.now.name = search rules in
    on_same c.append_references.result c.append_references.new.out.items c.append_columns.new.out.items _ _ c.append_references.ensures
    (ap (λ (l : List ℕ). l ++ text_of base (references_level base c.args.database.now.tables table))
    (c.in_ok-append_columns.ensures ∙ ap (λ (l : List ℕ). l ++ text_of base (columns_level base table)) (c.in_ok-append_iris.ensures ∙ (λ s. old ++ iri_line (class s) RdfType (c.in_ok-iri.ensures s))))
    ∙ class_lines base c.args.database.now.tables table old)
