use Rattle.lines_dm.proofs.Appending.{on_more}
use Rattle.facts_dm.specs.declared.word.Word.TheVariants.{OwlDatatypeProperty}
use Rattle.graphs_dm.specs.Heads.{property_lines}
use Rattle.graphs_dm.specs.Ontology.{column_of}
use Rattle.graphs_dm.proofs.OntologyTexts.{column_lines}
use Rattle.std.proofs.Common.{◌≡◌, ◌∙◌, rules}
use Rattle.names_dm.specs.Names.{column_iri, table_iri}
use Rattle.graphs_dm.proofs.ontology.append_column.Goals as goal

pub returns : goal.returns
returns c =
    let property : c.in_ok-property.property ≡ column_iri c.args.base.now (column_of c.args.table.now c.args.column.now) = search rules in
    let domain : c.in_ok-domain.domain ≡ table_iri c.args.base.now c.args.table.now.name = search rules in
    on_more c.append_property.result c.append_property.new.out.items c.args.out.now.items _ _ c.append_property.ensures
    ((λ s. property_lines (property s) OwlDatatypeProperty (domain s) (c.in_ok-range.ensures s)) ∙ column_lines c.args.base.now c.args.table.now c.args.column.now)
