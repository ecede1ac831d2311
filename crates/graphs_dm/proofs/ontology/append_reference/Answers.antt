use Rattle.lines_dm.proofs.Appending.{on_more}
use Rattle.std.proofs.Common.{◌≡◌, ◌∙◌, rules, map}
use Rattle.schema_dm.specs.Naming.{name_at}
use Rattle.schema_dm.specs.Schemas.{table_at}
use Rattle.names_dm.specs.Names.{ref_iri, table_iri}
use Rattle.facts_dm.specs.declared.word.Word.TheVariants.{OwlObjectProperty}
use Rattle.graphs_dm.specs.Heads.{property_lines}
use Rattle.graphs_dm.proofs.OntologyTexts.{reference_lines}
use Rattle.graphs_dm.proofs.ontology.append_reference.Goals as goal

pub returns : goal.returns
returns c =
    let property : c.in_ok-property.property ≡ ref_iri c.args.base.now (record { table = c.args.table.now.name; columns = map (name_at c.args.table.now.columns) c.args.key.now.columns }) = search rules in
    let domain : c.in_ok-domain.domain ≡ table_iri c.args.base.now c.args.table.now.name = search rules in
    let range : c.in_ok-range.range ≡ table_iri c.args.base.now (table_at c.args.database.now.tables c.args.key.now.target).name = search rules in
    on_more c.append_property.result c.append_property.new.out.items c.args.out.now.items _ _ c.append_property.ensures
    ((λ s. property_lines (property s) OwlObjectProperty (domain s) (range s)) ∙ reference_lines c.args.base.now c.args.database.now.tables c.args.table.now c.args.key.now c.requires.columns)
