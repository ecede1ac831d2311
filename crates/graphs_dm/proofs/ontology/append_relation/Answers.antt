use Rattle.lines_dm.proofs.Appending.{on_more}
use Rattle.std.proofs.Common.{◌≡◌, ◌∙◌, rules}
use Rattle.schema_dm.specs.Schemas.{table_at}
use Rattle.names_dm.specs.Names.{table_iri}
use Rattle.facts_dm.specs.declared.word.Word.TheVariants.{OwlObjectProperty}
use Rattle.graphs_dm.specs.Heads.{property_lines}
use Rattle.graphs_dm.specs.Relations.{left_key, right_key}
use Rattle.graphs_dm.proofs.OntologyTexts.{relation_lines}
use Rattle.graphs_dm.proofs.RelationRows.{left_within, right_within}
use Rattle.graphs_dm.proofs.ontology.append_relation.Goals as goal

pub target_of-left-requires-clause-number : goal.target_of-left-requires-clause-number
target_of-left-requires-clause-number c = left_within c.args.database.now c.args.t c.args.sides c.requires.relation

pub target_of-right-requires-clause-number : goal.target_of-right-requires-clause-number
target_of-right-requires-clause-number c = right_within c.args.database.now c.args.t c.args.sides c.requires.relation

pub returns : goal.returns
returns c =
    let domain : c.in_ok-domain.domain ≡ table_iri c.args.base.now (table_at c.args.database.now.tables (left_key c.args.database.now.tables c.args.t c.args.sides).target).name = search rules in
    let range : c.in_ok-range.range ≡ table_iri c.args.base.now (table_at c.args.database.now.tables (right_key c.args.database.now.tables c.args.t c.args.sides).target).name = search rules in
    on_more c.append_property.result c.append_property.new.out.items c.args.out.now.items _ _ c.append_property.ensures
    ((λ s. property_lines (c.in_ok-property.ensures s) OwlObjectProperty (domain s) (range s)) ∙ relation_lines c.args.base.now c.args.database.now.tables c.args.t c.args.sides)
