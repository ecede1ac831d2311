use Rattle.std.proofs.Common.{◌∙◌, ◌++◌, List, ℕ, sym, ap, Option}
use Rattle.std.proofs.lemmas.List.{append-nil}
use Rattle.schema_dm.specs.declared.table.Binary.{Binary}
use Rattle.graphs_dm.specs.Levels.{ontology_table, text_of}
use Rattle.graphs_dm.specs.Plans.{relation_at}
use Rattle.graphs_dm.proofs.LevelTexts.{text_of-no_level}
use Rattle.graphs_dm.proofs.OntologyTexts.{level_more}
use Rattle.graphs_dm.proofs.ontology.append_ontology.Goals as goal

pub loop-t-init : goal.loop-t-init
loop-t-init c =
    sym (ap (λ (l : List ℕ). c.args.out.now.items ++ l) (text_of-no_level c.args.base.now (λ t. ontology_table c.args.base.now c.args.database.now.tables t (relation_at c.args.plan.now t))) ∙ append-nil c.args.out.now.items)

pub loop-t-preserved : goal.loop-t-preserved
loop-t-preserved c =
    level_more c.args.base.now (λ t. ontology_table c.args.base.now c.args.database.now.tables t (relation_at c.args.plan.now t)) c.loop-t.t c.args.out.now.items c.loop-t.out.items _ c.loop-t.invariant
    (c.in_ok-append_table.ensures ∙ ap (λ (choice : Option Binary). c.loop-t.out.items ++ text_of c.args.base.now (ontology_table c.args.base.now c.args.database.now.tables c.loop-t.t choice)) c.relation_at-relation.ensures)
