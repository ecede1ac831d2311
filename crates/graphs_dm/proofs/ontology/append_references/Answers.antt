use Rattle.std.proofs.Common.{◌∙◌, ◌++◌, List, ℕ, sym, ap, Option}
use Rattle.std.specs.Prelude.{slice_get}
use Rattle.std.proofs.lemmas.List.{append-nil}
use Rattle.schema_dm.specs.declared.table.ForeignKey.{ForeignKey}
use Rattle.graphs_dm.specs.Levels.{reference_level, text_of}
use Rattle.graphs_dm.proofs.Keys.{item_in, item_read}
use Rattle.graphs_dm.proofs.LevelTexts.{text_of-no_level}
use Rattle.graphs_dm.proofs.OntologyTexts.{level_more}
use Rattle.graphs_dm.proofs.ontology.append_references.Goals as goal

pub loop-key-init : goal.loop-key-init
loop-key-init c =
    sym (ap (λ (l : List ℕ). c.args.out.now.items ++ l) (text_of-no_level c.args.base.now (λ k. reference_level c.args.base.now c.args.database.now.tables c.args.table.now (slice_get c.args.table.now.foreign k))) ∙ append-nil c.args.out.now.items)

pub append_reference-requires-clause-target : goal.append_reference-requires-clause-target
append_reference-requires-clause-target c =
    (c.requires.foreign c.key-item.result (item_in c.as_slice-key-items.result.now c.args.table.now.foreign c.loop-key.key-index c.key-item.result c.as_slice-key-items.ensures c.loop-key-test.true c.key-item.is)).target

pub append_reference-requires-clause-columns : goal.append_reference-requires-clause-columns
append_reference-requires-clause-columns c =
    (c.requires.foreign c.key-item.result (item_in c.as_slice-key-items.result.now c.args.table.now.foreign c.loop-key.key-index c.key-item.result c.as_slice-key-items.ensures c.loop-key-test.true c.key-item.is)).columns.some

pub loop-key-preserved : goal.loop-key-preserved
loop-key-preserved c =
    let there = item_read c.as_slice-key-items.result.now c.args.table.now.foreign c.loop-key.key-index c.key-item.result c.as_slice-key-items.ensures c.loop-key-test.true c.key-item.is in
    level_more c.args.base.now (λ k. reference_level c.args.base.now c.args.database.now.tables c.args.table.now (slice_get c.args.table.now.foreign k)) c.loop-key.key-index c.args.out.now.items c.loop-key.out.items _ c.loop-key.invariant
    (c.in_ok-append_reference.ensures ∙ ap (λ (found : Option ForeignKey). c.loop-key.out.items ++ text_of c.args.base.now (reference_level c.args.base.now c.args.database.now.tables c.args.table.now found)) (sym there))
