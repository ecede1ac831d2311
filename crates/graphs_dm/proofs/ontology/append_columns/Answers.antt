use Rattle.std.proofs.Common.{◌∙◌, ◌++◌, List, ℕ, sym, ap, Option}
use Rattle.std.specs.Prelude.{slice_get}
use Rattle.std.proofs.lemmas.List.{append-nil}
use Rattle.schema_dm.specs.declared.draft.Column.{Column}
use Rattle.graphs_dm.specs.Levels.{column_level, text_of}
use Rattle.graphs_dm.proofs.Keys.{item_read}
use Rattle.graphs_dm.proofs.LevelTexts.{text_of-no_level}
use Rattle.graphs_dm.proofs.OntologyTexts.{level_more}
use Rattle.graphs_dm.proofs.ontology.append_columns.Goals as goal

pub loop-column-init : goal.loop-column-init
loop-column-init c =
    sym (ap (λ (l : List ℕ). c.args.out.now.items ++ l) (text_of-no_level c.args.base.now (λ k. column_level c.args.base.now c.args.table.now (slice_get c.args.table.now.columns k))) ∙ append-nil c.args.out.now.items)

pub loop-column-preserved : goal.loop-column-preserved
loop-column-preserved c =
    let there = item_read c.as_slice-column-items.result.now c.args.table.now.columns c.loop-column.column-index c.column-item.result c.as_slice-column-items.ensures c.loop-column-test.true c.column-item.is in
    level_more c.args.base.now (λ k. column_level c.args.base.now c.args.table.now (slice_get c.args.table.now.columns k)) c.loop-column.column-index c.args.out.now.items c.loop-column.out.items _ c.loop-column.invariant
    (c.in_ok-append_column.ensures ∙ ap (λ (found : Option Column). c.loop-column.out.items ++ text_of c.args.base.now (column_level c.args.base.now c.args.table.now found)) (sym there))
