use Rattle.std.proofs.Common.{◌∙◌, ap, sym}
use Rattle.std.specs.Ordering.{is_eq}
use Rattle.std.specs.Cmp.Lexicographic.{slice_cmp}
use Rattle.table_csv.specs.Cells.{cells_at}
use Rattle.keys_dm.specs.Entries.{key_of}
use Rattle.keys_dm.specs.KeyCells.{cell_cmp}
use Rattle.keys_dm.proofs.CellOrder.{keys_decide}
use Rattle.keys_dm.proofs.twins.is_same_key.Goals as goal

pub returns-then-before-here : goal.returns-then-before-here
returns-then-before-here c =
    let decides = keys_decide (key_of c.args.rows.now c.args.places.now c.args.before) (key_of c.args.rows.now c.args.places.now c.args.here) in
    let same = c.is_eq.ensures ∙ ap is_eq (c.compare_at.ensures ∙ (λ t. slice_cmp cell_cmp (cells_at c.args.places.now (c.row_of.ensures t)) (cells_at c.args.places.now (c.row_of-then-before-here.ensures t)))) in (
      (λ h. decides.0 (sym same ∙ h)),
      (λ e. same ∙ decides.1 e),
    )
