use Rattle.std.proofs.Common.{◌≡◌, ◌∙◌, ◌++◌, ◌+◌, [], ◌∷◌, sym, ap, take, get_or, List, ℕ}
use Rattle.std.proofs.lemmas.List.{take_more}
use Rattle.names_dm.specs.IriSafe.{safe_form}
use Rattle.names_dm.specs.Names.{column_list}
use Rattle.names_dm.proofs.Lists.{column_list-push, four_parts, is_empty-push}
use Rattle.names_dm.proofs.makers.with_columns.Goals as goal

pub loop-column-preserved : goal.loop-column-preserved
loop-column-preserved c =
    let i = c.loop-column.column-index in
    let columns = c.args.columns.now in
    let column = c.column-item.result in
    let item : get_or columns i column ≡ column = sym (c.column-item.is ∙ ap (λ ys. get_or ys i column) c.as_slice-column-items.ensures) in
    let more : take (i + 1) columns ≡ take i columns ++ column ∷ [] = take_more columns i column (rw c.as_slice-column-items.ensures at c.loop-column-test.true) ∙ ap (λ y. take i columns ++ y ∷ []) item in (
      rw more (
          c.in_ok-spelling.ensures
          ∙ rw (c.in_ok-with.ensures, c.loop-column.invariant.0, c.mark_before.ensures, c.loop-column.invariant.1, c.as_str.ensures.chars)
          (four_parts c.args.spelling (column_list (take i columns)) _ (safe_form column) ∙ ap (λ (t : List ℕ). c.args.spelling ++ t) (sym (column_list-push (take i columns) column)))
          ),
      rw more (is_empty-push (take i columns) column),
    )
