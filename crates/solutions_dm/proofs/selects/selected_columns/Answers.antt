use Rattle.std.proofs.Common.{◌≡◌, ◌++◌, ◌∷◌, [], take, map, sym, ap, ◌∙◌, arith}
use Rattle.std.proofs.lemmas.List.{map_more}
use Rattle.solutions_dm.specs.declared.columns.Column.{Column}
use Rattle.solutions_dm.specs.declared.selects.Rename.{Rename}
use Rattle.solutions_dm.specs.Selects.{selected_column}
use Rattle.solutions_dm.proofs.selects.selected_columns.Goals as goal

pub loop-rename-preserved : goal.loop-rename-preserved
loop-rename-preserved c =
    let t = c.args.rows.now in
    let rs = c.args.renames.now in
    let k = c.loop-rename.rename-index in
    let r = c.rename-item.result in
    let item : ◌≡◌ {A = Column} (record { name = c.in_ok-copy.field-0; numbers = c.in_ok-numbers_of.field-0 }) (selected_column t r) =
    λ q. record { name = c.in_ok-copy.ensures q; numbers = c.in_ok-numbers_of.ensures q } in
    c.in_ok-push.ensures.ok ∙ (λ q. c.loop-rename.invariant q ++ item q ∷ [])
    ∙ sym (map_more (selected_column t) rs k r (omega arith) ∙ ap (λ (z : Rename). map (selected_column t) (take k rs) ++ selected_column t z ∷ []) (sym c.rename-item.is))
