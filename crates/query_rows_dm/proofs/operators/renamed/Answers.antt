use Rattle.std.proofs.Common.{◌≡◌, List, map, subst, sym, ap, ◌∙◌}
use Rattle.names_dm.specs.Variables.{variable_of}
use Rattle.solutions_dm.specs.declared.selects.Rename.{Rename}
use Rattle.solutions_dm.specs.Selects.{AreTargetsApart}
use Rattle.query_rows_dm.specs.Operators.{renamed, renames}
use Rattle.query_rows_dm.proofs.StepLemmas.{itself, moved_by, targets_apart, targets_are}
use Rattle.query_rows_dm.proofs.operators.renamed.Goals as goal

pub select-requires : goal.select-requires
select-requires c =
    let f = renamed (variable_of c.args.from.now) (variable_of c.args.to.now) in
    let made : c.in_ok-renames.renames ≡ renames f c.args.part.now.attributes = c.in_ok-renames.ensures ∙ (λ i. renames (renamed (c.in_ok-old.ensures.text i) (c.in_ok-new.ensures.text i)) (c.as_slice.ensures i)) in
    subst (λ (rs : List Rename). AreTargetsApart rs) (sym made) (targets_apart f c.args.part.now.attributes c.requires.once)

pub returns : goal.returns
returns c =
    let f = renamed (variable_of c.args.from.now) (variable_of c.args.to.now) in
    let xs = c.args.part.now.attributes in
    let made : c.in_ok-renames.renames ≡ renames f xs = c.in_ok-renames.ensures ∙ (λ i. renames (renamed (c.in_ok-old.ensures.text i) (c.in_ok-new.ensures.text i)) (c.as_slice.ensures i)) in
    record {
      moved = moved_by xs f c.args.part.now c.in_ok-targets.field-0 c.in_ok-select.field-0 c.in_ok-select.field-0 c.in_ok-renames.renames
          (c.in_ok-targets.ensures ∙ ap (map (λ (r : Rename). r.to)) (c.as_slice-2.ensures ∙ made) ∙ targets_are f xs) made c.in_ok-select.ensures (itself c.in_ok-select.field-0);
      owned = c.in_ok-new.ensures.owned;
    }
