use Rattle.std.proofs.Common.{List, map, subst, sym, ap, ◌∙◌}
use Rattle.names_dm.specs.Variables.{variable_of}
use Rattle.solutions_dm.specs.declared.selects.Rename.{Rename}
use Rattle.solutions_dm.specs.Selects.{AreTargetsApart}
use Rattle.query_rows_dm.specs.Operators.{renames}
use Rattle.query_rows_dm.proofs.StepLemmas.{map_same, moved_by, targets_apart, variables_once}
use Rattle.query_rows_dm.proofs.operators.projected.Goals as goal

pub select-requires : goal.select-requires
select-requires c = subst (λ (rs : List Rename). AreTargetsApart rs) (sym (c.in_ok-renames.ensures ∙ ap (renames (λ x. x)) (c.as_slice-2.ensures ∙ c.in_ok-attributes.ensures.texts ∙ ap (map variable_of) c.as_slice.ensures)))
    (targets_apart (λ x. x) (map variable_of c.args.names.now) (variables_once c.args.names.now c.requires.once (rw c.as_slice.ensures at c.in_ok-attributes.ensures.owned)))

pub returns : goal.returns
returns c =
    let xs = map variable_of c.args.names.now in
    moved_by xs (λ x. x) c.args.part.now c.attributes.inside.items.items c.in_ok-chosen.chosen c.in_ok-distinct.field-0 c.in_ok-renames.renames
    (c.attributes.view_is ∙ c.in_ok-attributes.ensures.texts ∙ ap (map variable_of) c.as_slice.ensures ∙ sym (map_same xs))
    (c.in_ok-renames.ensures ∙ ap (renames (λ x. x)) (c.as_slice-2.ensures ∙ c.in_ok-attributes.ensures.texts ∙ ap (map variable_of) c.as_slice.ensures))
    c.in_ok-chosen.ensures c.in_ok-distinct.ensures.same
