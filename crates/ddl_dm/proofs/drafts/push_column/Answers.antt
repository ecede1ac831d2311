use Rattle.std.proofs.Common.{◌∙◌, ap}
use Rattle.std.specs.List.{list_any}
use Rattle.ddl_dm.specs.Meaning.{is_not_null}
use Rattle.ddl_dm.proofs.Growth.{column_added}
use Rattle.ddl_dm.proofs.drafts.push_column.Goals as goal

pub returns : goal.returns
returns c =
    column_added c.args.draft.now c.args.column.now c.in_ok-copy.field-0 c.kind_of.result c.has_not_null.result c.push.new.self c.in_ok-copy.ensures c.kind_of.ensures
    (c.has_not_null.ensures ∙ ap (λ xs. list_any is_not_null xs) c.as_slice.ensures) c.in_ok-push.ensures.ok
