use Rattle.std.proofs.Common.{◌≡◌, ◌∙◌, List, ap, subst}
use Rattle.std.specs.List.{flat_map}
use Rattle.ddl_syntax_dm.specs.declared.syntax.Item.{Item}
use Rattle.ddl_dm.specs.Meaning.{item_columns, item_keys}
use Rattle.ddl_dm.specs.Building.{extended}
use Rattle.ddl_dm.proofs.Growth.{extended_empty}
use Rattle.ddl_dm.proofs.drafts.own_draft.Goals as goal

pub returns : goal.returns
returns c =
    let P : List Item → Type 0 = λ xs. c.add_items.new.draft ≡ extended c.in_ok-draft.draft (flat_map item_columns xs) (flat_map item_keys xs) in
    let columns = flat_map item_columns c.args.table.now.items in
    let keys = flat_map item_keys c.args.table.now.items in
    subst P c.as_slice.ensures c.in_ok-add_items.ensures ∙ ap (λ d. extended d columns keys) c.in_ok-draft.ensures ∙ extended_empty c.args.table.now.name columns keys
