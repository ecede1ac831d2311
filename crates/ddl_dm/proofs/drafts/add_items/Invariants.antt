use Rattle.std.proofs.Common.{◌≡◌, take}
use Rattle.std.specs.List.{flat_map}
use Rattle.ddl_dm.specs.Meaning.{item_columns, item_keys}
use Rattle.ddl_dm.specs.Building.{extended}
use Rattle.ddl_dm.proofs.drafts.add_items.Given as goal

-- the draft, with what the items so far add
abbrev pub invariant-loop-item : goal.invariant-loop-item
invariant-loop-item l = l.draft ≡ extended l.initial.draft (flat_map item_columns (take l.item-index l.items)) (flat_map item_keys (take l.item-index l.items))
