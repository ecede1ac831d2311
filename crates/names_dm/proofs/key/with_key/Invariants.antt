use Rattle.std.proofs.Common.{◌≡◌, ◌++◌, take}
use Rattle.names_dm.specs.Rows.{AreLawful, key_list}
use Rattle.names_dm.proofs.Words.{is_empty_list}
use Rattle.names_dm.proofs.key.with_key.Given as goal

-- the parts so far are added
abbrev pub invariant-loop-part : goal.invariant-loop-part
invariant-loop-part l =
    (l.spelling ≡ l.initial.spelling ++ key_list (take l.part-index l.key)) × (l.first ≡ is_empty_list (take l.part-index l.key)) × AreLawful (take l.part-index l.key)
