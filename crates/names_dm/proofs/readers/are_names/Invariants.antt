use Rattle.std.proofs.Common.{◌≡◌, take}
use Rattle.std.specs.List.{list_all}
use Rattle.names_dm.specs.Reading.{is_name}
use Rattle.names_dm.proofs.readers.are_names.Given as goal

-- all texts so far are names
abbrev pub invariant-loop-text : goal.invariant-loop-text
invariant-loop-text l = l.good ≡ list_all is_name (take l.text-index l.texts)
