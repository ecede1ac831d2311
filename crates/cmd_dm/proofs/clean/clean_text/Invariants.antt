use Rattle.std.proofs.Common.{◌≡◌, string_bytes}
use Rattle.std.specs.Prelude.{take}
use Rattle.std.specs.List.{flat_map}
use Rattle.cmd_dm.specs.Clean.{removal_line}
use Rattle.cmd_dm.proofs.clean.clean_text.Given as goal

-- the lines of the first removals stand in the text
abbrev pub invariant-loop-removal : goal.invariant-loop-removal
invariant-loop-removal l = string_bytes l.text ≡ flat_map (removal_line l.tables) (take l.removal-index l.removals)
