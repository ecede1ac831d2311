use Rattle.std.proofs.Common.{◌≡◌, string_bytes}
use Rattle.std.specs.Prelude.{take}
use Rattle.std.specs.List.{flat_map}
use Rattle.cmd_dm.specs.Check.{violation_line}
use Rattle.cmd_dm.proofs.check.check_text.Given as goal

-- the lines of the first violations stand in the text
abbrev pub invariant-loop-violation : goal.invariant-loop-violation
invariant-loop-violation l = string_bytes l.text ≡ flat_map (violation_line l.tables) (take l.violation-index l.found)
