use Rattle.std.proofs.Common.{◌≡◌, ◌++◌, map, string_bytes, take}
use Rattle.pattern_dm.specs.Texts.{variable_text, spaced}
use Rattle.pattern_dm.proofs.texts.push_header.Given as goal

abbrev pub invariant-loop-place : goal.invariant-loop-place
invariant-loop-place l = string_bytes l.out ≡ string_bytes l.fn.out ++ spaced (map variable_text (take l.place l.header))
