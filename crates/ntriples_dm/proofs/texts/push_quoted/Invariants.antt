use Rattle.std.proofs.Common.{◌≡◌, ◌++◌, string_bytes}
use Rattle.ntriples_dm.specs.Written.{quoted_text}
use Rattle.ntriples_dm.proofs.texts.push_quoted.Given as goal

-- the characters so far are added
abbrev pub invariant-loop-c : goal.invariant-loop-c
invariant-loop-c l = string_bytes l.out ≡ string_bytes l.initial.out ++ quoted_text l.yielded
