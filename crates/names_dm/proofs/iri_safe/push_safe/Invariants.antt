use Rattle.std.proofs.Common.{◌≡◌, ◌++◌, encode_utf8_all, string_bytes}
use Rattle.names_dm.specs.IriSafe.{safe_form}
use Rattle.names_dm.proofs.iri_safe.push_safe.Given as goal

-- the safe form of the characters so far is added
abbrev pub invariant-loop-c : goal.invariant-loop-c
invariant-loop-c l = string_bytes l.out ≡ string_bytes l.initial.out ++ encode_utf8_all (safe_form l.yielded)
