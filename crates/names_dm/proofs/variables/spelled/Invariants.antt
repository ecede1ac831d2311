use Rattle.std.proofs.Common.{◌≡◌, take, string_bytes, flat_map}
use Rattle.names_dm.specs.Variables.{variable_byte}
use Rattle.names_dm.proofs.variables.spelled.Given as goal

-- the bytes so far are written
abbrev pub invariant-loop-byte : goal.invariant-loop-byte
invariant-loop-byte l = string_bytes l.out ≡ flat_map variable_byte (take l.byte-index l.name)
