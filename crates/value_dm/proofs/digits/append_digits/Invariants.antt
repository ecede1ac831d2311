use Rattle.std.proofs.Common.{◌≡◌, ◌<◌, ◌^◌, take}
use Rattle.std.specs.Str.Parse.{digits_value_after}
use Rattle.value_dm.proofs.digits.append_digits.Given as goal

-- the digits so far are appended
abbrev pub invariant-loop-byte : goal.invariant-loop-byte
invariant-loop-byte l = record {
  value : l.appended ≡ digits_value_after 10 l.fn.number (take l.byte-index l.digits);
  fits : l.appended < 10 ^ 38;
}
