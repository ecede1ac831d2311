-- One byte for each row: 1 where a test holds, and else 0.
use Rattle.std.specs.Prelude.{ℕ, Bool, if◌then◌else◌}

-- the byte that stands for a test
abbrev pub flag : Bool → ℕ
flag test = if test then 1 else 0
