-- Reads of a table of 16 bytes.
use Rattle.std.specs.Prelude.{ℕ, ◌||◌, Bool, List, nat_le, nat_lt, slice_index, if◌then◌else◌}

-- whether a table of 16 bytes can be read at a place: within it, or from 128 on
abbrev pub is_place : ℕ → Bool
is_place j = nat_le 128 j || nat_lt j 16

-- the byte at a place, which is 0 from 128 on
abbrev pub byte_at : List ℕ → ℕ → ℕ
byte_at table j = if nat_le 128 j then 0 else slice_index table j
