-- A set of bytes: one test for each byte from 0 to 255.
use Rattle.std.specs.Prelude.{ℕ, ◌/◌, ◌%◌, ◌==◌, Bool, false, List, map, slice_index, slice_index_or}
use Rattle.std.specs.Int.{bit_at}
use Rattle.std.specs.List.{range_with_len}

-- whether the set has this byte
abbrev pub has_byte : List Bool → ℕ → Bool
has_byte tests b = slice_index_or tests b false

-- whether a table of bits has the bit b % 8 of its row b / 8
abbrev pub is_set : List ℕ → ℕ → Bool
is_set rows b = bit_at (slice_index rows (b / 8)) (b % 8) == 1

-- the set that a table of bits stands for
unfoldable pub tests_of : List ℕ → List Bool
tests_of rows = map (is_set rows) (range_with_len 0 256)
