-- Which decimals there are.
use Rattle.std.specs.Prelude.{ℕ, ℤ, ◌%◌, ◌^◌, ◌<◌, ◌≤◌, unsigned_abs}

-- A decimal is its coefficient divided by 10 to the power of its scale, and each number has one of them:
-- at most 38 digits, and no fraction digit too many.
abbrev pub IsDecimal : ℤ → ℕ → Type 0
IsDecimal coefficient scale =
    (unsigned_abs coefficient < 10 ^ 38) × (scale ≤ 38) × (0 < scale → 0 < unsigned_abs coefficient % 10)
