-- The first place at which a test passes is at most the length.
use Rattle.std.proofs.Common.{◌+◌, ◌≤◌, Bool, true, false, cond, not, List, [], ◌∷◌, length, arith}
use Rattle.std.specs.List.{position_or_len}

pub place_most : {X : Type 0} (p : X → Bool) (xs : List X) → position_or_len p xs ≤ length xs
place_most p [] = omega arith
place_most p (x ∷ xs) = let rest : position_or_len p xs ≤ length xs = place_most p xs in elim (p x) as (λ b. cond (not b) (1 + position_or_len p xs) 0 ≤ length (x ∷ xs)) [ true ↦ omega arith | false ↦ omega arith ]
