use Rattle.std.proofs.Common.{◌+◌, ◌<◌, ℕ}
use Rattle.clean_dm.specs.Working.{Dangles}
use Rattle.clean_dm.proofs.dangling.first_key.Given as goal

-- none of the keys before dangles
abbrev pub invariant-loop-place : goal.invariant-loop-place
invariant-loop-place l = (number : ℕ) → number < l.place + 1 → Dangles l.database l.left l.table l.row number → ⊥
