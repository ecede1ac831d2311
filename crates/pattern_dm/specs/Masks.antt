-- A condition over all rows at once, as two masks.
use Rattle.std.specs.Prelude.{◌≡◌, ◌≢◌, ◌↔◌, ◌<◌, ◌==◌, ◌||◌, ◌&&◌, ℕ, List, true, false, not, length, slice_index}
use Rattle.std.specs.Simd.Lanes.{zip2}
use Rattle.lanes_dm.specs.Flags.{flag}
use Rattle.names_dm.specs.declared.term.Term.{Term}
use Rattle.solutions_dm.specs.Table.{Table}
use Rattle.pattern_dm.specs.declared.pattern.Condition.{Condition}
use Rattle.pattern_dm.specs.declared.masks.Masks.{Masks}
use Rattle.pattern_dm.specs.Says.{Says}
use Rattle.pattern_dm.specs.Solved.{mapping_at}

-- a byte for each row, which isn't 0 exactly where this holds
pub record Marks (n : ℕ) (P : ℕ → Type 0) (mask : List ℕ) : Type 0 where
  pub long : length mask ≡ n
  pub each : (i : ℕ) → i < n → (slice_index mask i ≢ 0) ↔ P i

-- the rows at which something holds, and those at which something fails; a row may be neither
pub record AreSplit (n : ℕ) (P Q : ℕ → Type 0) (masks : Masks) : Type 0 where
  pub holds : Marks n P masks.holds.items
  pub fails : Marks n Q masks.fails.items

-- the rows for which the condition is true, and those for which it is false
abbrev pub AreMasks : List Term → Condition → Table → Masks → Type 0
AreMasks terms f s masks = AreSplit s.rows (λ i. Says f true (mapping_at terms s i)) (λ i. Says f false (mapping_at terms s i)) masks

-- ---- what the code computes

abbrev pub both_flags : List ℕ → List ℕ → List ℕ
both_flags a b = zip2 (λ x y. flag (not (x == 0 || y == 0))) a b

abbrev pub either_flags : List ℕ → List ℕ → List ℕ
either_flags a b = zip2 (λ x y. flag (not (x == 0 && y == 0))) a b
