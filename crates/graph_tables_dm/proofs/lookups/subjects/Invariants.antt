use Rattle.std.proofs.Common.{◌≡◌, ℕ, map}
use Rattle.graph_tables_dm.proofs.lookups.subjects.Given as goal

abbrev pub invariant-loop-subject : goal.invariant-loop-subject
invariant-loop-subject l = l.found.items ≡ map (λ (x : ℕ × ℕ × ℕ). x.0) l.yielded
