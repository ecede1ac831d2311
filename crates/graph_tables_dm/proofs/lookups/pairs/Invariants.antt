use Rattle.std.proofs.Common.{◌≡◌, ℕ, map}
use Rattle.graph_tables_dm.proofs.lookups.pairs.Given as goal

abbrev pub invariant-loop-subject : goal.invariant-loop-subject
invariant-loop-subject l = l.found.items ≡ map {A = ℕ × ℕ × ℕ} {B = ℕ × ℕ} (λ x. (x.0, x.2)) l.yielded
