use Rattle.std.proofs.Common.{◌≡◌, ◌+◌, ◌-◌, ◌<◌, ◌≤◌, ℕ, length, slice_index, EachIndex}
use Rattle.store_dm.proofs.starts.push_until.Given as goal

abbrev pub invariant-loop-starts : goal.invariant-loop-starts
invariant-loop-starts l =
    (length l.fn.starts.items ≤ length l.starts.items)
    × EachIndex l.fn.starts.items (λ n. slice_index l.starts.items n ≡ slice_index l.fn.starts.items n)
    × ((n : ℕ) → length l.fn.starts.items ≤ n → n < length l.starts.items → (n ≤ l.first) × (slice_index l.starts.items n ≡ l.start))

abbrev pub decreases-loop-starts : goal.decreases-loop-starts
decreases-loop-starts l = l.first + 1 - length l.starts.items
