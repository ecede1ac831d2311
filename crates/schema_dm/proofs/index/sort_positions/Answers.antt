use Rattle.std.proofs.Common.{◌≡◌, ℕ, is_lt, rules}
use Rattle.std.proofs.lemmas.Fn.{always_returns_same}
use Rattle.members_dm.specs.InOrder.{position_cmp}
use Rattle.members_dm.proofs.OrderLemmas.{positions_weak, rising_from_sort}
use Rattle.schema_dm.proofs.index.sort_positions.Goals as goal

pub returns-clause-rising : goal.returns-clause-rising
returns-clause-rising g c =
    rising_from_sort g.met.K.Ord.total c.args.items.now c.sort_unstable_by.new.self.items
    (c.sort_unstable_by.ensures.sorted (λ (i j : ℕ). is_lt (position_cmp g.K.Ord.cmp c.args.items.now i j)) (positions_weak g.met.K.Ord.total c.args.items.now)
    (always_returns_same _ (λ a r. is_lt r ≡ is_lt (position_cmp g.K.Ord.cmp c.args.items.now a.0.now a.1.0.now)) _ (λ a r f k. search rules)))
