use Rattle.std.proofs.Common.{◌≡◌, is_lt, rules}
use Rattle.std.proofs.lemmas.Fn.{always_returns_same}
use Rattle.consistency_dm.specs.Ranges.{asks_cmp, asks_of}
use Rattle.consistency_dm.specs.declared.range.StatedRange.{StatedRange}
use Rattle.consistency_dm.proofs.AskedRanges.{ranges_weak, rising_from_sort}
use Rattle.consistency_dm.proofs.range.sort_ranges.Goals as goal

pub returns-clause-rising : goal.returns-clause-rising
returns-clause-rising c =
    rising_from_sort c.sort_unstable_by.new.self.items
    (c.sort_unstable_by.ensures.sorted (λ (x y : StatedRange). is_lt (asks_cmp (asks_of x) (asks_of y))) ranges_weak
    (always_returns_same _ (λ a r. is_lt r ≡ is_lt (asks_cmp (asks_of a.0.now) (asks_of a.1.0.now))) _ (λ a r f k. search rules)))
