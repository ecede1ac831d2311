use Rattle.std.proofs.Common.{◌≡◌, is_lt, rules}
use Rattle.std.proofs.lemmas.Fn.{always_returns_same}
use Rattle.value_dm.specs.Order.{byte_cmp}
use Rattle.graph_tables_dm.specs.declared.listed.NumberedName.{NumberedName}
use Rattle.graph_tables_dm.proofs.ListedLemmas.{names_weak, sorted_rising}
use Rattle.graph_tables_dm.proofs.listed.in_order.Goals as goal

pub returns-clause-rising : goal.returns-clause-rising
returns-clause-rising c = sorted_rising c.sort_unstable_by.new.self.items
    (c.sort_unstable_by.ensures.sorted (λ (x y : NumberedName). is_lt (byte_cmp x.name y.name)) names_weak
    (always_returns_same _ (λ a r. is_lt r ≡ is_lt (byte_cmp a.0.now.name a.1.0.now.name)) _ (λ a r f k. search rules)))
