use Rattle.std.proofs.Common.{◌≡◌, map, take}
use Rattle.solutions_dm.specs.declared.row_pair.RowPair.{RowPair}
use Rattle.solutions_dm.specs.Merge.{first_bound, number_in}
use Rattle.solutions_dm.proofs.merges.merged_numbers.Given as goal

abbrev pub invariant-loop-pair : goal.invariant-loop-pair
invariant-loop-pair l = l.numbers ≡ map (λ (p : RowPair). first_bound (number_in l.left p.left) (number_in l.right p.right)) (take l.pair-index l.pairs)
