use Rattle.std.proofs.Common.{◌≡◌, ◌∙◌, ℕ, List, map}
use Rattle.std.proofs.lemmas.Result.{IfOk-weaker}
use Rattle.solutions_dm.specs.declared.row_pair.RowPair.{RowPair}
use Rattle.solutions_dm.specs.Merge.{first_bound, merged, number_in}
use Rattle.solutions_dm.proofs.MergeLemmas.{number_in_is}
use Rattle.solutions_dm.proofs.merges.merged_column.Goals as goal

pub returns : goal.returns
returns c =
    let l = c.args.left.now in
    let r = c.args.right.now in
    let ps = c.args.pairs.now in
    let x = c.args.name.now in
    let numbers : List ℕ = map (λ (p : RowPair). first_bound (number_in c.column.result p.left) (number_in c.column-2.result p.right)) ps in
    let same : numbers ≡ merged l r ps x =
    λ q. map (λ (p : RowPair). first_bound (number_in_is l x c.column.result c.column.ensures p.left q) (number_in_is r x c.column-2.result c.column-2.ensures p.right q)) ps in
    IfOk-weaker c.merged_numbers.result (λ ns. ns ≡ numbers) (λ ns. ns ≡ merged l r ps x) (λ ns e. e ∙ same) c.merged_numbers.ensures
