use Rattle.std.proofs.Common.{List, subst, sym}
use Rattle.std.specs.Prelude.{nat_eq}
use Rattle.std.specs.Cmp.Lexicographic.{pointwise}
use Rattle.std.proofs.lemmas.List.Filters.{dedup_is}
use Rattle.tsv_dm.specs.Lines.{AreRising, Row}
use Rattle.tsv_dm.proofs.RowLemmas.{rising_rows}
use Rattle.tsv_dm.proofs.rows.rising.Goals as goal

pub returns : goal.returns
returns c =
    let xs = c.args.rows.items in
    let ys = c.sort_unstable.new.self.items in
    subst (λ (zs : List Row). AreRising xs zs) (sym (dedup_is (pointwise (pointwise nat_eq)) ys _ c.dedup.ensures.filtered))
    (rising_rows xs ys c.sort_unstable.ensures.permutation c.sort_unstable.ensures.sorted)
