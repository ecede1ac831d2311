use Rattle.std.proofs.Common.{◌≡◌, ◌≤◌, ◌<◌, ℕ, List, true, false, subst, refl, arith, get_or, length}
use Rattle.roles_dm.specs.Links.{HasKind}
use Rattle.roles_dm.proofs.ColumnLemmas.{fails}
use Rattle.roles_dm.proofs.LinkLemmas.{each_more, item_there, each_taken}
use Rattle.roles_dm.proofs.links.all_columns.Goals as goal

pub returns-then-not-told : goal.returns-then-not-told
returns-then-not-told c G is words datatypes = (
  (λ e. absurd (let f : false ≡ true = e in cc)),
  (λ each. absurd (fails c.in_ok-told.told (c.in_ok-told.ensures G is words datatypes) c.if-not-told.true (each c.column-item.result (item_there c.args.name.now.columns c.loop-column.column-index c.column-item.result (subst (λ (xs : List (List ℕ)). c.loop-column.column-index < length xs) c.as_slice-column-items.ensures c.loop-column-test.true) (subst (λ (xs : List (List ℕ)). c.column-item.result ≡ get_or xs c.loop-column.column-index c.column-item.result) c.as_slice-column-items.ensures c.column-item.is))))),
)

pub loop-column-preserved : goal.loop-column-preserved
loop-column-preserved c G is words datatypes =
    each_more (HasKind c.args.base.now G c.args.name.now.table) c.args.name.now.columns c.loop-column.column-index c.column-item.result (subst (λ (xs : List (List ℕ)). c.loop-column.column-index < length xs) c.as_slice-column-items.ensures c.loop-column-test.true) (subst (λ (xs : List (List ℕ)). c.column-item.result ≡ get_or xs c.loop-column.column-index c.column-item.result) c.as_slice-column-items.ensures c.column-item.is) ((c.in_ok-told.ensures G is words datatypes).0 c.if-not-told.false) (c.loop-column.invariant G is words datatypes)

pub returns : goal.returns
returns c G is words datatypes = let past : length c.as_slice-column-items.result.now ≤ c.loop-column.column-index = omega (arith, c.loop-column-test.false) in (
  (λ _. each_taken (HasKind c.args.base.now G c.args.name.now.table) c.args.name.now.columns c.loop-column.column-index (subst (λ (xs : List (List ℕ)). length xs ≤ c.loop-column.column-index) c.as_slice-column-items.ensures past) (c.loop-column.invariant G is words datatypes)),
  (λ _. refl),
)
