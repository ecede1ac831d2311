use Rattle.std.proofs.Common.{ℕ, List, get_or, sym, subst}
use Rattle.members_dm.specs.Membership.{NoRepeats}
use Rattle.roles_dm.specs.Numbers.{HasNumbers}
use Rattle.graph_tables_dm.specs.Columns.{IsColumnOf}
use Rattle.graph_tables_dm.specs.Listed.{ListsOnce}
use Rattle.graph_tables_dm.proofs.ListedLemmas.{put_in_order}
use Rattle.graph_tables_dm.proofs.LoopLemmas.{columns_all, columns_more, one_column_of, same_read}
use Rattle.graph_tables_dm.proofs.columns.columns_of.Goals as goal

pub loop-number-preserved : goal.loop-number-preserved
loop-number-preserved c =
    let xs = c.as_slice-number-items.result.now in
    let i = c.loop-number.number-index in
    let once : NoRepeats xs = subst (λ (ns : List ℕ). NoRepeats ns) (sym c.as_slice-number-items.ensures.value) c.in_ok-found.ensures.once in
    columns_more c.args.roles.now c.args.class xs i (get_or xs i 0) once c.loop-number-test.true (same_read xs i 0 (get_or xs i 0) c.loop-number-test.true) c.loop-number.names.items c.add_column.new.names.items c.loop-number.invariant
    c.in_ok-add_column.ensures

pub returns : goal.returns
returns c =
    let g = c.args.graph.now in
    let w = c.args.words.now in
    let xs = c.as_slice-number-items.result.now in
    let found : ListsOnce (λ s. HasNumbers g s w.domain c.args.class) xs =
    subst (λ (ns : List ℕ). ListsOnce (λ s. HasNumbers g s w.domain c.args.class) ns) (sym c.as_slice-number-items.ensures.value) c.in_ok-found.ensures in
    put_in_order (IsColumnOf g w c.args.roles.now c.args.class) (one_column_of c.args.roles.now c.args.class g w) c.loop-number.names.items c.in_order.result.items
    (columns_all c.args.roles.now c.args.class g w xs c.loop-number.number-index c.loop-number.names.items found c.loop-number-test.false c.loop-number.invariant) c.in_order.ensures.same c.in_order.ensures.rising
