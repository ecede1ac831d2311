use Rattle.std.proofs.Common.{◌≡◌, ◌≤◌, arith, length}
use Rattle.graph_tables_dm.specs.Listed.{IsTabled}
use Rattle.graph_tables_dm.proofs.ListedLemmas.{one_table, put_in_order, tabled_all, tabled_more}
use Rattle.graph_tables_dm.proofs.listed.table_names.Goals as goal

pub loop-before-preserved : goal.loop-before-preserved
loop-before-preserved c = tabled_more c.args.roles.now c.loop-before.before c.loop-before.names.items c.add_tabled.new.names.items c.loop-before.invariant c.in_ok-add_tabled.ensures

pub returns : goal.returns
returns c =
    let all : c.in_ok-before-end.before-end ≡ length c.args.roles.now = c.in_ok-before-end.ensures in
    let past : length c.args.roles.now ≤ c.loop-before.before = omega (arith, all) in
    put_in_order (IsTabled c.args.roles.now) (one_table c.args.roles.now) c.loop-before.names.items c.in_order.result.items
    (tabled_all c.args.roles.now c.loop-before.before c.loop-before.names.items past c.loop-before.invariant) c.in_order.ensures.same c.in_order.ensures.rising
