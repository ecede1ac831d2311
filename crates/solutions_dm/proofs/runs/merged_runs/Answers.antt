use Rattle.std.proofs.Common.{get_or, ◌≡◌, ◌<◌, ◌-◌, drop, arith, subst, sym, true}
use Rattle.std.proofs.lemmas.List.Elements.{All-take, All-drop}
use Rattle.solutions_dm.specs.Keys.{is_below}
use Rattle.solutions_dm.specs.declared.keys.Keyed.{Keyed}
use Rattle.solutions_dm.proofs.RunLemmas.{left_within, right_within, merged_more, all_lower}
use Rattle.solutions_dm.proofs.runs.merged_runs.Goals as goal

pub add_pairs-requires-clause-left_row : goal.add_pairs-requires-clause-left_row
add_pairs-requires-clause-left_row c =
    subst (λ (k : Keyed). k.row < c.args.left.now.rows) (sym c.one-item.is)
    (left_within c.args.left.now c.args.right.now c.args.names.now c.requires.left_filled c.requires.right_filled c.args.left_rows.now c.args.right_rows.now c.requires.left_keyed c.requires.right_keyed
    c.loop-one.one-index c.one-item.result (omega arith))

pub add_pairs-requires-clause-right_rows : goal.add_pairs-requires-clause-right_rows
add_pairs-requires-clause-right_rows c =
    let P : Keyed → Type 0 = λ k. k.row < c.args.right.now.rows in
    All-take P (c.first_above-end.result - c.first_not_below-start.result) (drop c.first_not_below-start.result c.args.right_rows.now)
    (All-drop P c.first_not_below-start.result c.args.right_rows.now
    (right_within c.args.left.now c.args.right.now c.args.names.now c.requires.left_filled c.requires.right_filled c.args.left_rows.now c.args.right_rows.now c.requires.left_keyed c.requires.right_keyed))

pub loop-one-preserved : goal.loop-one-preserved
loop-one-preserved c =
    merged_more c.args.left.now c.args.right.now c.args.names.now c.requires.left_filled c.requires.right_filled c.args.left_rows.now c.args.right_rows.now c.requires.left_keyed c.requires.right_keyed
    c.loop-one.one-index c.first_not_below-start.result c.first_above-end.result c.one-item.result (omega arith) c.one-item.is
    c.first_above-end.ensures.low c.first_above-end.ensures.high
    (all_lower c.args.left.now c.args.right.now c.args.names.now c.requires.left_filled c.requires.right_filled c.args.left_rows.now c.args.right_rows.now c.requires.left_keyed c.requires.right_keyed
    c.loop-one.one-index c.loop-one.start c.first_not_below-start.result c.one-item.result c.as_slice.result.now c.loop-one.pairs
    (omega arith) c.one-item.is c.as_slice.ensures.value c.loop-one.invariant c.first_not_below-start.ensures.skipped)
    (λ d l. subst (λ key. is_below key (get_or c.args.right_rows.now c.first_above-end.result d).key.items ≡ true) c.as_slice-in-loop-one.ensures.value (c.first_above-end.ensures.stopped d l))
    c.loop-one.pairs c.add_pairs.new.pairs c.loop-one.invariant.pairs c.in_ok-add_pairs.ensures
