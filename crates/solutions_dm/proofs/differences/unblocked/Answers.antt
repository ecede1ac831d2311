use Rattle.std.proofs.Common.{get_or, ℕ, ◌+◌, ◌++◌, List, refl, ◌≡◌, ◌<◌, ◌-◌, length, take, drop, arith, subst, sym, true}
use Rattle.std.proofs.lemmas.List.Elements.{All-take, All-drop}
use Rattle.solutions_dm.specs.Keys.{is_below, rows_of}
use Rattle.solutions_dm.specs.Pairs.{joined, row_pairs}
use Rattle.solutions_dm.specs.declared.keys.Keyed.{Keyed}
use Rattle.solutions_dm.specs.declared.row_pair.RowPair.{RowPair}
use Rattle.solutions_dm.proofs.SiftLemmas.{sifted_more}
use Rattle.solutions_dm.proofs.RunLemmas.{Merged, left_within, right_within, merged_more, all_lower}
use Rattle.solutions_dm.proofs.differences.unblocked.Goals as goal

pub any_blocks-blocked-requires-clause-left_row : goal.any_blocks-blocked-requires-clause-left_row
any_blocks-blocked-requires-clause-left_row c =
    subst (λ (k : Keyed). k.row < c.args.left.now.rows) (sym c.one-item.is)
    (left_within c.args.left.now c.args.right.now c.args.names.now c.requires.left_filled c.requires.right_filled c.args.left_rows.now c.args.right_rows.now c.requires.left_keyed c.requires.right_keyed
    c.loop-one.one-index c.one-item.result (omega arith))

pub any_blocks-blocked-requires-clause-right_rows : goal.any_blocks-blocked-requires-clause-right_rows
any_blocks-blocked-requires-clause-right_rows c =
    let P : Keyed → Type 0 = λ k. k.row < c.args.right.now.rows in
    All-take P (c.first_above-end.result - c.first_not_below-start.result) (drop c.first_not_below-start.result c.args.right_rows.now)
    (All-drop P c.first_not_below-start.result c.args.right_rows.now
    (right_within c.args.left.now c.args.right.now c.args.names.now c.requires.left_filled c.requires.right_filled c.args.left_rows.now c.args.right_rows.now c.requires.left_keyed c.requires.right_keyed))

pub loop-one-preserved : goal.loop-one-preserved
loop-one-preserved c =
    let left = c.args.left.now in
    let right = c.args.right.now in
    let L = c.args.left_rows.now in
    let R = c.args.right_rows.now in
    let a = c.loop-one.one-index in
    let s = c.first_not_below-start.result in
    let e = c.first_above-end.result in
    let x = c.one-item.result in
    let before : List RowPair = joined left.columns right.columns (rows_of (take a L)) (rows_of R) in
    let low : (k : ℕ) (d : Keyed) → k < s → is_below (get_or R k d).key.items x.key.items ≡ true =
    all_lower left right c.args.names.now c.requires.left_filled c.requires.right_filled L R c.requires.left_keyed c.requires.right_keyed
    a c.loop-one.start s x c.as_slice.result.now before (omega arith) c.one-item.is c.as_slice.ensures.value c.loop-one.invariant.0 c.first_not_below-start.ensures.skipped in
    let high : (d : Keyed) → e < length R → is_below x.key.items (get_or R e d).key.items ≡ true =
    λ d l. subst (λ key. is_below key (get_or R e d).key.items ≡ true) c.as_slice-in-loop-one.ensures.value (c.first_above-end.ensures.stopped d l) in
    let m = merged_more left right c.args.names.now c.requires.left_filled c.requires.right_filled L R c.requires.left_keyed c.requires.right_keyed
    a s e x (omega arith) c.one-item.is c.first_above-end.ensures.low c.first_above-end.ensures.high low high
    before (before ++ row_pairs left.columns right.columns x.row (rows_of (take (e - s) (drop s R)))) refl refl in (
      subst (λ (ps : List RowPair). Merged left right L R (a + 1) s ps) m.pairs m,
      sifted_more left right c.args.names.now c.requires.left_filled c.requires.right_filled L R c.requires.left_keyed c.requires.right_keyed
          a s e x (omega arith) c.one-item.is c.first_above-end.ensures.low c.first_above-end.ensures.high low high
          c.loop-one.kept.items c.add_unless.new.kept.items c.any_blocks-blocked.result c.loop-one.invariant.1 c.any_blocks-blocked.ensures c.in_ok-add_unless.ensures,
    )
