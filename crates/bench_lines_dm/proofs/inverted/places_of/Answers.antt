use Rattle.std.proofs.Common.{◌∙◌, ◌<◌, ◌≤◌, length, ap, arith, get_or, List, ℕ, Some}
use Rattle.std.proofs.lemmas.Option.{none-some}
use Rattle.bench_lines_dm.proofs.PlainTables.{all_places, item_there, next_place}
use Rattle.bench_lines_dm.proofs.inverted.places_of.Goals as goal

pub returns-in-None : goal.returns-in-None
returns-in-None c = λ places each.
    let within : c.loop-column.column-index < length c.args.wanted.now = omega arith in
    absurd (none-some (get_or places c.loop-column.column-index 0)
    (c.in-None.ensures (get_or places c.loop-column.column-index 0) (item_there _ places c.args.wanted.now c.loop-column.column-index c.column-item.result each within c.column-item.is)))

pub loop-column-preserved : goal.loop-column-preserved
loop-column-preserved c =
    let within : c.loop-column.column-index < length c.args.wanted.now = omega arith in (
      c.loop-column.invariant.0,
      (λ places each. c.in_ok-push-in-Some.ensures.ok ∙ next_place _ places c.loop-column.places c.args.wanted.now c.loop-column.column-index c.column-item.result c.in-Some.place each within c.column-item.is
          c.in-Some.ensures (c.loop-column.invariant.1 places each)),
    )

pub returns : goal.returns
returns c = λ places each.
    let done : length c.args.wanted.now ≤ c.loop-column.column-index = omega arith in
    ap (λ (ps : List ℕ). Some ps) (all_places _ places c.loop-column.places c.args.wanted.now c.loop-column.column-index each done (c.loop-column.invariant.1 places each))
