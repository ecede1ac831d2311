use Rattle.std.proofs.Common.{◌≡◌, ◌+◌, List, length, get_or, refl, subst, sym, arith}
use Rattle.std.proofs.lemmas.Option.{slice_get-get_or}
use Rattle.solutions_dm.specs.declared.row_pair.RowPair.{RowPair}
use Rattle.pattern_dm.specs.Passing.{ArePassing}
use Rattle.pattern_dm.proofs.LeftJoins.{passing_more, passing_none}
use Rattle.pattern_dm.proofs.operators.passing.Goals as goal

pub loop-i-init : goal.loop-i-init
loop-i-init c = subst (λ (qs : List RowPair). ArePassing c.args.places.now c.args.mask.now 0 qs) (sym c.new-list.ensures) (passing_none c.args.places.now c.args.mask.now)

pub loop-i-preserved : goal.loop-i-preserved
loop-i-preserved c =
    let places = c.args.places.now in
    let mask = c.args.mask.now in
    let i = c.loop-i.i in
    let none : RowPair = record { left = 0; right = 0 } in
    subst (λ (qs : List RowPair). ArePassing places mask (i + 1) qs) (sym c.in_ok-add_if.ensures)
    (passing_more places mask i c.loop-i.list (get_or places i none) _ (slice_get-get_or places i none (omega arith)) refl c.loop-i.invariant)

pub returns : goal.returns
returns c =
    let end : c.loop-i.i ≡ length c.args.places.now = omega arith in
    subst (λ n. ArePassing c.args.places.now c.args.mask.now n c.loop-i.list) end c.loop-i.invariant
