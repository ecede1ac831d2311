use Rattle.std.proofs.Common.{◌≡◌, sym, subst, arith, IsTrue}
use lib.Lanes.{Each1, chunk}
use Rattle.std.proofs.lemmas.List.{take_all}
use Rattle.std.proofs.lemmas.Simd.{length-chunk}
use Rattle.lanes_dm.specs.Tables.{is_place}
use Rattle.lanes_dm.proofs.Tables.{are_first_places, are_second_places, first_places, rows_there, second_places}
use Rattle.lanes_dm.proofs.bytes.rows_of.Goals as goal

pub look_up-first-requires : goal.look_up-first-requires
look_up-first-requires c = subst (Each1 (λ j. IsTrue (is_place j))) (sym (first_places c.args.v c.fits-v.0)) (are_first_places c.args.v c.fits-v.1)

pub look_up-second-requires : goal.look_up-second-requires
look_up-second-requires c = subst (Each1 (λ j. IsTrue (is_place j))) (sym (second_places c.args.v c.fits-v.0)) (are_second_places c.args.v c.fits-v.1)

pub returns : goal.returns
returns c =
    let v = c.args.v in
    let rows = c.args.rows.now in
    let first = c.look_up-first.ensures in
    let second = c.look_up-second.ensures in
    let whole : chunk 0 16 (chunk 16 16 rows) ≡ chunk 16 16 rows = take_all 16 (chunk 16 16 rows) (omega (arith, length-chunk 16 16 rows (omega (arith, c.told-rows)))) in
    rw (first, second, first_places v c.fits-v.0, second_places v c.fits-v.0, whole) (rows_there rows v c.fits-v.0 c.fits-v.1)
