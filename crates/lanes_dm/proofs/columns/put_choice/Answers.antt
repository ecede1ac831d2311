use Rattle.std.proofs.Common.{◌∙◌, cond, replicate, ap, refl, arith, Fits, w8}
use lib.Dec.{eqb}
use lib.Lanes.{chunk, put_chunk}
use Rattle.std.proofs.lemmas.List.{map-id}
use Rattle.std.proofs.lemmas.Simd.{Each1-replicate, length-chunk, zip2_splat}
use Rattle.lanes_dm.proofs.Masks.{chosen32, each_sel}
use Rattle.lanes_dm.proofs.columns.put_choice.Goals as goal

pub overflow_cast-out : goal.overflow_cast-out
overflow_cast-out c = each_sel (Fits w8) _ (replicate 16 c.from.result) (replicate 16 c.from-2.result) (Each1-replicate (Fits w8) 16 c.from.result (record { fits = omega arith })) (Each1-replicate (Fits w8) 16 c.from-2.result (record { fits = omega arith }))

pub returns : goal.returns
returns c =
    let part = chunk c.args.at 16 c.args.column.now in
    let long = length-chunk c.args.at 16 c.args.column.now c.requires.column in
    let equal = c.from.ensures in
    let other = c.from-2.ensures in
    rw (equal, other) (ap (put_chunk c.args.at c.args.out.now) (map-id _ ∙ chosen32 eqb part (replicate 16 c.args.id) c.args.equal c.args.other 16 long refl ∙ zip2_splat (λ x y. cond (eqb x y) c.args.equal c.args.other) part 16 c.args.id long))
