use Rattle.std.proofs.Common.{◌∙◌, replicate, ap, arith, Fits, w8}
use lib.Dec.{eqb}
use lib.Lanes.{chunk, put_chunk}
use Rattle.std.proofs.lemmas.List.{map-id}
use Rattle.std.proofs.lemmas.Simd.{Each1-replicate, length-chunk}
use Rattle.lanes_dm.proofs.Masks.{chosen32, each_sel}
use Rattle.lanes_dm.proofs.columns.put_same.Goals as goal

pub overflow_cast-out : goal.overflow_cast-out
overflow_cast-out c = each_sel (Fits w8) _ (replicate 16 1) (replicate 16 0) (Each1-replicate (Fits w8) 16 1 (record { fits = omega arith })) (Each1-replicate (Fits w8) 16 0 (record { fits = omega arith }))

pub returns : goal.returns
returns c =
    let first = length-chunk c.args.at 16 c.args.a.now c.requires.a in
    let second = length-chunk c.args.at 16 c.args.b.now c.requires.b in
    ap (put_chunk c.args.at c.args.out.now) (map-id _ ∙ chosen32 eqb (chunk c.args.at 16 c.args.a.now) (chunk c.args.at 16 c.args.b.now) 1 0 16 first second)
