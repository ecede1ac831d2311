use Rattle.std.proofs.Common.{◌∙◌, ap, arith, w8}
use lib.Count.{ones}
use lib.Dec.{eqb}
use lib.Lanes.{chunk}
use Rattle.std.proofs.lemmas.Simd.{bitmask_splat, length-chunk, ones-mask_l}
use Rattle.lanes_dm.proofs.bytes.hits.Goals as goal

pub returns : goal.returns
returns c =
    let part = chunk c.args.at 32 c.args.bytes.now in
    let mask = bitmask_splat w8 eqb part 32 c.args.b (length-chunk c.args.at 32 c.args.bytes.now c.requires) (omega arith) in
    ap ones mask ∙ ones-mask_l (λ x. eqb x c.args.b) part
