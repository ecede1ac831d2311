use Rattle.std.proofs.Common.{ap}
use lib.Lanes.{chunk, put_chunk}
use Rattle.std.proofs.lemmas.Simd.{length-chunk}
use Rattle.lanes_dm.proofs.Masks.{both_flags, least_is}
use Rattle.lanes_dm.proofs.columns.put_both.Goals as goal

pub returns : goal.returns
returns c =
    let at = c.args.at in
    let first = chunk at 32 c.args.a.now in
    let second = chunk at 32 c.args.b.now in
    rw (least_is first second) (ap (put_chunk at c.args.a.now) (both_flags first second (length-chunk at 32 c.args.a.now c.requires.a) (length-chunk at 32 c.args.b.now c.requires.b)))
