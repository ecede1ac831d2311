use Rattle.std.proofs.Common.{w8}
use lib.Lanes.{chunk}
use Rattle.std.proofs.lemmas.Simd.{chunk-fits, length-chunk}
use Rattle.lanes_dm.proofs.Sets.{marks_are}
use Rattle.lanes_dm.proofs.bytes.ByteClass.marks.Goals as goal

pub returns : goal.returns
returns c =
    let v = chunk c.args.at 32 c.args.bytes.now in
    let rows = c.rows_of.ensures in
    let bits = c.bits_of.ensures in
    rw (← c.self.view_is, rows, bits) (marks_are c.self.inside.rows v (length-chunk c.args.at 32 c.args.bytes.now c.requires) (chunk-fits w8 c.args.at 32 c.args.bytes.now c.type_inv.bytes))
