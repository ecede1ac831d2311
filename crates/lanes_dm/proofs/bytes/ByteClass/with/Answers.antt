use Rattle.std.proofs.Common.{arith}
use Rattle.lanes_dm.proofs.Sets.{has_byte-with_bit}
use Rattle.lanes_dm.proofs.bytes.ByteClass.with.Goals as goal

pub returns : goal.returns
returns c x = rw (← c.self.view_is) (has_byte-with_bit c.self.inside.rows c.args.b x (omega arith) c.ranges.b.fits)
