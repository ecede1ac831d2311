use Rattle.std.proofs.Common.{arith, w32}
use lib.Dec.{eqb}
use lib.Lanes.{chunk}
use Rattle.std.proofs.lemmas.Simd.{bitmask_splat, length-chunk}
use Rattle.lanes_dm.proofs.Searches.{zero_marked}
use Rattle.lanes_dm.proofs.columns.some_zero.Goals as goal

pub returns : goal.returns
returns c =
    let column = c.args.column.now in
    let at = c.args.at in
    zero_marked column at 16 _ c.requires (bitmask_splat w32 eqb (chunk at 16 column) 16 0 (length-chunk at 16 column c.requires) (omega arith))
