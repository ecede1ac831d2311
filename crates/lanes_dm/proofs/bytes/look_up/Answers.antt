use Rattle.std.proofs.Common.{◌∙◌, ap, refl, arith, IsTrue, w8}
use lib.Dec.{T}
use Rattle.std.proofs.lemmas.Float.{T_from_true}
use Rattle.std.proofs.lemmas.Simd.{Each1-weaker, SwzOk-from_Each1, swz_l}
use Rattle.lanes_dm.specs.Tables.{is_place}
use Rattle.lanes_dm.proofs.Tables.{looked_up, twice}
use Rattle.lanes_dm.proofs.bytes.look_up.Goals as goal

pub swizzle : goal.swizzle
swizzle c = SwzOk-from_Each1 w8 16 2 32 0 c.args.places refl (omega arith) (Each1-weaker (λ j. IsTrue (is_place j)) (λ j. T (is_place j)) (λ j e. T_from_true (is_place j) e) c.args.places c.requires)

pub returns : goal.returns
returns c = ap (λ ts. swz_l w8 16 ts 0 c.args.places) (twice c.args.table c.fits-table.0) ∙ looked_up c.args.table 0 c.args.places c.fits-table.0 (omega arith) c.requires
