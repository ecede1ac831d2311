use Rattle.std.proofs.Common.{◌∙◌, ◌≡◌, sym, subst, ap, map, replicate, bit_and, IsTrue}
use lib.Lanes.{Each1, zip2}
use Rattle.std.proofs.lemmas.Simd.{zip2_splat}
use Rattle.lanes_dm.specs.Tables.{byte_at, is_place}
use Rattle.lanes_dm.proofs.Tables.{are_bit_places, bit_place, bit_table, bits_there}
use Rattle.lanes_dm.proofs.bytes.bits_of.Goals as goal

pub look_up-requires : goal.look_up-requires
look_up-requires c = subst (Each1 (λ j. IsTrue (is_place j))) (sym (zip2_splat bit_and c.args.v 32 7 c.fits-v.0)) (are_bit_places c.args.v c.fits-v.1)

pub returns : goal.returns
returns c =
    let places : zip2 bit_and c.args.v (replicate 32 7) ≡ map bit_place c.args.v = zip2_splat bit_and c.args.v 32 7 c.fits-v.0 in
    c.look_up.ensures ∙ ap (map (byte_at bit_table)) places ∙ bits_there c.args.v c.fits-v.1
