use Rattle.std.proofs.Common.{◌∙◌, ◌==◌, ◌/◌, ◌%◌, get_or, sym, ap}
use Rattle.std.proofs.lemmas.Nat.Bits.{shr_and_one}
use Rattle.lanes_dm.proofs.Sets.{has_byte-tests_of}
use Rattle.lanes_dm.proofs.bytes.ByteClass.has.Goals as goal

pub returns : goal.returns
returns c =
    let row = get_or c.self.inside.rows (c.args.b / 8) 0 in
    rw (← c.self.view_is) (ap (λ n. n == 1) (shr_and_one row (c.args.b % 8)) ∙ sym (has_byte-tests_of c.self.inside.rows c.args.b c.ranges.b.fits))
