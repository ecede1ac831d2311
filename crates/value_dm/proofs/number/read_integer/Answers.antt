use Rattle.std.proofs.Common.{sym}
use Rattle.std.specs.Prelude.{FitsSigned}
use Rattle.std.specs.Int.{w64}
use Rattle.std.proofs.lemmas.Int.{to_z-of_z}
use Rattle.value_dm.proofs.IntegerTexts.{integer_of, integer_is}
use Rattle.value_dm.proofs.number.read_integer.Goals as goal

pub returns-in-Ok : goal.returns-in-Ok
returns-in-Ok c =
    let h = c.in-Ok.ensures.value.0 in
    let fits : FitsSigned w64 c.in-Ok.number = rw h.1 h.0.1 in
    rw (to_z-of_z w64 c.in-Ok.number fits) (integer_of c.args.text.now c.in-Ok.number h.0.0 fits (sym h.1))

pub returns-in-Err : goal.returns-in-Err
returns-in-Err c =
    let h = c.in-Err.ensures.value.0 in
    λ z spelled. let is = integer_is c.args.text.now z spelled in h (is.0, rw is.1 spelled.fits)
