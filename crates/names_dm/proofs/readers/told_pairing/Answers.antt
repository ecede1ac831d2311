use Rattle.std.proofs.Common.{refl}
use Rattle.names_dm.specs.Reading.{pairing_of}
use Rattle.names_dm.proofs.readers.told_pairing.Goals as goal

pub returns-in_default : goal.returns-in_default
unfolding pairing_of
returns-in_default c = rw c.in_default.ensures.parts refl

pub returns : goal.returns
unfolding pairing_of
returns c = rw c.in-Some.ensures.parts c.both_texts.ensures
