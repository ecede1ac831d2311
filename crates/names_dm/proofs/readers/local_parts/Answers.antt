use Rattle.std.proofs.Common.{refl}
use Rattle.names_dm.specs.Reading.{local_parts}
use Rattle.names_dm.proofs.readers.local_parts.Goals as goal

pub returns-in_default : goal.returns-in_default
unfolding local_parts
returns-in_default c = rw (rw (c.as_str-2.ensures.chars, c.as_str.ensures.chars) at c.in_default.ensures) refl

pub returns : goal.returns
unfolding local_parts
returns c = rw (rw (c.as_str-2.ensures.chars, c.as_str.ensures.chars) at c.in-Some.ensures) c.cut.ensures.parts
