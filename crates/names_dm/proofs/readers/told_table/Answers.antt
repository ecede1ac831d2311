use Rattle.std.proofs.Common.{refl}
use Rattle.names_dm.specs.Reading.{told_table}
use Rattle.names_dm.proofs.readers.told_table.Goals as goal

pub returns-in_default : goal.returns-in_default
unfolding told_table
returns-in_default c = rw (rw (c.as_str-2.ensures.chars, c.as_str.ensures.chars) at c.in_default.ensures) refl

pub returns : goal.returns
unfolding told_table
returns c = rw (rw (c.as_str-2.ensures.chars, c.as_str.ensures.chars) at c.in-Some.ensures) c.told_text.ensures
