use Rattle.std.proofs.Common.{◌∙◌, sym, refl}
use Rattle.names_dm.specs.Reading.{told_column}
use Rattle.names_dm.proofs.readers.told_column.Goals as goal

pub returns-in_default : goal.returns-in_default
unfolding told_column
returns-in_default c = rw c.in_default.ensures refl

pub returns-in_default-2 : goal.returns-in_default-2
unfolding told_column
returns-in_default-2 c = rw (c.in-Some.ensures, sym c.in_ok-table.ensures ∙ c.in_default-2.is) refl

pub returns : goal.returns
unfolding told_column
returns c = rw (c.in-Some.ensures, sym c.in_ok-table.ensures ∙ c.in-Some-2.is) refl
