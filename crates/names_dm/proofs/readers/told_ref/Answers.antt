use Rattle.std.proofs.Common.{◌∙◌, sym, refl}
use Rattle.names_dm.specs.Reading.{told_ref}
use Rattle.names_dm.proofs.Marks.{ref_mark}
use Rattle.names_dm.proofs.readers.told_ref.Goals as goal

pub returns-in_default : goal.returns-in_default
unfolding told_ref
returns-in_default c = rw c.in_default.ensures refl

pub returns-in_default-2 : goal.returns-in_default-2
unfolding told_ref
returns-in_default-2 c = rw (c.in-Some.ensures, sym c.in_ok-table.ensures ∙ c.in_default-2.is) refl

pub returns-in_default-after : goal.returns-in_default-after
unfolding told_ref
returns-in_default-after c =
    rw (c.in-Some.ensures, sym c.in_ok-table.ensures ∙ c.in-Some-2.is, rw ref_mark at c.in_default-after.ensures) refl

pub returns-in_default-3 : goal.returns-in_default-3
unfolding told_ref
returns-in_default-3 c =
    rw (
      c.in-Some.ensures,
      sym c.in_ok-table.ensures ∙ c.in-Some-2.is,
      rw ref_mark at c.in-Some-after.ensures,
      sym c.in_ok-columns.ensures ∙ c.in_default-3.is,
    )
    refl

pub returns : goal.returns
unfolding told_ref
returns c =
    rw (
      c.in-Some.ensures,
      sym c.in_ok-table.ensures ∙ c.in-Some-2.is,
      rw ref_mark at c.in-Some-after.ensures,
      sym c.in_ok-columns.ensures ∙ c.in-Some-3.is,
    )
    refl
