use Rattle.std.proofs.Common.{◌∙◌, sym, refl}
use Rattle.names_dm.specs.Reading.{pairings_of, told_rel}
use Rattle.names_dm.proofs.Marks.{rel_mark}
use Rattle.names_dm.proofs.readers.told_rel.Goals as goal

pub returns-in_default : goal.returns-in_default
unfolding told_rel
returns-in_default c = rw c.in_default.ensures refl

pub returns-in_default-2 : goal.returns-in_default-2
unfolding told_rel
returns-in_default-2 c = rw (c.in-Some.ensures, sym c.in_ok-table.ensures ∙ c.in_default-2.is) refl

pub returns-in_default-after : goal.returns-in_default-after
unfolding told_rel
returns-in_default-after c =
    rw (c.in-Some.ensures, sym c.in_ok-table.ensures ∙ c.in-Some-2.is, rw rel_mark at c.in_default-after.ensures) refl

pub returns-in_default-cut : goal.returns-in_default-cut
unfolding told_rel pairings_of
returns-in_default-cut c =
    rw (c.in-Some.ensures, sym c.in_ok-table.ensures ∙ c.in-Some-2.is, rw rel_mark at c.in-Some-after.ensures, c.in_default-cut.ensures.parts) refl

pub returns-in_default-3 : goal.returns-in_default-3
unfolding told_rel pairings_of
returns-in_default-3 c =
    rw (
      c.in-Some.ensures,
      sym c.in_ok-table.ensures ∙ c.in-Some-2.is,
      rw rel_mark at c.in-Some-after.ensures,
      c.in-Some-cut.ensures.parts,
      sym c.in_ok-left.ensures ∙ c.in_default-3.is,
    )
    refl

pub returns-in_default-4 : goal.returns-in_default-4
unfolding told_rel pairings_of
returns-in_default-4 c =
    rw (
      c.in-Some.ensures,
      sym c.in_ok-table.ensures ∙ c.in-Some-2.is,
      rw rel_mark at c.in-Some-after.ensures,
      c.in-Some-cut.ensures.parts,
      sym c.in_ok-left.ensures ∙ c.in-Some-3.is,
      sym c.in_ok-right.ensures ∙ c.in_default-4.is,
    )
    refl

pub returns : goal.returns
unfolding told_rel pairings_of
returns c =
    rw (
      c.in-Some.ensures,
      sym c.in_ok-table.ensures ∙ c.in-Some-2.is,
      rw rel_mark at c.in-Some-after.ensures,
      c.in-Some-cut.ensures.parts,
      sym c.in_ok-left.ensures ∙ c.in-Some-3.is,
      sym c.in_ok-right.ensures ∙ c.in-Some-4.is,
    )
    refl
