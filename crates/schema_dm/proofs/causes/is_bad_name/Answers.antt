use Rattle.std.proofs.Common.{inl, inr, subst, sym}
use Rattle.schema_dm.specs.Naming.{BeginsBadly}
use Rattle.schema_dm.proofs.causes.is_bad_name.Goals as goal

pub returns : goal.returns
returns c = (
  (λ bad. inr (subst BeginsBadly c.as_str.ensures.chars (c.begins_badly.ensures.0 bad))),
  (λ bad. elim bad [
    | inl other ↦ absurd (other c.as_str.ensures.scalars)
    | inr begins ↦ c.begins_badly.ensures.1 (subst BeginsBadly (sym c.as_str.ensures.chars) begins)
  ]),
)
