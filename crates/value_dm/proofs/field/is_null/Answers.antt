use Rattle.std.proofs.Common.{refl, inl, inr}
use Rattle.value_dm.proofs.Texts.{null_chars, not_null_chars, empty_chars, not_empty_chars}
use Rattle.value_dm.proofs.field.is_null.Goals as goal

pub returns-then-eq : goal.returns-then-eq
returns-then-eq c = (λ _. inl (null_chars c.args.text.now c.if-eq.ensures), λ _. refl)

pub returns-then-ne : goal.returns-then-ne
returns-then-ne c = (
  λ h. cc h,
  λ n. elim n [
    | inl e ↦ absurd (not_null_chars c.args.text.now c.utf8.text c.if-eq.ensures e)
    | inr p ↦ absurd (not_empty_chars c.args.text.now c.utf8.text c.if-ne.ensures p.0)
  ],
)

pub returns : goal.returns
returns c = (
  λ h. inr (empty_chars c.args.text.now c.if-ne.ensures, c.empty_is_null.ensures.0 h),
  λ n. elim n [
    | inl e ↦ absurd (not_null_chars c.args.text.now c.utf8.text c.if-eq.ensures e)
    | inr p ↦ c.empty_is_null.ensures.1 p.1
  ],
)
