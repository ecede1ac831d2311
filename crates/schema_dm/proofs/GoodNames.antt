-- A name that isn't bad is a text.
use Rattle.std.proofs.Common.{inl, inr}
use Rattle.std.specs.Str.{all_scalars}
use Rattle.std.proofs.lemmas.Bool.{cases_Bool, both_ways}
use Rattle.value_dm.specs.Texts.{IsText}
use Rattle.schema_dm.specs.Naming.{Name, IsBadName}

pub text_of_good : (name : Name) → ¬ IsBadName name → IsText name
text_of_good name good = elim (cases_Bool (all_scalars name)) [
  | inl all ↦ all
  | inr other ↦ absurd (good (inl (λ all. both_ways (all_scalars name) other all)))
]
