-- Kinds that aren't different are the same.
use Rattle.std.proofs.Common.{◌≡◌, ◌∙◌, ℕ, [], ◌∷◌, get_or, Option, Some, None, refl, sym, ap, inl, inr}
use Rattle.std.proofs.lemmas.Bool.{cases_eq}
use Rattle.value_dm.specs.declared.kind.Kind.{Kind}
use Rattle.value_dm.specs.declared.kind.Kind.TheVariants.{Text, Integer, Decimal, Boolean, Date, Time, DateTime, Binary}
use Rattle.schema_dm.specs.Drafts.{KindsDiffer}

abbrev number_of : Kind → ℕ
number_of Text = 0
number_of Integer = 1
number_of Decimal = 2
number_of Boolean = 3
number_of Date = 4
number_of Time = 5
number_of DateTime = 6
number_of Binary = 7

abbrev numbered : ℕ → Kind
numbered n = get_or (Text ∷ Integer ∷ Decimal ∷ Boolean ∷ Date ∷ Time ∷ DateTime ∷ Binary ∷ []) n Text

numbered-number_of : (kind : Kind) → numbered (number_of kind) ≡ kind
numbered-number_of Text = refl
numbered-number_of Integer = refl
numbered-number_of Decimal = refl
numbered-number_of Boolean = refl
numbered-number_of Date = refl
numbered-number_of Time = refl
numbered-number_of DateTime = refl
numbered-number_of Binary = refl

kind_stable : (kind other : Kind) → ¬ (¬ (kind ≡ other)) → kind ≡ other
kind_stable kind other h = elim (cases_eq (number_of kind) (number_of other)) [
  | inl same ↦ sym (numbered-number_of kind) ∙ ap numbered same ∙ numbered-number_of other
  | inr differ ↦ absurd (h (λ e. differ (ap number_of e)))
]

pub same_kinds : (first second : Option Kind) (kind other : Kind) → first ≡ Some kind → second ≡ Some other → ¬ KindsDiffer first second → first ≡ second
same_kinds None second kind other a b h = absurd (cc)
same_kinds (Some x) None kind other a b h = absurd (cc)
same_kinds (Some x) (Some y) kind other a b h = ap (λ z. Some z) (kind_stable x y h)
