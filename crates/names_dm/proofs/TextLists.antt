-- Lists of texts that are read part by part.
use Rattle.std.proofs.Common.{◌≡◌, ◌∙◌, ◌++◌, ◌∷◌, [], ℕ, List, eqb, refl, sym, ap, append_assoc, inl, inr, Option, Some, None}
use Rattle.std.proofs.lemmas.Bool.{cases_Bool}
use Rattle.std.specs.List.{onto_first, slice_split}
use Rattle.std.specs.Prelude.{option_and_then}
use Rattle.names_dm.specs.Names.{semicolon}
use Rattle.names_dm.specs.Reading.{before_more, cut_at, list_of, texts_of, unsafe_form}

-- the texts so far, and more if there are any
abbrev pub with_more : List (List ℕ) → Option (List (List ℕ)) → Option (List (List ℕ))
with_more texts None = None
with_more texts (Some more) = Some (texts ++ more)

-- the parts, by the first cut
parts_by_cut : List ℕ → ℕ → Option (List ℕ × List ℕ) → List (List ℕ)
parts_by_cut text c None = text ∷ []
parts_by_cut text c (Some parts) = parts.0 ∷ slice_split (λ d. eqb d c) parts.1

longer : (c d : ℕ) (text : List ℕ) (r : Option (List ℕ × List ℕ)) → onto_first d (parts_by_cut text c r) ≡ parts_by_cut (d ∷ text) c (before_more d r)
unfolding parts_by_cut
longer c d text None = refl
longer c d text (Some parts) = refl

split-cut_at : (c : ℕ) (text : List ℕ) → slice_split (λ d. eqb d c) text ≡ parts_by_cut text c (cut_at c text)
unfolding parts_by_cut
split-cut_at c [] = refl
split-cut_at c (d ∷ text) = elim (cases_Bool (eqb d c)) [
  | inl mark ↦ rw mark refl
  | inr other ↦ rw other (ap (onto_first d) (split-cut_at c text) ∙ longer c d text (cut_at c text))
]

-- one more text before the rest
pub list_of-cut : (text front back one : List ℕ) → ◌≡◌ {A = Option (List ℕ × List ℕ)} (cut_at semicolon text) (Some (front, back)) → unsafe_form front ≡ Some one
    → list_of text ≡ with_more (one ∷ []) (list_of back)
unfolding list_of parts_by_cut
list_of-cut text front back one cut told =
    ap texts_of (split-cut_at semicolon text ∙ ap (parts_by_cut text semicolon) cut) ∙ rw told (add (texts_of (slice_split (λ d. eqb d semicolon) back))) where
      add : (r : Option (List (List ℕ))) → option_and_then (λ more. Some (one ∷ more)) r ≡ with_more (one ∷ []) r
      add None = refl
      add (Some more) = refl

pub list_of-bad : (text front back : List ℕ) → ◌≡◌ {A = Option (List ℕ × List ℕ)} (cut_at semicolon text) (Some (front, back)) → unsafe_form front ≡ None → list_of text ≡ None
unfolding list_of parts_by_cut
list_of-bad text front back cut told = ap texts_of (split-cut_at semicolon text ∙ ap (parts_by_cut text semicolon) cut) ∙ rw told refl

pub list_of-last : (text : List ℕ) → ◌≡◌ {A = Option (List ℕ × List ℕ)} (cut_at semicolon text) None → list_of text ≡ option_and_then (λ one. Some (one ∷ [])) (unsafe_form text)
unfolding list_of parts_by_cut
list_of-last text cut = ap texts_of (split-cut_at semicolon text ∙ ap (parts_by_cut text semicolon) cut)

pub with_more-step : (texts : List (List ℕ)) (one : List ℕ) (r : Option (List (List ℕ))) → with_more texts (with_more (one ∷ []) r) ≡ with_more (texts ++ one ∷ []) r
with_more-step texts one None = refl
with_more-step texts one (Some more) = ap Some (sym (append_assoc texts (one ∷ []) more))

pub with_more-none : (r : Option (List (List ℕ))) → r ≡ with_more [] r
with_more-none None = refl
with_more-none (Some more) = refl
