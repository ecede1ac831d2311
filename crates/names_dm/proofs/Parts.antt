-- The parts of a text that is put together.
use Rattle.std.proofs.Common.{◌≡◌, ◌∙◌, ◌++◌, ◌∷◌, [], ℕ, List, Bool, true, false, eqb, refl, sym, ap, inl, inr, Option, Some, None}
use Rattle.std.proofs.lemmas.Bool.{cases_Bool, eq-eqb, eqb-true}
use Rattle.std.specs.Prelude.{if◌then◌else◌}
use Rattle.std.specs.List.{list_all, slice_split}
use Rattle.names_dm.specs.Reading.{after, before_more, cut_at}
use Rattle.names_dm.proofs.Ascii.{and_parts}
use Rattle.names_dm.proofs.SafeForms.{in_safe}

pub eqb-same : (c : ℕ) → eqb c c ≡ true
eqb-same c = eq-eqb c c refl

pair_of : (a b c d : List ℕ) → ◌≡◌ {A = Option (List ℕ × List ℕ)} (Some (a, b)) (Some (c, d)) → (a ≡ c) × (b ≡ d)
pair_of a b c d e =
    let r : ◌≡◌ {A = List ℕ × List ℕ} (a, b) (c, d) = cc in
    (ap (λ (p : List ℕ × List ℕ). p.0) r, ap (λ (p : List ℕ × List ℕ). p.1) r)

pub after-append : (front text : List ℕ) → after front (front ++ text) ≡ Some text
after-append [] text = refl
after-append (c ∷ front) text = rw (eqb-same c) (after-append front text)

pub append-after : (front text rest : List ℕ) → after front text ≡ Some rest → front ++ rest ≡ text
append-after [] text rest told = cc (sym told)
append-after (c ∷ front) [] rest told = cc told
append-after (c ∷ front) (d ∷ text) rest told = elim (cases_Bool (eqb c d)) [
  | inl same ↦ rw (eqb-true c d same) (ap (λ (t : List ℕ). d ∷ t) (append-after front text rest (rw same at told)))
  | inr other ↦ cc (rw other at told)
]

-- no character is this one
abbrev pub lacks : ℕ → List ℕ → Bool
lacks c [] = true
lacks c (d ∷ ds) = if eqb d c then false else lacks c ds

pub cut_at-append : (c : ℕ) (front text : List ℕ) → lacks c front ≡ true → ◌≡◌ {A = Option (List ℕ × List ℕ)} (cut_at c (front ++ c ∷ text)) (Some (front, text))
cut_at-append c [] text none = rw (eqb-same c) refl
cut_at-append c (d ∷ front) text none = elim (cases_Bool (eqb d c)) [
  | inl same ↦ cc (rw same at none)
  | inr other ↦ rw other (ap (before_more d) (cut_at-append c front text (rw other at none)))
]

more_told : (d : ℕ) (r : Option (List ℕ × List ℕ)) (front text : List ℕ) → ◌≡◌ {A = Option (List ℕ × List ℕ)} (before_more d r) (Some (front, text))
    → (shorter : List ℕ) × (◌≡◌ {A = Option (List ℕ × List ℕ)} r (Some (shorter, text))) × (front ≡ d ∷ shorter)
more_told d None front text told = cc told
more_told d (Some parts) front text told =
    let h = pair_of (d ∷ parts.0) parts.1 front text told in
    (parts.0, (λ i. Some (parts.0, h.1 i)), sym h.0)

pub append-cut_at : (c : ℕ) (whole front text : List ℕ) → ◌≡◌ {A = Option (List ℕ × List ℕ)} (cut_at c whole) (Some (front, text)) → front ++ c ∷ text ≡ whole
append-cut_at c [] front text told = cc told
append-cut_at c (d ∷ whole) front text told = elim (cases_Bool (eqb d c)) [
  | inl same ↦
      let h = pair_of [] whole front text (rw same at told) in
      rw (sym h.0, sym h.1, eqb-true d c same) refl
  | inr other ↦
      let m = more_told d (cut_at c whole) front text (rw other at told) in
      rw m.2 (ap (λ (t : List ℕ). d ∷ t) (append-cut_at c whole m.0 text m.1))
]

-- what stands in no safe form
pub safe_lacks : (c : ℕ) (text : List ℕ) → in_safe c ≡ false → list_all in_safe text ≡ true → lacks c text ≡ true
safe_lacks c [] none all = refl
safe_lacks c (d ∷ ds) none all =
    let h = and_parts (in_safe d) (list_all in_safe ds) all in
    elim (cases_Bool (eqb d c)) [
      | inl same ↦ cc (sym none ∙ ap in_safe (sym (eqb-true d c same)) ∙ h.0)
      | inr other ↦ rw other (safe_lacks c ds none h.1)
    ]

pub split-append : (c : ℕ) (front text : List ℕ) → lacks c front ≡ true → slice_split (λ d. eqb d c) (front ++ c ∷ text) ≡ front ∷ slice_split (λ d. eqb d c) text
split-append c [] text none = rw (eqb-same c) refl
split-append c (d ∷ front) text none = elim (cases_Bool (eqb d c)) [
  | inl same ↦ cc (rw same at none)
  | inr other ↦ rw (other, split-append c front text (rw other at none)) refl
]

pub split-lacks : (c : ℕ) (text : List ℕ) → lacks c text ≡ true → slice_split (λ d. eqb d c) text ≡ text ∷ []
split-lacks c [] none = refl
split-lacks c (d ∷ text) none = elim (cases_Bool (eqb d c)) [
  | inl same ↦ cc (rw same at none)
  | inr other ↦ rw (other, split-lacks c text (rw other at none)) refl
]

pub lacks-append : (c d : ℕ) (front text : List ℕ) → lacks c front ≡ true → eqb d c ≡ false → lacks c text ≡ true → lacks c (front ++ d ∷ text) ≡ true
lacks-append c d [] text none other rest = rw other rest
lacks-append c d (e ∷ front) text none other rest = elim (cases_Bool (eqb e c)) [
  | inl same ↦ cc (rw same at none)
  | inr differs ↦ rw differs (lacks-append c d front text (rw differs at none) other rest)
]
