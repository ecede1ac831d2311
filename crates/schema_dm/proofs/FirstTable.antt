-- The loop that looks for the first table with a cause.
use Rattle.std.proofs.Common.{◌≡◌, ◌∙◌, ℕ, zero, suc, ◌+◌, ◌<◌, ◌≤◌, List, [], ◌∷◌, length, get_or, Some, refl, sym, ap, subst, inl, inr, arith}
use Rattle.std.specs.Prelude.{slice_get}
use Rattle.std.proofs.lemmas.Bool.{cases_lt}
use Rattle.std.proofs.lemmas.Option.{slice_get_read}
use Rattle.schema_dm.specs.declared.draft.TableDraft.{TableDraft}
use Rattle.schema_dm.specs.declared.refusal.SchemaCause.{SchemaCause}
use Rattle.schema_dm.specs.Drafts.{Holds, NoneEarlier, IsSound, IsRefusedFor, at_table}

module _ (drafts : List TableDraft) (place : ℕ) (draft : TableDraft) (below : place < length drafts) (is : draft ≡ get_or drafts place draft)
    (before : (j : ℕ) (other : TableDraft) → j < place → slice_get drafts j ≡ Some other → IsSound drafts j other) where
  stands : slice_get drafts place ≡ Some draft
  stands = slice_get_read drafts (length drafts) place draft refl below is

  pub refused_here : (cause : SchemaCause) → 0 < length drafts → length drafts ≤ 4096 → Holds cause drafts place draft → NoneEarlier cause drafts place draft
      → IsRefusedFor drafts (record { cause = cause; table = place + 1 })
  refused_here cause some few holds first =
      at_table place draft some few refl (record { stands = stands; holds = holds; sound_before = before; none_earlier = first })

  pub sound_so_far : IsSound drafts place draft → (j : ℕ) (other : TableDraft) → j < place + 1 → slice_get drafts j ≡ Some other → IsSound drafts j other
  sound_so_far sound j other h e = elim (cases_lt j place) [
    | inl earlier ↦ before j other earlier e
    | inr not_earlier ↦
        (let here : j ≡ place = omega arith in
        let both : Some draft ≡ Some other = sym stands ∙ ap (slice_get drafts) (sym here) ∙ e in
        let one : draft ≡ other = cc in
        subst (λ k. IsSound drafts k other) (sym here) (subst (IsSound drafts place) one sound))
  ]

pub sound_throughout : (drafts : List TableDraft) (n : ℕ) → length drafts ≤ n → ((j : ℕ) (other : TableDraft) → j < n → slice_get drafts j ≡ Some other → IsSound drafts j other)
    → (j : ℕ) (other : TableDraft) → slice_get drafts j ≡ Some other → IsSound drafts j other
sound_throughout drafts n all sound j other e = sound j other (let h : j < length drafts = within drafts j e in omega arith) e
  where
    within : (xs : List TableDraft) (k : ℕ) → slice_get xs k ≡ Some other → k < length xs
    within [] k e = absurd (cc)
    within (x ∷ xs) zero e = omega arith
    within (x ∷ xs) (suc k) e = let r : k < length xs = within xs k e in omega arith
