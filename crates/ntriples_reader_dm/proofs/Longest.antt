-- The longest label, and the longest tag.
use Rattle.std.proofs.Common.{◌≡◌, ◌∙◌, ℕ, List, [], ◌∷◌, ◌++◌, Bool, true, Option, Some, None, refl, sym, ap, inl, inr, ◌⊎◌}
use Rattle.std.proofs.lemmas.List.{append-nil}
use Rattle.ntriples_reader_dm.specs.Part.{IsLongest, longest}
use Rattle.ntriples_reader_dm.proofs.Exact.{Exact, pair}

-- of two fronts of one text one goes on where the other ends
pub fronts : (a b c d : List ℕ) → a ++ b ≡ c ++ d → ((more : List ℕ) × (c ≡ a ++ more) × (b ≡ more ++ d)) ⊎ ((more : List ℕ) × (a ≡ c ++ more) × (d ≡ more ++ b))
fronts [] b c d e = inl (c, refl, e)
fronts (x ∷ a) b [] d e = inr (x ∷ a, refl, sym e)
fronts (x ∷ a) b (y ∷ c) d e =
    let heads : x ≡ y = cc in
    let tails : a ++ b ≡ c ++ d = cc in
    elim (fronts a b c d tails) [
      | inl h ↦ inl (h.0, ap (λ z. z ∷ c) (sym heads) ∙ ap (λ us. x ∷ us) h.1, h.2)
      | inr h ↦ inr (h.0, ap (λ z. z ∷ a) heads ∙ ap (λ us. y ∷ us) h.1, h.2)
    ]

nothing_more : (rule : List ℕ → Bool) (ts rest text r t more : List ℕ) → IsLongest rule ts rest text → rule t ≡ true → t ≡ text ++ more → rest ≡ more ++ r → (text ≡ t) × (rest ≡ r)
nothing_more rule ts rest text r t more p allowed e f =
    let n : more ≡ [] = p.longest more r f (ap rule (sym e) ∙ allowed) in
    (sym (e ∙ ap (λ us. text ++ us) n ∙ append-nil text), f ∙ ap (λ us. us ++ r) n)

-- there is one longest text
pub one_longest : (rule : List ℕ → Bool) (ts rest r text t : List ℕ) → IsLongest rule ts rest text → IsLongest rule ts r t → (text ≡ t) × (rest ≡ r)
one_longest rule ts rest r text t p q = elim (fronts text rest t r (sym p.stands ∙ q.stands)) [
  | inl h ↦ nothing_more rule ts rest text r t h.0 p q.allowed h.1 h.2
  | inr h ↦ let k = nothing_more rule ts r t rest text h.0 q p.allowed h.1 h.2 in (sym k.0, sym k.1)
]

found_here : (rule : List ℕ → Bool) (f : List ℕ → Option (List ℕ × List ℕ))
    → ((ts rest text : List ℕ) → f ts ≡ Some (text, rest) → IsLongest rule ts rest text)
    → ((ts rest text : List ℕ) → f ts ≡ None → ts ≡ text ++ rest → rule text ≡ true → ⊥)
    → (ts rest text : List ℕ) → IsLongest rule ts rest text → (r : Option (List ℕ × List ℕ)) → f ts ≡ r → f ts ≡ Some (text, rest)
found_here rule f finds none ts rest text p None e = absurd (none ts rest text e p.stands p.allowed)
found_here rule f finds none ts rest text p (Some x) e =
    let h = one_longest rule ts x.1 rest x.0 text (finds ts x.1 x.0 e) p in
    e ∙ ap (λ us. Some (pair us x.1)) h.0 ∙ ap (λ us. Some (pair text us)) h.1

-- what finds a longest text, and finds one where there is one, finds exactly it
pub longest_exact : (rule : List ℕ → Bool) (f : List ℕ → Option (List ℕ × List ℕ))
    → ((ts rest text : List ℕ) → f ts ≡ Some (text, rest) → IsLongest rule ts rest text)
    → ((ts rest text : List ℕ) → f ts ≡ None → ts ≡ text ++ rest → rule text ≡ true → ⊥)
    → Exact (longest rule) f
longest_exact rule f finds none = record {
  sound = finds;
  complete = λ ts rest text p. found_here rule f finds none ts rest text p (f ts) refl;
}
