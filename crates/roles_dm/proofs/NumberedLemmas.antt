-- The numbers of triples, place by place.
use Rattle.std.proofs.Common.{◌≡◌, ℕ, zero, suc, List, [], ◌∷◌, length, map, Some, refl, ap, subst, inr, arith}
use Rattle.std.specs.Prelude.{slice_get}
use Rattle.std.specs.List.{AllZip}
use Rattle.names_dm.specs.declared.term.Term.{Term}
use Rattle.names_dm.specs.declared.term.Term.TheVariants as term
use Rattle.names_dm.specs.Statements.{Statement}
use Rattle.store_dm.specs.Graphs.{GraphValue, Names}
use Rattle.store_dm.specs.Terms.{term_at}
use Rattle.store_dm.specs.declared.listing.Triad.{Triad}
use Rattle.roles_dm.specs.Numbered.{AreNumbers, AreNumbersOf, of_triad}
use Rattle.roles_dm.specs.Numbers.{IsNumberOf}
use Rattle.roles_dm.specs.declared.numbered.Numbered.{Numbered}

unsome : {A : Type 0} (a b : A) → Some a ≡ Some b → a ≡ b
unsome a b e = cc

module _ (g : GraphValue) where
  -- the numbers at the place of a triple
  pub numbered_at : (G : List Statement) (numbers : List Numbered) (i : ℕ) (x : Statement) (n : Numbered) → AreNumbers g G numbers → slice_get G i ≡ Some x → slice_get numbers i ≡ Some n → AreNumbersOf g x n
  numbered_at [] numbers i x n h e f = absurd (cc)
  numbered_at (y ∷ G) [] i x n h e f = absurd h
  numbered_at (y ∷ G) (m ∷ numbers) zero x n h e f = subst {A = Statement × Numbered} (λ z. AreNumbersOf g z.0 z.1) (λ k. (unsome y x e k, unsome m n f k)) h.0
  numbered_at (y ∷ G) (m ∷ numbers) (suc i) x n h e f = numbered_at G numbers i x n h.1 e f

  -- there are as many
  pub as_many : (G : List Statement) (numbers : List Numbered) → AreNumbers g G numbers → length G ≡ length numbers
  as_many [] [] h = refl
  as_many [] (m ∷ numbers) h = absurd h
  as_many (y ∷ G) [] h = absurd h
  as_many (y ∷ G) (m ∷ numbers) h = ap suc (as_many G numbers h.1)

  -- a number that is a term's is not 0
  number_of : (x : Term) (n : ℕ) → term_at g.terms n ≡ Some x → IsNumberOf g x n
  number_of x zero e = absurd (cc e)
  number_of x (suc k) e = inr (omega arith, e)

  -- triads with the numbers of the terms
  pub named_numbers : (triads : List Triad) (G : List Statement) → AllZip (Names g.terms) triads G → AreNumbers g G (map of_triad triads)
  named_numbers [] [] h = tt
  named_numbers [] (t ∷ G) h = absurd h
  named_numbers (x ∷ triads) [] h = absurd h
  named_numbers (x ∷ triads) (t ∷ G) h =
      (record { subject = number_of t.subject x.first h.0.0; predicate = number_of (term.Iri t.predicate) x.second h.0.1; object = number_of t.object x.third h.0.2 }, named_numbers triads G h.1)
