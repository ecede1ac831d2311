-- Triples as triads that begin with one or another of their numbers.
use Rattle.std.proofs.Common.{◌≡◌, ◌≢◌, ℕ, suc, List, [], ◌∷◌, refl, sym, ◌∙◌, subst, arith, AllPairs, Contains, ◌↔◌, map}
use Rattle.std.proofs.lemmas.List.Elements.{All-map}
use Rattle.std.proofs.lemmas.List.Kept.{AllPairs-cons}
use Rattle.solutions_dm.proofs.ListLemmas.{Contains-map, Contains-from_map}
use Rattle.store_dm.specs.declared.listing.Triad.{Triad}
use Rattle.store_dm.specs.declared.matches.Beginning.{Beginning}
use Rattle.store_dm.specs.declared.matches.Beginning.TheVariants.{Subject, Predicate, Object}
use Rattle.store_dm.specs.Triads.{FitsAll}
use Rattle.store_dm.specs.Turns.{numbers, turn, turned}

pub AllPairs-map : {X Y : Type 0} (f : X → Y) → ((a b : X) → f a ≡ f b → a ≡ b) → (xs : List X) → AllPairs (λ a b. a ≢ b) xs → AllPairs (λ a b. a ≢ b) (map f xs)
AllPairs-map f one [] h = λ i j d l m. absurd (omega arith)
AllPairs-map f one (x ∷ xs) h = AllPairs-cons (λ a b. a ≢ b) (f x) (map f xs)
    (All-map (λ b. f x ≢ b) f xs (λ k d l e. h 0 (suc k) d (omega arith) (omega arith) (one x _ e)))
    (AllPairs-map f one xs (λ i j d l m. h (suc i) (suc j) d (omega arith) (omega arith)))

numbers_of_turned : (b : Beginning) (s p o : ℕ) → numbers b (turned b s p o) ≡ (s, p, o)
numbers_of_turned Subject s p o = refl
numbers_of_turned Predicate s p o = refl
numbers_of_turned Object s p o = refl

turned_from_numbers : (b : Beginning) (x : Triad) (s p o : ℕ) → numbers b x ≡ (s, p, o) → x ≡ turned b s p o
turned_from_numbers Subject x s p o e = λ i. record { first = (e i).0; second = (e i).1; third = (e i).2 }
turned_from_numbers Predicate x s p o e = λ i. record { first = (e i).1; second = (e i).2; third = (e i).0 }
turned_from_numbers Object x s p o e = λ i. record { first = (e i).2; second = (e i).0; third = (e i).1 }

pub numbers_apart : (b : Beginning) (x y : Triad) → numbers b x ≡ numbers b y → x ≡ y
numbers_apart b x y e =
    turned_from_numbers b x (numbers b y).0 (numbers b y).1 (numbers b y).2 e ∙ sym (turned_from_numbers b y (numbers b y).0 (numbers b y).1 (numbers b y).2 refl)

fits_turned : (b : Beginning) (s p o x y z : ℕ) → FitsAll (turned b s p o) (turned b x y z) ↔ FitsAll (turned Subject s p o) (turned Subject x y z)
fits_turned Subject s p o x y z = ((λ h. h), (λ h. h))
fits_turned Predicate s p o x y z = ((λ h. (h.2, h.0, h.1)), (λ h. (h.1, h.2, h.0)))
fits_turned Object s p o x y z = ((λ h. (h.1, h.2, h.0)), (λ h. (h.2, h.0, h.1)))

pub matches_exact : (b : Beginning) (s p o : ℕ) (by_subject listed found : List Triad) →
    ((x y z : ℕ) → Contains listed (turned b x y z) ↔ Contains by_subject (turned Subject x y z)) →
    ((t : Triad) → Contains found t ↔ (Contains listed t × FitsAll (turned b s p o) t)) →
    (x y z : ℕ) → Contains (map (numbers b) found) (x, y, z) ↔ (Contains by_subject (turned Subject x y z) × FitsAll (turned Subject s p o) (turned Subject x y z))
matches_exact b s p o by_subject listed found same exact x y z = (
  (λ h. let m = Contains-from_map (numbers b) (x, y, z) found h in
      let k = (exact (turned b x y z)).0 (subst (Contains found) (turned_from_numbers b m.0 x y z m.2) m.1) in
      ((same x y z).0 k.0, (fits_turned b s p o x y z).0 k.1)),
  (λ h. subst (Contains (map (numbers b) found)) (numbers_of_turned b x y z)
      (Contains-map (numbers b) (turned b x y z) found ((exact (turned b x y z)).1 ((same x y z).1 h.0, (fits_turned b s p o x y z).1 h.1)))),
)

-- ---- the lists of turned triples

turned_apart : (b : Beginning) (x : Triad) (s p o : ℕ) → turn b x ≡ turned b s p o → x ≡ turned Subject s p o
turned_apart Subject x s p o e = e
turned_apart Predicate x s p o e = λ i. record { first = (e i).third; second = (e i).first; third = (e i).second }
turned_apart Object x s p o e = λ i. record { first = (e i).second; second = (e i).third; third = (e i).first }

pub turned_same : (b : Beginning) (triads made by_subject listed : List Triad) → made ≡ map (turn b) triads → ((x : Triad) → Contains listed x ↔ Contains made x) → ((x : Triad) → Contains by_subject x ↔ Contains triads x) →
    (s p o : ℕ) → Contains listed (turned b s p o) ↔ Contains by_subject (turned Subject s p o)
turned_same b triads made by_subject listed e h k s p o = (
  (λ m. let r = Contains-from_map (turn b) (turned b s p o) triads (subst (λ (xs : List Triad). Contains xs (turned b s p o)) e ((h (turned b s p o)).0 m)) in
      (k (turned Subject s p o)).1 (subst (Contains triads) (turned_apart b r.0 s p o r.2) r.1)),
  (λ m. (h (turned b s p o)).1 (subst (λ (xs : List Triad). Contains xs (turned b s p o)) (sym e)
      (Contains-map (turn b) (turned Subject s p o) triads ((k (turned Subject s p o)).0 m)))),
)
