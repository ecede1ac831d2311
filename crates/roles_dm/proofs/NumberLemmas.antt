-- Look-ups in a graph of numbers, and what they say of its triples.
use Rattle.std.proofs.Common.{◌≡◌, ◌≢◌, ◌<◌, ◌↔◌, ℕ, zero, suc, List, [], ◌∷◌, length, Option, None, Some, true, false, refl, sym, ap, ◌∙◌, subst, inl, inr, arith, Contains, AllPairs, MatchOption, IsTrue, get_or}
use Rattle.std.specs.Option.{is_some}
use Rattle.std.proofs.lemmas.Option.{slice_get_within}
use Rattle.members_dm.specs.Membership.{IsIn}
use Rattle.names_dm.specs.declared.term.Term.{Term}
use Rattle.names_dm.specs.declared.term.Term.TheVariants.{Iri}
use Rattle.names_dm.specs.Statements.{Statement}
use Rattle.store_dm.specs.declared.listing.Triad.{Triad}
use Rattle.store_dm.specs.Graphs.{GraphValue, HoldsTerm, IsLawful}
use Rattle.store_dm.specs.Terms.{AreOneToOne, term_at}
use Rattle.store_dm.specs.Triads.{Fits, FitsAll}
use Rattle.value_dm.specs.declared.kind.Kind.{Kind}
use Rattle.value_dm.specs.declared.kind.Kind.TheVariants as kind
use Rattle.facts_dm.specs.Facts.{word_term}
use Rattle.facts_dm.specs.declared.word.Word.TheVariants.{Datatype}
use Rattle.roles_dm.specs.declared.words.Datatypes.{Datatypes}
use Rattle.roles_dm.specs.Numbers.{datatype_number, AreDatatypes, HasNumbers, IsGraphOf, IsNumberOf, IsOnlyObject}

-- ---- lists

pub in_from_contains : {X : Type 0} (x : X) (xs : List X) → Contains xs x → IsIn x xs
in_from_contains x [] h = absurd (let below = h.1 in omega (arith, below))
in_from_contains x (y ∷ ys) h = go (in_from_contains x ys) h.0 h.1 h.2
  where
    go : (Contains ys x → IsIn x ys) → (k : ℕ) → k < length (y ∷ ys) → get_or (y ∷ ys) k x ≡ x → IsIn x (y ∷ ys)
    go rest zero l e = inl e
    go rest (suc k) l e = inr (rest (k, omega (arith, l), e))

pub contains_from_in : {X : Type 0} (x : X) (xs : List X) → IsIn x xs → Contains xs x
contains_from_in x [] h = absurd h
contains_from_in x (y ∷ ys) (inl e) = (0, omega arith, e)
contains_from_in x (y ∷ ys) (inr h) = let r = contains_from_in x ys h in (suc r.0, (let l = r.1 in omega (arith, l)), r.2)

-- ---- numbers of terms

pub one_number : (ts : List Term) (x : Term) (m n : ℕ) → AreOneToOne ts → term_at ts m ≡ Some x → term_at ts n ≡ Some x → m ≡ n
one_number ts x zero n apart a b = absurd (let e : None ≡ Some x = a in cc)
one_number ts x (suc m) zero apart a b = absurd (let e : None ≡ Some x = b in cc)
one_number ts x (suc m) (suc n) apart a b = ap suc (apart m n (slice_get_within ts m x a) (a ∙ sym b))

pub not_zero : (ts : List Term) (x : Term) (n : ℕ) → term_at ts n ≡ Some x → n ≢ 0
not_zero ts x zero a e = let f : None ≡ Some x = a in cc
not_zero ts x (suc n) a e = cc

module _ (g : GraphValue) (G : List Statement) (is : IsGraphOf g G) where
  -- the number of a term that a triple holds
  pub number_held : (x : Term) (n m : ℕ) → IsNumberOf g x n → HoldsTerm g x → term_at g.terms m ≡ Some x → m ≡ n
  number_held x n m (inl h) holds at = absurd (h.1 holds)
  number_held x n m (inr h) holds at = one_number g.terms x m n is.lawful.apart at h.1

  pub number_at : (x : Term) (n : ℕ) → IsNumberOf g x n → n ≢ 0 → term_at g.terms n ≡ Some x
  number_at x n (inl h) apart = absurd (apart h.0)
  number_at x n (inr h) apart = h.1

  -- a triple is there where its numbers are
  pub says : (t : Statement) (s p o : ℕ) → IsNumberOf g t.subject s → IsNumberOf g (Iri t.predicate) p → IsNumberOf g t.object o → HasNumbers g s p o ↔ IsIn t G
  says t s p o a b c = (
    (λ h. (is.same t).0 (record { first = s; second = p; third = o }, h.3, (number_at t.subject s a h.0, number_at (Iri t.predicate) p b h.1, number_at t.object o c h.2))),
    (λ h.
        let k = (is.same t).1 h in
        let first = number_held t.subject s k.0.first a (k.0, k.1, inl k.2.0) k.2.0 in
        let second = number_held (Iri t.predicate) p k.0.second b (k.0, k.1, inr (inl k.2.1)) k.2.1 in
        let third = number_held t.object o k.0.third c (k.0, k.1, inr (inr k.2.2)) k.2.2 in (
          (λ e. not_zero g.terms t.subject k.0.first k.2.0 (first ∙ e)),
          (λ e. not_zero g.terms (Iri t.predicate) k.0.second k.2.1 (second ∙ e)),
          (λ e. not_zero g.terms t.object k.0.third k.2.2 (third ∙ e)),
          subst (Contains g.triples) (λ i. record { first = first i; second = second i; third = third i }) k.1,
        )),
  )

-- ---- the matches of a look-up

abbrev pub AreMatches : GraphValue → ℕ → ℕ → ℕ → List (ℕ × ℕ × ℕ) → Type 0
AreMatches g s p o found =
    (a b c : ℕ) → Contains found (a, b, c) ↔ (Contains g.triples (record { first = a; second = b; third = c }) × FitsAll (record { first = s; second = p; third = o }) (record { first = a; second = b; third = c }))

-- what a step of an iterator over them gives
abbrev pub Steps : List (ℕ × ℕ × ℕ) → Option (ℕ × ℕ × ℕ) → List (ℕ × ℕ × ℕ) → Type 0
Steps found r rest = MatchOption r ((found ≡ []) × (rest ≡ [])) (λ x. found ≡ x ∷ rest)

fits_is : (a x : ℕ) → a ≢ 0 → Fits a x → a ≡ x
fits_is a x apart (inl e) = absurd (apart e)
fits_is a x apart (inr e) = e

head_there : (found rest : List (ℕ × ℕ × ℕ)) (x : ℕ × ℕ × ℕ) → found ≡ x ∷ rest → Contains found x
head_there found rest x e = subst (λ xs. Contains xs x) (sym e) (0, omega arith, refl)

none_there : (found : List (ℕ × ℕ × ℕ)) (x : ℕ × ℕ × ℕ) → found ≡ [] → ¬ Contains found x
none_there found x e h = let k = subst (λ xs. Contains xs x) e h in let below = k.1 in omega (arith, below)

pub has_found : (g : GraphValue) (s p o : ℕ) (found rest : List (ℕ × ℕ × ℕ)) (r : Option (ℕ × ℕ × ℕ)) → s ≢ 0 → p ≢ 0 → o ≢ 0 → AreMatches g s p o found → Steps found r rest → IsTrue (is_some r) ↔ HasNumbers g s p o
has_found g s p o found rest None ns np nz exact steps = (
  (λ h. absurd (let e : false ≡ true = h in cc)),
  (λ h. absurd (none_there found (s, p, o) steps.0 ((exact s p o).1 (h.3, (inr refl, inr refl, inr refl))))),
)
has_found g s p o found rest (Some x) ns np nz exact steps = (
  (λ h.
      let k = (exact x.0 x.1 x.2).0 (head_there found rest x steps) in
      let first = fits_is s x.0 ns k.1.0 in
      let second = fits_is p x.1 np k.1.1 in
      let third = fits_is o x.2 nz k.1.2 in
      (ns, np, nz, subst (Contains g.triples) (λ i. record { first = sym first i; second = sym second i; third = sym third i }) k.0)),
  (λ h. refl),
)

-- ---- the only object

module _ (g : GraphValue) (lawful : IsLawful g) (s p : ℕ) (ns : s ≢ 0) (np : p ≢ 0) (found : List (ℕ × ℕ × ℕ)) (exact : AreMatches g s p 0 found) where
  pub item_of : (x : ℕ × ℕ × ℕ) → Contains found x → (s ≡ x.0) × (p ≡ x.1) × HasNumbers g s p x.2
  item_of x h =
      let k = (exact x.0 x.1 x.2).0 h in
      let first = fits_is s x.0 ns k.1.0 in
      let second = fits_is p x.1 np k.1.1 in
      let names = lawful.named (record { first = x.0; second = x.1; third = x.2 }) k.0 in (
        first,
        second,
        (ns, np, not_zero g.terms names.0.object x.2 names.1.2, subst (Contains g.triples) (λ i. record { first = sym first i; second = sym second i; third = x.2 }) k.0),
      )

  pub there : (b : ℕ) → HasNumbers g s p b → Contains found (s, p, b)
  there b h = (exact s p b).1 (h.3, (inr refl, inr refl, inl refl))

  pub only_none : found ≡ [] → (o : ℕ) → ¬ IsOnlyObject g s p o
  only_none e o h = none_there found (s, p, o) e (there o h.0)

  pub only_one : (x : ℕ × ℕ × ℕ) (rest : List (ℕ × ℕ × ℕ)) → found ≡ x ∷ rest → rest ≡ [] → IsOnlyObject g s p x.2
  only_one x rest e r = (
    (item_of x (head_there found rest x e)).2,
    (λ b h. elim (in_from_contains {X = ℕ × ℕ × ℕ} (s, p, b) (x ∷ []) (subst (λ xs. Contains xs (s, p, b)) (e ∙ ap (λ xs. x ∷ xs) r) (there b h))) [
      | inl q ↦ sym (ap (λ (y : ℕ × ℕ × ℕ). y.2) q)
      | inr q ↦ absurd q
    ]),
  )

  pub only_several : (x y : ℕ × ℕ × ℕ) (rest more : List (ℕ × ℕ × ℕ)) → found ≡ x ∷ rest → rest ≡ y ∷ more → AllPairs (λ (a b : ℕ × ℕ × ℕ). a ≢ b) found → (o : ℕ) → ¬ IsOnlyObject g s p o
  only_several x y rest more e r once o h =
      let whole : found ≡ x ∷ y ∷ more = e ∙ ap (λ xs. x ∷ xs) r in
      let second : Contains found y = subst (λ xs. Contains xs y) (sym whole) (1, omega arith, refl) in
      let a = item_of x (head_there found rest x e) in
      let b = item_of y second in
      let third : x.2 ≡ y.2 = h.1 x.2 a.2 ∙ sym (h.1 y.2 b.2) in
      let apart : AllPairs (λ (a b : ℕ × ℕ × ℕ). a ≢ b) (x ∷ y ∷ more) = subst (AllPairs (λ (a b : ℕ × ℕ × ℕ). a ≢ b)) whole once in
      apart 0 1 x (omega arith) (omega arith) (λ i. ((sym a.0 ∙ b.0) i, (sym a.1 ∙ b.1) i, third i))

-- ---- the datatypes of all kinds

pub datatypes_from : (g : GraphValue) (d : Datatypes) → IsNumberOf g (word_term (Datatype kind.Text)) d.text → IsNumberOf g (word_term (Datatype kind.Integer)) d.integer → IsNumberOf g (word_term (Datatype kind.Decimal)) d.decimal
    → IsNumberOf g (word_term (Datatype kind.Boolean)) d.boolean → IsNumberOf g (word_term (Datatype kind.Date)) d.date → IsNumberOf g (word_term (Datatype kind.Time)) d.time → IsNumberOf g (word_term (Datatype kind.DateTime)) d.date_time
    → IsNumberOf g (word_term (Datatype kind.Binary)) d.binary → AreDatatypes g d
datatypes_from g d text integer decimal boolean date time date_time binary = go
  where
    go : (k : Kind) → IsNumberOf g (word_term (Datatype k)) (datatype_number d k)
    go kind.Text = text
    go kind.Integer = integer
    go kind.Decimal = decimal
    go kind.Boolean = boolean
    go kind.Date = date
    go kind.Time = time
    go kind.DateTime = date_time
    go kind.Binary = binary

-- ---- what is said of terms

module _ (g : GraphValue) (G : List Statement) (is : IsGraphOf g G) where
  pub numbered : (x : Term) (n : ℕ) → term_at g.terms n ≡ Some x → IsNumberOf g x n
  numbered x n at = inr (not_zero g.terms x n at, at)

  term_of_number : (n : ℕ) (x y : Term) → term_at g.terms n ≡ Some x → term_at g.terms n ≡ Some y → x ≡ y
  term_of_number n x y a b = let e : Some x ≡ Some y = sym a ∙ b in cc

  iri_of : (x y : List ℕ) → Iri x ≡ Iri y → x ≡ y
  iri_of x y e = cc

  -- an object is the only one of its subject and predicate where no triple says another
  abbrev pub SaysOnly : Statement → Type 0
  SaysOnly t = IsIn t G × ((x : Statement) → IsIn x G → x.subject ≡ t.subject → x.predicate ≡ t.predicate → x.object ≡ t.object)

  module _ (t : Statement) (s p o : ℕ) (a : IsNumberOf g t.subject s) (b : IsNumberOf g (Iri t.predicate) p) (c : IsNumberOf g t.object o) where
    pub only_said : IsOnlyObject g s p o → SaysOnly t
    only_said h = (
      (says g G is t s p o a b c).0 h.0,
      (λ x there same_subject same_predicate.
          let k = (is.same x).1 there in
          let first = number_held g G is t.subject s k.0.first a (k.0, k.1, inl (k.2.0 ∙ ap Some same_subject)) (k.2.0 ∙ ap Some same_subject) in
          let at_second : term_at g.terms k.0.second ≡ Some (Iri t.predicate) = k.2.1 ∙ ap (λ q. Some (Iri q)) same_predicate in
          let second = number_held g G is (Iri t.predicate) p k.0.second b (k.0, k.1, inr (inl at_second)) at_second in
          let has : HasNumbers g s p k.0.third = (
            h.0.0,
            h.0.1,
            not_zero g.terms x.object k.0.third k.2.2,
            subst (Contains g.triples) (λ i. record { first = first i; second = second i; third = k.0.third }) k.1,
          ) in
          let third : k.0.third ≡ o = h.1 k.0.third has in
          term_of_number o x.object t.object (subst (λ n. term_at g.terms n ≡ Some x.object) third k.2.2) (number_at g G is t.object o c h.0.2)),
    )

    pub only_told : SaysOnly t → IsOnlyObject g s p o
    only_told h =
        let has = (says g G is t s p o a b c).1 h.0 in (
          has,
          (λ m k.
              let n : Triad = record { first = s; second = p; third = m } in
              let x = is.lawful.named n k.3 in
              let same_subject = term_of_number s x.0.subject t.subject x.1.0 (number_at g G is t.subject s a k.0) in
              let same_predicate = iri_of x.0.predicate t.predicate (term_of_number p (Iri x.0.predicate) (Iri t.predicate) x.1.1 (number_at g G is (Iri t.predicate) p b k.1)) in
              let there : IsIn x.0 G = (is.same x.0).0 (n, k.3, x.1) in
              let same_object = h.1 x.0 there same_subject same_predicate in
              one_number g.terms t.object m o is.lawful.apart (x.1.2 ∙ ap Some same_object) (number_at g G is t.object o c has.2)),
        )
