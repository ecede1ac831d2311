-- Triples and their numbers.
use Rattle.std.proofs.Common.{◌≡◌, ℕ, zero, suc, List, [], ◌∷◌, ◌++◌, slice_get, Some, refl, sym, ap, ◌∙◌, subst, arith, ⊎_elim, ◌⊎◌, inl, inr, Contains, ◌↔◌, append_assoc, append-nil, length-append}
use Rattle.std.specs.List.{AllZip}
use Rattle.std.proofs.lemmas.List.Elements.{Contains-append_left, Contains-push, Contains-push_cases}
use Rattle.names_dm.specs.declared.term.Term.{Term}
use Rattle.solutions_dm.proofs.ListLemmas.{contains_cases, contains_later}
use Rattle.names_dm.specs.declared.term.Term.TheVariants.{Iri}
use Rattle.names_dm.specs.Statements.{Statement}
use Rattle.store_dm.specs.declared.listing.Triad.{Triad}
use Rattle.store_dm.specs.Terms.{AreOneToOne, term_at, IsNumbered}
use Rattle.store_dm.specs.Graphs.{Names, Mentions, AreNamed, HoldsTerm, AreUsed, AreNumbered, GraphValue, HasTriple}

get_front : (xs ys : List Term) (k : ℕ) (x : Term) → slice_get xs k ≡ Some x → slice_get (xs ++ ys) k ≡ Some x
get_front [] ys k x e = absurd (cc e)
get_front (y ∷ xs) ys zero x e = e
get_front (y ∷ xs) ys (suc k) x e = get_front xs ys k x e

zip_push : {A B : Type 0} (R : A → B → Type 0) (xs : List A) (ys : List B) (x : A) (y : B) → AllZip R xs ys → R x y → AllZip R (xs ++ x ∷ []) (ys ++ y ∷ [])
zip_push R [] [] x y h r = (r, tt)
zip_push R [] (b ∷ bs) x y h r = absurd h
zip_push R (a ∷ more) [] x y h r = absurd h
zip_push R (a ∷ more) (b ∷ bs) x y h r = (h.0, zip_push R more bs x y h.1 r)

-- the terms may have grown
Grown : List Term → List Term → Type 0
Grown old new = (more : List Term) × (new ≡ old ++ more)

grown_from : (old new : List Term) (t : Term) (n : ℕ) → IsNumbered old new t n → Grown old new
unfolding Grown
grown_from old new t n h = ⊎_elim (λ e. ([], e ∙ sym (append-nil old))) (λ e. (t ∷ [], e)) h.grown

grown_twice : (a b c : List Term) → Grown a b → Grown b c → Grown a c
unfolding Grown
grown_twice a b c h k = (h.0 ++ k.0, k.1 ∙ ap (λ xs. xs ++ k.0) h.1 ∙ append_assoc a h.0 k.0)

still : (old new : List Term) (n : ℕ) (x : Term) → Grown old new → term_at old n ≡ Some x → term_at new n ≡ Some x
unfolding Grown
still old new zero x h e = e
still old new (suc k) x h e = subst (λ ts. slice_get ts k ≡ Some x) (sym h.1) (get_front old h.0 k x e)

names_still : (old new : List Term) → Grown old new → (triads : List Triad) (ts : List Statement) → AllZip (Names old) triads ts → AllZip (Names new) triads ts
names_still old new g [] [] h = h
names_still old new g [] (t ∷ ts) h = h
names_still old new g (n ∷ ns) [] h = h
names_still old new g (n ∷ ns) (t ∷ ts) h =
    ((still old new n.first t.subject g h.0.0, still old new n.second (Iri t.predicate) g h.0.1, still old new n.third t.object g h.0.2), names_still old new g ns ts h.1)

mentions_still : (old new : List Term) (n : Triad) (x : Term) → Grown old new → Mentions old n x → Mentions new n x
mentions_still old new n x g h = ⊎_elim (λ k. inl (still old new n.first x g k)) (λ k. inr (⊎_elim (λ k. inl (still old new n.second x g k)) (λ k. inr (still old new n.third x g k)) k)) h

was_there : (old new : List Term) (t : Term) (n : ℕ) (x : Term) → IsNumbered old new t n → Contains new x → Contains old x ⊎ (t ≡ x)
was_there old new t n x h k = ⊎_elim (λ e. inl (subst (λ ts. Contains ts x) e k)) (λ e. Contains-push_cases old t x (subst (λ ts. Contains ts x) e k)) h.grown

module _ (t0 t1 t2 t3 : List Term) (triads : List Triad) (ts : List Statement) (t : Statement) (a b c : ℕ)
    (h : IsNumbered t0 t1 t.subject a) (k : IsNumbered t1 t2 (Iri t.predicate) b) (l : IsNumbered t2 t3 t.object c) (apart : AreOneToOne t3) (so_far : AreNumbered t0 triads ts) where
  new : Triad
  new = record { first = a; second = b; third = c }

  g23 : Grown t2 t3
  g23 = grown_from t2 t3 t.object c l

  g13 : Grown t1 t3
  g13 = grown_twice t1 t2 t3 (grown_from t1 t2 (Iri t.predicate) b k) g23

  g03 : Grown t0 t3
  g03 = grown_twice t0 t1 t3 (grown_from t0 t1 t.subject a h) g13

  new_names : Names t3 (record { first = a; second = b; third = c }) t
  new_names = (still t1 t3 a t.subject g13 h.number, still t2 t3 b (Iri t.predicate) g23 k.number, l.number)

  used_new : (x : Term) → Mentions t3 (record { first = a; second = b; third = c }) x → (n : Triad) × Contains (triads ++ record { first = a; second = b; third = c } ∷ []) n × Mentions t3 n x
  used_new x m = (record { first = a; second = b; third = c }, Contains-push triads (record { first = a; second = b; third = c }), m)

  used_old : (x : Term) → Contains t0 x → (n : Triad) × Contains (triads ++ record { first = a; second = b; third = c } ∷ []) n × Mentions t3 n x
  used_old x m = let u = so_far.used x m in (u.0, Contains-append_left triads (record { first = a; second = b; third = c } ∷ []) u.0 u.1, mentions_still t0 t3 u.0 x g03 u.2)

  pub add_numbered : AreNumbered t3 (triads ++ record { first = a; second = b; third = c } ∷ []) (ts ++ t ∷ [])
  add_numbered = record {
    named = zip_push (Names t3) triads ts (record { first = a; second = b; third = c }) t (names_still t0 t3 g03 triads ts so_far.named) new_names;
    used = λ x m. ⊎_elim
        (λ m. ⊎_elim
        (λ m. ⊎_elim (λ m. used_old x m) (λ e. used_new x (inl (new_names.0 ∙ ap Some e))) (was_there t0 t1 t.subject a x h m))
        (λ e. used_new x (inr (inl (new_names.1 ∙ ap Some e)))) (was_there t1 t2 (Iri t.predicate) b x k m))
        (λ e. used_new x (inr (inr (new_names.2 ∙ ap Some e)))) (was_there t2 t3 t.object c x l m);
    small = omega (arith, h.small, k.small, l.small, so_far.small, length-append ts (t ∷ []));
    apart = apart;
  }

-- ---- the numbers say exactly the triples

one_statement : (terms : List Term) (n : Triad) (t u : Statement) → Names terms n t → Names terms n u → t ≡ u
one_statement terms n t u h k =
    let s : t.subject ≡ u.subject = some_same (sym h.0 ∙ k.0) in
    let o : t.object ≡ u.object = some_same (sym h.2 ∙ k.2) in
    let p : t.predicate ≡ u.predicate = iri_same (some_same (sym h.1 ∙ k.1)) in
    λ i. record { subject = s i; predicate = p i; object = o i }
  where
    some_same : {x y : Term} → Some x ≡ Some y → x ≡ y
    some_same e = cc e

    iri_same : {x y : List ℕ} → Iri x ≡ Iri y → x ≡ y
    iri_same e = cc e

stated : (terms : List Term) (triads : List Triad) (ts : List Statement) → AllZip (Names terms) triads ts → (n : Triad) (t : Statement) → Contains triads n → Names terms n t → Contains ts t
stated terms [] ts h n t m k = absurd (omega (arith, m.1))
stated terms (x ∷ xs) [] h n t m k = absurd h
stated terms (x ∷ xs) (u ∷ us) h n t m k = ⊎_elim
    (λ e. subst (Contains (u ∷ us)) (one_statement terms n u t (subst (λ z. Names terms z u) e h.0) k) (0, omega arith, refl))
    (λ m. contains_later u t us (stated terms xs us h.1 n t m k)) (contains_cases x n xs m)

has_numbers : (terms : List Term) (triads : List Triad) (ts : List Statement) → AllZip (Names terms) triads ts → (t : Statement) → Contains ts t → (n : Triad) × Contains triads n × Names terms n t
has_numbers terms [] [] h t m = absurd (omega (arith, m.1))
has_numbers terms [] (u ∷ us) h t m = absurd h
has_numbers terms (x ∷ xs) [] h t m = absurd h
has_numbers terms (x ∷ xs) (u ∷ us) h t m = ⊎_elim
    (λ e. (x, (0, omega arith, refl), subst (Names terms x) e h.0))
    (λ m. let r = has_numbers terms xs us h.1 t m in (r.0, contains_later x r.0 xs r.1, r.2)) (contains_cases u t us m)

pub built_exact : (terms : List Term) (triads : List Triad) (ts : List Statement) (g : GraphValue) → AreNumbered terms triads ts → g.terms ≡ terms →
    ((x : Triad) → Contains g.triples x ↔ Contains triads x) → (t : Statement) → HasTriple g t ↔ Contains ts t
built_exact terms triads ts g h e same t = (
  (λ m. stated terms triads ts h.named m.0 t ((same m.0).0 m.1) (subst (λ ts. Names ts m.0 t) e m.2)),
  (λ m. let r = has_numbers terms triads ts h.named t m in (r.0, (same r.0).1 r.1, subst (λ ts. Names ts r.0 t) (sym e) r.2)),
)

pub numbered_none : AreNumbered [] [] []
numbered_none = record { named = tt; used = λ x h. absurd (omega (arith, h.1)); small = omega arith; apart = λ i j l e. absurd (omega (arith, l)) }

pub all_named : (terms : List Term) (triads : List Triad) (ts : List Statement) → AllZip (Names terms) triads ts → AreNamed terms triads
all_named terms [] ts h n m = absurd (omega (arith, m.1))
all_named terms (x ∷ xs) [] h n m = absurd h
all_named terms (x ∷ xs) (t ∷ ts) h n m = ⊎_elim (λ e. (t, subst (λ z. Names terms z t) e h.0)) (λ m. all_named terms xs ts h.1 n m) (contains_cases x n xs m)

get_contains : (xs : List Term) (k : ℕ) (x : Term) → slice_get xs k ≡ Some x → Contains xs x
get_contains [] k x e = absurd (cc e)
get_contains (y ∷ ys) zero x e = (0, omega arith, the_same e)
  where
    the_same : {a b : Term} → Some a ≡ Some b → a ≡ b
    the_same e = cc e
get_contains (y ∷ ys) (suc k) x e = contains_later y x ys (get_contains ys k x e)

at_contains : (xs : List Term) (n : ℕ) (x : Term) → term_at xs n ≡ Some x → Contains xs x
at_contains xs zero x e = absurd (cc e)
at_contains xs (suc k) x e = get_contains xs k x e

pub holds_term : (g : GraphValue) (x : Term) → AreUsed g.terms g.triples → Contains g.terms x ↔ HoldsTerm g x
holds_term g x used = (
  (λ h. used x h),
  (λ h. ⊎_elim (λ e. at_contains g.terms h.0.first x e) (λ k. ⊎_elim (λ e. at_contains g.terms h.0.second x e) (λ e. at_contains g.terms h.0.third x e) k) h.2),
)
