-- What masks mark.
use Rattle.std.proofs.Common.{◌≡◌, ◌≢◌, ◌<◌, ◌⊎◌, ◌↔◌, ◌==◌, ◌||◌, ◌&&◌, ℕ, List, Bool, true, false, not, length, map, replicate, slice_index, refl, sym, ◌∙◌, subst, arith, inl, inr, ⊎_elim}
use Rattle.std.specs.Simd.Lanes.{zip2}
use Rattle.std.proofs.lemmas.Simd.{get_or-zip2, length-zip2}
use Rattle.std.proofs.lemmas.List.{get_or-map, length-map, get_or-replicate, length-replicate}
use Rattle.std.proofs.lemmas.Bool.{both_ways, eqb-true, eq-eqb, cases_Bool}
use Rattle.lanes_dm.specs.Flags.{flag}
use Rattle.pattern_dm.specs.declared.masks.Masks.{Masks}
use Rattle.pattern_dm.specs.Masks.{Marks, AreSplit, both_flags, either_flags}

flag_is : (b : Bool) → (flag b ≢ 0) ↔ (b ≡ true)
flag_is true = ((λ h. refl), (λ e z. omega (arith, z)))
flag_is false = ((λ h. absurd (h refl)), (λ e. cc e))

-- a test is false exactly where what it decides isn't so
pub not_decides : (b : Bool) (A : Type 0) → (b ≡ true) ↔ A → (not b ≡ true) ↔ (A → ⊥)
not_decides true A d = ((λ e. cc e), (λ h. absurd (h (d.0 refl))))
not_decides false A d = ((λ e a. both_ways _ refl (d.1 a)), (λ h. refl))

pub eq_decides : (a b : ℕ) → ((a == b) ≡ true) ↔ (a ≡ b)
eq_decides a b = (eqb-true a b, eq-eqb a b)

or_decides : (a b : Bool) → ((a || b) ≡ true) ↔ ((a ≡ true) ⊎ (b ≡ true))
or_decides true b = ((λ e. inl refl), (λ h. refl))
or_decides false b = ((λ e. inr e), (λ h. ⊎_elim (λ e. cc e) (λ e. e) h))

-- not (x is 0 or y is 0)
both_decides : (x y : ℕ) → (not (x == 0 || y == 0) ≡ true) ↔ ((x ≢ 0) × (y ≢ 0))
both_decides x y = go (x == 0) (y == 0) (eq_decides x 0) (eq_decides y 0)
  where
    go : (a b : Bool) → (a ≡ true) ↔ (x ≡ 0) → (b ≡ true) ↔ (y ≡ 0) → (not (a || b) ≡ true) ↔ ((x ≢ 0) × (y ≢ 0))
    go true b d e = ((λ h. cc h), (λ h. absurd (h.0 (d.0 refl))))
    go false true d e = ((λ h. cc h), (λ h. absurd (h.1 (e.0 refl))))
    go false false d e = ((λ h. ((λ z. both_ways _ refl (d.1 z)), (λ z. both_ways _ refl (e.1 z)))), (λ h. refl))

either_decides : (x y : ℕ) → (not (x == 0 && y == 0) ≡ true) ↔ ((x ≢ 0) ⊎ (y ≢ 0))
either_decides x y = go (x == 0) (y == 0) (eq_decides x 0) (eq_decides y 0)
  where
    go : (a b : Bool) → (a ≡ true) ↔ (x ≡ 0) → (b ≡ true) ↔ (y ≡ 0) → (not (a && b) ≡ true) ↔ ((x ≢ 0) ⊎ (y ≢ 0))
    go true true d e = ((λ h. cc h), (λ h. absurd (⊎_elim (λ n. n (d.0 refl)) (λ n. n (e.0 refl)) h)))
    go true false d e = ((λ h. inr (λ z. both_ways _ refl (e.1 z))), (λ h. refl))
    go false b d e = ((λ h. inl (λ z. both_ways _ refl (d.1 z))), (λ h. refl))

-- ---- masks

pub marks_as : (n : ℕ) (P Q : ℕ → Type 0) (mask : List ℕ) → ((i : ℕ) → i < n → P i ↔ Q i) → Marks n P mask → Marks n Q mask
marks_as n P Q mask e h = record { long = h.long; each = λ i l. ((λ k. (e i l).0 ((h.each i l).0 k)), (λ k. (h.each i l).1 ((e i l).1 k))) }

pub marks_map : (p : ℕ → Bool) (P : ℕ → Type 0) (numbers : List ℕ) → ((x : ℕ) → (p x ≡ true) ↔ P x) → Marks (length numbers) (λ i. P (slice_index numbers i)) (map (λ x. flag (p x)) numbers)
marks_map p P numbers d = record {
  long = length-map numbers (λ x. flag (p x));
  each = λ i l.
      let e : slice_index (map (λ x. flag (p x)) numbers) i ≡ flag (p (slice_index numbers i)) = get_or-map (λ x. flag (p x)) numbers i 0 0 l in
      ((λ k. (d (slice_index numbers i)).0 ((flag_is (p (slice_index numbers i))).0 (λ z. k (e ∙ z)))), (λ k z. (flag_is (p (slice_index numbers i))).1 ((d (slice_index numbers i)).1 k) (sym e ∙ z)));
}

pub marks_zip : (p : ℕ → ℕ → Bool) (P : ℕ → ℕ → Type 0) (xs ys : List ℕ) → length ys ≡ length xs → ((x y : ℕ) → (p x y ≡ true) ↔ P x y) → Marks (length xs) (λ i. P (slice_index xs i) (slice_index ys i)) (zip2 (λ x y. flag (p x y)) xs ys)
marks_zip p P xs ys long d = record {
  long = length-zip2 (λ x y. flag (p x y)) xs ys (sym long);
  each = λ i l.
      let x = slice_index xs i in
      let y = slice_index ys i in
      let e : slice_index (zip2 (λ x y. flag (p x y)) xs ys) i ≡ flag (p x y) = get_or-zip2 (λ x y. flag (p x y)) xs ys i 0 0 0 l (omega arith) in
      ((λ k. (d x y).0 ((flag_is (p x y)).0 (λ z. k (e ∙ z)))), (λ k z. (flag_is (p x y)).1 ((d x y).1 k) (sym e ∙ z)));
}

pub marks_all : (n : ℕ) (b : Bool) → Marks n (λ _. b ≡ true) (replicate n (flag b))
marks_all n b = record {
  long = length-replicate n (flag b);
  each = λ i l. let e : slice_index (replicate n (flag b)) i ≡ flag b = get_or-replicate n i (flag b) 0 l in
      ((λ k. (flag_is b).0 (λ z. k (e ∙ z))), (λ k z. (flag_is b).1 k (sym e ∙ z)));
}

module _ (n : ℕ) (P Q : ℕ → Type 0) (a b : List ℕ) (h : Marks n P a) (k : Marks n Q b) where
  same_long : length b ≡ length a
  same_long = k.long ∙ sym h.long

  pub marks_both : Marks n (λ i. P i × Q i) (both_flags a b)
  marks_both =
      let m = marks_zip (λ x y. not (x == 0 || y == 0)) (λ x y. (x ≢ 0) × (y ≢ 0)) a b same_long both_decides in
      subst (λ n. Marks n (λ i. P i × Q i) (both_flags a b)) h.long
      (marks_as (length a) _ (λ i. P i × Q i) (both_flags a b)
      (λ i l. let p = h.each i (omega (arith, h.long)) in let q = k.each i (omega (arith, h.long)) in ((λ r. (p.0 r.0, q.0 r.1)), (λ r. (p.1 r.0, q.1 r.1)))) m)

  pub marks_either : Marks n (λ i. P i ⊎ Q i) (either_flags a b)
  marks_either =
      let m = marks_zip (λ x y. not (x == 0 && y == 0)) (λ x y. (x ≢ 0) ⊎ (y ≢ 0)) a b same_long either_decides in
      subst (λ n. Marks n (λ i. P i ⊎ Q i) (either_flags a b)) h.long
      (marks_as (length a) _ (λ i. P i ⊎ Q i) (either_flags a b)
      (λ i l. let p = h.each i (omega (arith, h.long)) in let q = k.each i (omega (arith, h.long)) in
      ((λ r. ⊎_elim (λ s. inl (p.0 s)) (λ s. inr (q.0 s)) r), (λ r. ⊎_elim (λ s. inl (p.1 s)) (λ s. inr (q.1 s)) r))) m)

pub marks_not : (n : ℕ) (P : ℕ → Type 0) (a : List ℕ) → Marks n P a → Marks n (λ i. P i → ⊥) (map (λ x. flag (x == 0)) a)
marks_not n P a h =
    let m = marks_map (λ x. x == 0) (λ x. x ≡ 0) a (λ x. eq_decides x 0) in
    subst (λ n. Marks n (λ i. P i → ⊥) (map (λ x. flag (x == 0)) a)) h.long
    (marks_as (length a) _ (λ i. P i → ⊥) (map (λ x. flag (x == 0)) a)
    (λ i l. let p = h.each i (omega (arith, h.long)) in (
      (λ z q. p.1 q z),
      (λ q. elim (cases_Bool (slice_index a i == 0)) [
        | inl e ↦ eqb-true _ _ e
        | inr e ↦ absurd (q (p.0 (λ z. both_ways _ e (eq-eqb _ _ z))))
      ]),
    )) m)

pub split_as : (n : ℕ) (P Q R S : ℕ → Type 0) (masks : Masks) → ((i : ℕ) → i < n → P i ↔ R i) → ((i : ℕ) → i < n → Q i ↔ S i) → AreSplit n P Q masks → AreSplit n R S masks
split_as n P Q R S masks e f h = record { holds = marks_as n P R masks.holds.items e h.holds; fails = marks_as n Q S masks.fails.items f h.fails }

-- a mask made of the numbers of a column
pub marks_bound : (numbers mask : List ℕ) → mask ≡ map (λ x. flag (not (x == 0))) numbers → Marks (length numbers) (λ i. slice_index numbers i ≢ 0) mask
marks_bound numbers mask e = subst (Marks (length numbers) (λ i. slice_index numbers i ≢ 0)) (sym e) (marks_map (λ x. not (x == 0)) (λ x. x ≢ 0) numbers (λ x. not_decides (x == 0) (x ≡ 0) (eq_decides x 0)))

pub marks_number : (numbers mask : List ℕ) (k : ℕ) → mask ≡ map (λ x. flag (x == k)) numbers → Marks (length numbers) (λ i. slice_index numbers i ≡ k) mask
marks_number numbers mask k e = subst (Marks (length numbers) (λ i. slice_index numbers i ≡ k)) (sym e) (marks_map (λ x. x == k) (λ x. x ≡ k) numbers (λ x. eq_decides x k))

pub marks_other : (numbers mask : List ℕ) (k : ℕ) → mask ≡ map (λ x. flag (not (x == k))) numbers → Marks (length numbers) (λ i. slice_index numbers i ≢ k) mask
marks_other numbers mask k e = subst (Marks (length numbers) (λ i. slice_index numbers i ≢ k)) (sym e) (marks_map (λ x. not (x == k)) (λ x. x ≢ k) numbers (λ x. not_decides (x == k) (x ≡ k) (eq_decides x k)))

pub marks_none : (n : ℕ) (mask : List ℕ) → mask ≡ replicate n (flag false) → Marks n (λ _. ⊥) mask
marks_none n mask e = subst (Marks n (λ _. ⊥)) (sym e) (marks_as n (λ _. false ≡ true) (λ _. ⊥) (replicate n (flag false)) (λ i l. ((λ h. cc h), (λ h. absurd h))) (marks_all n false))

-- ---- masks of two columns

pub marks_same : (a b mask : List ℕ) → length b ≡ length a → mask ≡ zip2 (λ x y. flag (x == y)) a b → Marks (length a) (λ i. slice_index a i ≡ slice_index b i) mask
marks_same a b mask long e = subst (Marks (length a) (λ i. slice_index a i ≡ slice_index b i)) (sym e) (marks_zip (λ x y. x == y) (λ x y. x ≡ y) a b long eq_decides)

pub marks_both_bound : (a b first second mask : List ℕ) → length b ≡ length a → first ≡ map (λ x. flag (not (x == 0))) a → second ≡ map (λ x. flag (not (x == 0))) b → mask ≡ both_flags first second →
    Marks (length a) (λ i. (slice_index a i ≢ 0) × (slice_index b i ≢ 0)) mask
marks_both_bound a b first second mask long f s e = subst (Marks (length a) (λ i. (slice_index a i ≢ 0) × (slice_index b i ≢ 0))) (sym e)
    (marks_both (length a) (λ i. slice_index a i ≢ 0) (λ i. slice_index b i ≢ 0) first second (marks_bound a first f) (subst (λ n. Marks n (λ i. slice_index b i ≢ 0) second) long (marks_bound b second s)))

pub marks_differing : (a b same mask : List ℕ) → Marks (length a) (λ i. slice_index a i ≡ slice_index b i) same → mask ≡ map (λ x. flag (x == 0)) same → Marks (length a) (λ i. slice_index a i ≢ slice_index b i) mask
marks_differing a b same mask h e = subst (Marks (length a) (λ i. slice_index a i ≢ slice_index b i)) (sym e) (marks_not (length a) (λ i. slice_index a i ≡ slice_index b i) same h)

-- a mask that marks what two others do
pub marks_met : (n : ℕ) (P Q : ℕ → Type 0) (a b mask : List ℕ) → Marks n P a → Marks n Q b → mask ≡ both_flags a b → Marks n (λ i. P i × Q i) mask
marks_met n P Q a b mask h k e = subst (Marks n (λ i. P i × Q i)) (sym e) (marks_both n P Q a b h k)

pub marks_joined : (n : ℕ) (P Q : ℕ → Type 0) (a b mask : List ℕ) → Marks n P a → Marks n Q b → mask ≡ either_flags a b → Marks n (λ i. P i ⊎ Q i) mask
marks_joined n P Q a b mask h k e = subst (Marks n (λ i. P i ⊎ Q i)) (sym e) (marks_either n P Q a b h k)
