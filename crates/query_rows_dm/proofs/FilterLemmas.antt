-- The rows that a mask keeps.
use Rattle.std.proofs.Common.{◌≡◌, ◌≢◌, ◌<◌, ◌↔◌, ◌==◌, ℕ, List, Bool, true, false, not, length, map, replicate, slice_index, refl, sym, ap, ◌∙◌, subst, arith}
use Rattle.std.proofs.lemmas.List.{get_or-map, length-map, get_or-replicate, length-replicate}
use Rattle.std.proofs.lemmas.Bool.{both_ways, eqb-true, eq-eqb}
use Rattle.lanes_dm.specs.Flags.{flag}
use Rattle.solutions_dm.specs.Columns.{number_at, has_column}
use Rattle.solutions_dm.specs.Table.{Table, HasRow}
use Rattle.solutions_dm.proofs.ColumnLemmas.{number_at_none}
use Rattle.query_rows_dm.specs.Operators.{Marks}

flag_is : (b : Bool) → (flag b ≢ 0) ↔ (b ≡ true)
flag_is true = ((λ h. refl), (λ e z. omega (arith, z)))
flag_is false = ((λ h. absurd (h refl)), (λ e. cc e))

equal_is : (a b : ℕ) → ((a == b) ≡ true) ↔ (a ≡ b)
equal_is a b = (eqb-true a b, eq-eqb a b)

not_is : (b : Bool) (A : Type 0) → (b ≡ true) ↔ A → (not b ≡ true) ↔ (A → ⊥)
not_is true A d = ((λ e. cc e), (λ h. absurd (h (d.0 refl))))
not_is false A d = ((λ e a. both_ways _ refl (d.1 a)), (λ h. refl))

unequal_is : (a b : ℕ) → (not (a == b) ≡ true) ↔ (a ≢ b)
unequal_is a b = not_is (a == b) (a ≡ b) (equal_is a b)

marks_map : (p : ℕ → Bool) (P : ℕ → Type 0) (numbers : List ℕ) → ((x : ℕ) → (p x ≡ true) ↔ P x) → Marks (length numbers) (λ i. P (slice_index numbers i)) (map (λ x. flag (p x)) numbers)
marks_map p P numbers d = record {
  long = length-map numbers (λ x. flag (p x));
  each = λ i l. (
      let e : slice_index (map (λ x. flag (p x)) numbers) i ≡ flag (p (slice_index numbers i)) = get_or-map (λ x. flag (p x)) numbers i 0 0 l in
      ((λ k. (d (slice_index numbers i)).0 ((flag_is (p (slice_index numbers i))).0 (λ z. k (e ∙ z)))), (λ k z. (flag_is (p (slice_index numbers i))).1 ((d (slice_index numbers i)).1 k) (sym e ∙ z))));
}

marks_all : (n : ℕ) (b : Bool) → Marks n (λ _. b ≡ true) (replicate n (flag b))
marks_all n b = record {
  long = length-replicate n (flag b);
  each = λ i l. (let e : slice_index (replicate n (flag b)) i ≡ flag b = get_or-replicate n i (flag b) 0 l in
      ((λ k. (flag_is b).0 (λ z. k (e ∙ z))), (λ k z. (flag_is b).1 k (sym e ∙ z))));
}

module _ (rows : Table) (x : List ℕ) (p : ℕ → Bool) (P : ℕ → Type 0) (d : (n : ℕ) → (p n ≡ true) ↔ P n) (mask : List ℕ) where
  -- a variable without a column has 0 in each row
  marks_none : has_column rows.columns x ≡ false → (b : Bool) → b ≡ p 0 → mask ≡ replicate rows.rows (flag b) → Marks rows.rows (λ i. P (number_at rows.columns i x)) mask
  marks_none gone b same e = subst (Marks rows.rows (λ i. P (number_at rows.columns i x))) (sym e) (record {
    long = (marks_all rows.rows b).long;
    each = λ i l. (
        let m = (marks_all rows.rows b).each i l in
        let z : number_at rows.columns i x ≡ 0 = number_at_none rows.columns i x gone in
        ((λ k. subst P (sym z) ((d 0).0 (sym same ∙ m.0 k))), (λ k. m.1 (same ∙ (d 0).1 (subst P z k)))));
  })

  marks_some : (numbers : List ℕ) → length numbers ≡ rows.rows → ((i : ℕ) → number_at rows.columns i x ≡ slice_index numbers i) → mask ≡ map (λ n. flag (p n)) numbers →
      Marks rows.rows (λ i. P (number_at rows.columns i x)) mask
  marks_some numbers long at e = record {
    long = ap length e ∙ (marks_map p P numbers d).long ∙ long;
    each = λ i l. (
        let m = (marks_map p P numbers d).each i (omega (arith, l, long)) in
        let s : slice_index mask i ≡ slice_index (map (λ n. flag (p n)) numbers) i = ap (λ xs. slice_index xs i) e in
        ((λ k. subst P (sym (at i)) (m.0 (λ z. k (s ∙ z)))), (λ k z. m.1 (subst P (at i) k) (sym s ∙ z))));
  }

flip : (a b : ℕ) → (a == b) ≡ (b == a)
flip a b = same_truth (a == b) (b == a) (λ e. eq-eqb b a (sym (eqb-true a b e))) (λ e. eq-eqb a b (sym (eqb-true b a e)))
  where
    same_truth : (r s : Bool) → (r ≡ true → s ≡ true) → (s ≡ true → r ≡ true) → r ≡ s
    same_truth true s f g = sym (f refl)
    same_truth false true f g = g refl
    same_truth false false f g = refl

module _ (rows : Table) (x : List ℕ) (id : ℕ) (mask : List ℕ) where
  pub equal_none : has_column rows.columns x ≡ false → mask ≡ replicate rows.rows (flag (id == 0)) → Marks rows.rows (λ i. number_at rows.columns i x ≡ id) mask
  equal_none gone e = marks_none rows x (λ n. n == id) (λ n. n ≡ id) (λ n. equal_is n id) mask gone (id == 0) (flip id 0) e

  pub unequal_none : has_column rows.columns x ≡ false → mask ≡ replicate rows.rows (flag (not (id == 0))) → Marks rows.rows (λ i. number_at rows.columns i x ≢ id) mask
  unequal_none gone e = marks_none rows x (λ n. not (n == id)) (λ n. n ≢ id) (λ n. unequal_is n id) mask gone (not (id == 0)) (ap not (flip id 0)) e

  module _ (numbers : List ℕ) (long : length numbers ≡ rows.rows) (at : (i : ℕ) → number_at rows.columns i x ≡ slice_index numbers i) where
    pub equal_some : mask ≡ map (λ n. flag (n == id)) numbers → Marks rows.rows (λ i. number_at rows.columns i x ≡ id) mask
    equal_some e = marks_some rows x (λ n. n == id) (λ n. n ≡ id) (λ n. equal_is n id) mask numbers long at e

    pub unequal_some : mask ≡ map (λ n. flag (not (n == id))) numbers → Marks rows.rows (λ i. number_at rows.columns i x ≢ id) mask
    unequal_some e = marks_some rows x (λ n. not (n == id)) (λ n. n ≢ id) (λ n. unequal_is n id) mask numbers long at e

-- the rows that are kept have what is marked
pub kept_rows : (rows s : Table) (x : List ℕ) (P : ℕ → Type 0) (mask : List ℕ) → Marks rows.rows (λ i. P (number_at rows.columns i x)) mask →
    ((m : List ℕ → ℕ) → HasRow s m ↔ ((i : ℕ) × (i < rows.rows) × (slice_index mask i ≢ 0) × ((y : List ℕ) → m y ≡ number_at rows.columns i y))) →
    (m : List ℕ → ℕ) → HasRow s m ↔ (HasRow rows m × P (m x))
kept_rows rows s x P mask marks kept m = (
  (λ h. let r = (kept m).0 h in ((r.0, r.1, r.3), subst P (sym (r.3 x)) ((marks.each r.0 r.1).0 r.2))),
  (λ h. let r = h.0 in (kept m).1 (r.0, r.1, (marks.each r.0 r.1).1 (subst P (r.2 x) h.1), r.2)),
)
