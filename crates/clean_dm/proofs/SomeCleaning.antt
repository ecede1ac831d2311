-- It cannot be that no list is the cleaning of a database.
use Rattle.std.proofs.Common.{◌≡◌, ◌+◌, ◌<◌, ◌≤◌, ℕ, zero, suc, List, [], ◌∷◌, ◌++◌, ap, subst, inl, inr, arith, length}
use Rattle.std.proofs.lemmas.List.{length-append}
use Rattle.std.proofs.lemmas.Bool.Decides.{eqb_tells}
use Rattle.members_dm.specs.Membership.{IsIn}
use Rattle.members_dm.specs.Places.{IsEarlier, Place}
use Rattle.members_dm.proofs.ElementsLemmas.{split_at_item, without_middle}
use Rattle.members_dm.proofs.MembershipLemmas.{IsIn-back, IsIn-front}
use Rattle.table_csv.specs.Cells.{Row}
use Rattle.table_csv.specs.Databases.{Data, rows_at}
use Rattle.clean_dm.specs.Parts.{IsRow}
use Rattle.clean_dm.specs.Removing.{IsChain, IsCleaning, IsDue, IsLeft, IsNext, IsOf}
use Rattle.clean_dm.specs.declared.removal.Removal.{Removal}
use Rattle.clean_dm.proofs.DanglingSteps.{chain_on, still_gone}
use Rattle.clean_dm.proofs.OneCleaning.{due_length}

-- ---- the least number, and the earliest place

abbrev IsLeast : (ℕ → Type 0) → ℕ → Type 0
IsLeast P n = P n × ((m : ℕ) → P m → ¬ (m < n))

least_below : (P : ℕ → Type 0) (n m : ℕ) → m < n → P m → ¬ ((k : ℕ) → ¬ IsLeast P k)
least_below P zero m less p none = omega arith
least_below P (suc n) m less p none = none m (p, λ k q before. least_below P n k (omega arith) q none)

abbrev IsEarliest : {X : Type 0} → (Place → X → Type 0) → Place → Type 0
IsEarliest {X} P place = (other : Place) (x : X) → P other x → ¬ IsEarlier other place

-- of things that stand at places of one length not every one has another at an earlier place
earliest : {X : Type 0} (n : ℕ) (P : Place → X → Type 0) → ((place : Place) (x : X) → P place x → length place ≡ n) → (place : Place) (x : X) → P place x →
    ¬ ((first : Place) (y : X) → P first y → ¬ IsEarliest P first)
earliest {X} zero P long place x h none = none place x h (λ other y k. nothing other (long other y k))
  where
    nothing : (other : Place) → length other ≡ 0 → ¬ IsEarlier other place
    nothing [] e before = before
    nothing (a ∷ rest) e before = omega arith
earliest {X} (suc n) P long [] x h none = (let no : 0 ≡ suc n = long [] x h in omega arith)
earliest {X} (suc n) P long (a ∷ place) x h none =
    least_below (λ b. (rest : Place) × (y : X) × P (b ∷ rest) y) (suc a) a (omega arith) (place, x, h) (λ b least.
    let there = least.0 in
    earliest n (λ rest y. P (b ∷ rest) y) (λ rest y k. (let whole : length (b ∷ rest) ≡ suc n = long (b ∷ rest) y k in omega arith)) there.0 there.1 there.2
    (λ rest y k first. none (b ∷ rest) y k (λ other z m. before b (λ c. least.1 c) rest first other z m)))
  where
    before : (b : ℕ) → ((c : ℕ) → ((rest : Place) × (y : X) × P (c ∷ rest) y) → ¬ (c < b)) → (rest : Place) → IsEarliest (λ (r : Place) (y : X). P (b ∷ r) y) rest →
        (other : Place) (z : X) → P other z → ¬ IsEarlier other (b ∷ rest)
    before b least rest first [] z m earlier = earlier
    before b least rest first (c ∷ other) z m (inl less) = least c (other, z, m) less
    before b least rest first (c ∷ other) z m (inr same) = first other z (subst (λ (d : ℕ). P (d ∷ other) z) same.0 m) same.1

-- ---- one removal after another

module _ (D : Data) where
  -- the rows that are left are among these
  abbrev AreLeftAmong : List Removal → List (ℕ × ℕ) → Type 0
  AreLeftAmong made rows = (t i : ℕ) → IsRow D t i → IsLeft made t i → IsIn {X = ℕ × ℕ} (t, i) rows

  among_on : (made : List Removal) (rows front back : List (ℕ × ℕ)) (first : Place) (next : Removal) (h : IsDue D made first next) → rows ≡ front ++ (h.t, h.i) ∷ back → AreLeftAmong made rows → AreLeftAmong (made ++ next ∷ []) (front ++ back)
  among_on made rows front back first next h is among t i is_row left =
      let was : IsIn {X = ℕ × ℕ} (t, i) rows = among t i is_row (λ gone. left (still_gone (IsOf t i) made next (inl gone))) in
      elim (without_middle {X = ℕ × ℕ} (h.t, h.i) (t, i) front back (subst (λ (rs : List (ℕ × ℕ)). IsIn {X = ℕ × ℕ} (t, i) rs) is was)) [
        | inl same ↦ absurd (left (still_gone (IsOf t i) made next (inr (subst {A = ℕ × ℕ} (λ (q : ℕ × ℕ). IsOf q.0 q.1 next) same h.of_row))))
        | inr there ↦ there
      ]

  fewer : (n : ℕ) (rows front back : List (ℕ × ℕ)) (x : ℕ × ℕ) → rows ≡ front ++ x ∷ back → length rows ≤ suc n → length (front ++ back) ≤ n
  fewer n rows front back x is few =
      let whole : length rows ≡ length (front ++ x ∷ back) = ap length is in
      let cut : length (front ++ x ∷ back) ≡ length front + length (x ∷ back) = length-append front (x ∷ back) in
      let rest : length (front ++ back) ≡ length front + length back = length-append front back in
      omega arith

  nothing_in : (rows : List (ℕ × ℕ)) (x : ℕ × ℕ) → length rows ≤ 0 → ¬ IsIn {X = ℕ × ℕ} x rows
  nothing_in [] x few h = h
  nothing_in (y ∷ rows) x few h = omega arith

  from_here : (n : ℕ) (made : List Removal) (rows : List (ℕ × ℕ)) → length rows ≤ n → AreLeftAmong made rows → IsChain (IsNext D) made → ¬ ((removals : List Removal) → ¬ IsCleaning D removals)
  from_here zero made rows few among chain none =
      none made (record { chain = chain; done = λ place removal due. nothing_in rows (due.t, due.i) few (among due.t due.i due.is_row due.left) })
  from_here (suc n) made rows few among chain none =
      none made (record {
        chain = chain;
        done = λ place removal due.
            earliest 5 (IsDue D made) (λ p x h. due_length D made p x h) place removal due (λ first next h before.
            let parts = split_at_item {X = ℕ × ℕ} (h.t, h.i) rows (among h.t h.i h.is_row h.left) in
            from_here n (made ++ next ∷ []) (parts.0 ++ parts.1) (fewer n rows parts.0 parts.1 (h.t, h.i) parts.2 few)
            (among_on made rows parts.0 parts.1 first next h parts.2 among) (chain_on (IsNext D) made next chain (record { place = first; due = h; first = before })) none);
      })

-- ---- all rows

pairs_of : ℕ → ℕ → List (ℕ × ℕ)
pairs_of t zero = []
pairs_of t (suc n) = (t, n) ∷ pairs_of t n

all_pairs : ℕ → List (List Row) → List (ℕ × ℕ)
all_pairs t [] = []
all_pairs t (rows ∷ lists) = pairs_of t (length rows) ++ all_pairs (t + 1) lists

among_pairs : (t n i : ℕ) → i < n → IsIn {X = ℕ × ℕ} (t, i) (pairs_of t n)
unfolding pairs_of
among_pairs t zero i below = omega arith
among_pairs t (suc n) i below = elim (eqb_tells n i) [
  | inl same ↦ inl (let e : n ≡ i = same.1 in ap (λ (k : ℕ). (t, k)) e)
  | inr apart ↦ (let other : n ≡ i → ⊥ = apart.1 in inr (among_pairs t n i (omega arith)))
]

among_all : (base : ℕ) (lists : List (List Row)) (t i : ℕ) → i < length (rows_at lists t) → IsIn {X = ℕ × ℕ} (base + t, i) (all_pairs base lists)
unfolding all_pairs
among_all base [] t i below = absurd (omega arith)
among_all base (rows ∷ lists) zero i below =
    IsIn-front {X = ℕ × ℕ} (base + 0, i) (pairs_of base (length rows)) (all_pairs (base + 1) lists)
    (subst (λ (b : ℕ). IsIn {X = ℕ × ℕ} (b, i) (pairs_of base (length rows))) (let e : base ≡ base + 0 = omega arith in e) (among_pairs base (length rows) i below))
among_all base (rows ∷ lists) (suc t) i below =
    IsIn-back {X = ℕ × ℕ} (base + suc t, i) (pairs_of base (length rows)) (all_pairs (base + 1) lists)
    (subst (λ (b : ℕ). IsIn {X = ℕ × ℕ} (b, i) (all_pairs (base + 1) lists)) (let e : base + 1 + t ≡ base + suc t = omega arith in e) (among_all (base + 1) lists t i below))

no_chain : (D : Data) → IsChain (IsNext D) []
no_chain D [] after removal e = cc
no_chain D (x ∷ before) after removal e = cc

-- not every list fails to be the cleaning of the database
pub cleaning_some : (D : Data) → ¬ ((removals : List Removal) → ¬ IsCleaning D removals)
cleaning_some D =
    from_here D (length (all_pairs 0 D.rows)) [] (all_pairs 0 D.rows) (omega arith)
    (λ t i is_row left. subst (λ (b : ℕ). IsIn {X = ℕ × ℕ} (b, i) (all_pairs 0 D.rows)) (let e : 0 + t ≡ t = omega arith in e) (among_all 0 D.rows t i is_row)) (no_chain D)
