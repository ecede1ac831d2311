-- Turns of rows, noted one after another.
use Rattle.std.proofs.Common.{◌≡◌, ◌∙◌, ◌⊎◌, ◌+◌, ◌<◌, ◌≤◌, ℕ, zero, suc, Bool, true, false, cond, List, [], ◌∷◌, ◌++◌, Some, None, length, take, drop, refl, sym, ap, subst, inl, inr, arith}
use Rattle.std.specs.Prelude.{◌↔◌, slice_get}
use Rattle.std.specs.BTreeMap.{get}
use Rattle.std.specs.Ordering.{is_eq}
use Rattle.std.proofs.lemmas.Bool.Decides.{eqb_tells}
use Rattle.std.proofs.lemmas.Option.{slice_get_within}
use Rattle.members_dm.specs.Elements.{HasSome}
use Rattle.members_dm.proofs.ElementsLemmas.{index_of_item}
use Rattle.table_csv.specs.Databases.{Data}
use Rattle.clean_dm.specs.Kept.{RowsExist}
use Rattle.clean_dm.specs.Parts.{IsRow}
use Rattle.clean_dm.specs.Removing.{IsCertificate, IsLeft, IsOf}
use Rattle.clean_dm.specs.RowSets.{pair_cmp}
use Rattle.clean_dm.specs.Turns.{AreFirstTurns, AreTurns, CannotTake, HasTaken, IsTurn, TakesTurn, row_turn}
use Rattle.clean_dm.specs.declared.removal.Removal.{Removal}
use Rattle.clean_dm.specs.declared.turns.Turns.{Turns}
use Rattle.clean_dm.proofs.Largest.{same_number}
use Rattle.clean_dm.proofs.RowSetLemmas.{pair_same, same_pair}

-- ---- items by their turns

pub split_at : {X : Type 0} (xs : List X) (n : ℕ) (x : X) → slice_get xs n ≡ Some x → xs ≡ take n xs ++ x ∷ drop (suc n) xs
split_at {X} [] n x e = (let no : None ≡ Some x = e in cc)
split_at (y ∷ xs) zero x e = (let same : Some y ≡ Some x = e in let head : y ≡ x = cc in ap (λ z. z ∷ xs) head)
split_at (y ∷ xs) (suc n) x e = ap (λ zs. y ∷ zs) (split_at xs n x e)

pub gone_within : {X : Type 0} (P : X → Type 0) (xs : List X) (k : ℕ) → HasSome P (take k xs) → (j : ℕ) × (j < k) × (x : X) × (slice_get xs j ≡ Some x) × P x
gone_within P [] zero h = absurd h
gone_within P [] (suc k) h = absurd h
gone_within P (y ∷ xs) zero h = absurd h
gone_within P (y ∷ xs) (suc k) (inl p) = (0, omega arith, y, refl, p)
gone_within P (y ∷ xs) (suc k) (inr h) = (let found = gone_within P xs k h in let less = found.1 in (suc found.0, omega arith, found.2, found.3, found.4))

pub within_gone : {X : Type 0} (P : X → Type 0) (xs : List X) (k j : ℕ) (x : X) → j < k → slice_get xs j ≡ Some x → P x → HasSome P (take k xs)
within_gone {X} P [] k j x less e p = (let no : None ≡ Some x = e in cc)
within_gone P (y ∷ xs) zero j x less e p = absurd (omega arith)
within_gone P (y ∷ xs) (suc k) zero x less e p = inl (let same : Some y ≡ Some x = e in let head : y ≡ x = cc in subst P (sym head) p)
within_gone P (y ∷ xs) (suc k) (suc j) x less e p = inr (within_gone P xs k j x (omega arith) e p)

-- ---- the map

pub no_turn : (turns : Turns) → turns.turns.entries ≡ [] → (t i : ℕ) → row_turn turns t i ≡ None
unfolding row_turn
no_turn turns none t i = rw none refl

pub takes_turn : (old new : Turns) (t i k : ℕ) → ((q : ℕ × ℕ) → get pair_cmp new.turns q ≡ cond (is_eq (pair_cmp (t, i) q)) (Some k) (get pair_cmp old.turns q)) → TakesTurn old new t i k
unfolding row_turn
takes_turn old new t i k h = record {
  here = h (t, i) ∙ ap (λ b. cond b (Some k) (get pair_cmp old.turns (t, i))) (pair_same t i t i refl refl);
  others = λ u j apart. by u j apart (is_eq (pair_cmp (t, i) (u, j))) refl (h (u, j));
}
  where
    by : (u j : ℕ) → ¬ ((u ≡ t) × (j ≡ i)) → (b : Bool) → is_eq (pair_cmp (t, i) (u, j)) ≡ b → get pair_cmp new.turns (u, j) ≡ cond b (Some k) (get pair_cmp old.turns (u, j)) → get pair_cmp new.turns (u, j) ≡ get pair_cmp old.turns (u, j)
    by u j apart true e f = absurd (let same = same_pair t i u j e in apart (sym same.0, sym same.1))
    by u j apart false e f = f

-- ---- one turn more

same_row : (t i u j : ℕ) → ((t ≡ u) × (i ≡ j)) ⊎ (¬ ((t ≡ u) × (i ≡ j)))
same_row t i u j = elim (eqb_tells t u) [
  | inl a ↦ elim (eqb_tells i j) [ inl b ↦ inl (a.1, b.1) | inr b ↦ inr (λ same. b.1 same.1) ]
  | inr a ↦ inr (λ same. a.1 same.0)
]

pub no_turns : (removals : List Removal) (turns : Turns) → ((t i : ℕ) → row_turn turns t i ≡ None) → AreFirstTurns removals 0 turns
no_turns removals turns none t i k = ((λ h. let no : None ≡ Some k = sym (none t i) ∙ h in cc), (λ h. absurd (let less = h.0 in omega arith)))

module _ (D : Data) (removals : List Removal) (n : ℕ) (removal : Removal) (old new : Turns) (read : slice_get removals n ≡ Some removal) (before : AreFirstTurns removals n old) where
  module _ (taken : HasTaken D removal old new n) where
    own_turn : (k : ℕ) → (row_turn new taken.t taken.i ≡ Some k) ↔ ((k < n + 1) × IsTurn removals taken.t taken.i k)
    own_turn k = (
      (λ h.
          let one : Some n ≡ Some k = sym taken.takes.here ∙ h in
          let same : n ≡ k = cc in
          subst (λ (m : ℕ). (m < n + 1) × IsTurn removals taken.t taken.i m) same (omega arith, (removal, read, taken.of_row))),
      (λ h. elim (eqb_tells k n) [
        | inl e ↦ subst (λ (m : ℕ). row_turn new taken.t taken.i ≡ Some m) (sym e.1) taken.takes.here
        | inr e ↦
            (let apart : k ≡ n → ⊥ = e.1 in
            let less = h.0 in
            let had : row_turn old taken.t taken.i ≡ Some k = (before taken.t taken.i k).1 (omega arith, h.1) in
            let no : None ≡ Some k = sym taken.free ∙ had in
            cc)
      ]),
    )

    other_turn : (t i k : ℕ) → ¬ ((t ≡ taken.t) × (i ≡ taken.i)) → (row_turn new t i ≡ Some k) ↔ ((k < n + 1) × IsTurn removals t i k)
    other_turn t i k apart = (
      (λ h. let was = (before t i k).0 (sym (taken.takes.others t i apart) ∙ h) in let less = was.0 in (omega arith, was.1)),
      (λ h. elim (eqb_tells k n) [
        | inl e ↦
            (let one : Some removal ≡ Some h.1.0 = sym read ∙ ap (slice_get removals) (sym e.1) ∙ h.1.1 in
            let same : h.1.0 ≡ removal = cc in
            let of_row : IsOf t i removal = subst (IsOf t i) same h.1.2 in
            absurd (apart (same_number t taken.t removal.table of_row.0 taken.of_row.0, same_number i taken.i removal.row of_row.1 taken.of_row.1)))
        | inr e ↦ (let late : k ≡ n → ⊥ = e.1 in let less = h.0 in taken.takes.others t i apart ∙ (before t i k).1 (omega arith, h.1))
      ]),
    )

    pub turns_on : AreFirstTurns removals (n + 1) new
    turns_on t i k = elim (same_row t i taken.t taken.i) [
      | inl same ↦ subst {A = ℕ × ℕ} (λ (q : ℕ × ℕ). (row_turn new q.0 q.1 ≡ Some k) ↔ ((k < n + 1) × IsTurn removals q.0 q.1 k)) (sym {A = ℕ × ℕ} (λ z. (same.0 z, same.1 z))) (own_turn k)
      | inr apart ↦ other_turn t i k apart
    ]

  pub refused_turn : CannotTake D removal old → ¬ IsCertificate D removals
  refused_turn cannot h =
      let due = (h.chain (take n removals) (drop (suc n) removals) removal (split_at removals n removal read)).1 in
      let has = cannot due.t due.i due.of_row due.is_row in
      let turn = (before due.t due.i has.0).0 has.1 in
      due.left (within_gone (IsOf due.t due.i) removals n has.0 turn.1.0 turn.0 turn.1.1 turn.1.2)

pub all_turns : (removals : List Removal) (n : ℕ) (turns : Turns) → length removals ≤ n → AreFirstTurns removals n turns → AreTurns removals turns
all_turns removals n turns whole first t i k = (
  (λ h. ((first t i k).0 h).1),
  (λ h. let below = slice_get_within removals k h.0 h.1 in (first t i k).1 (omega arith, h)),
)

-- ---- rows that exist

abbrev pub ExistBefore : Data → List Removal → ℕ → Type 0
ExistBefore D removals n = (k : ℕ) (removal : Removal) → k < n → slice_get removals k ≡ Some removal → (t i : ℕ) × IsOf t i removal × (t < length D.tables) × IsRow D t i

pub none_before : (D : Data) (removals : List Removal) → ExistBefore D removals 0
none_before D removals k removal less read = absurd (omega arith)

pub exist_on : (D : Data) (removals : List Removal) (n : ℕ) (removal : Removal) (old new : Turns) → slice_get removals n ≡ Some removal → ExistBefore D removals n → HasTaken D removal old new n → ExistBefore D removals (n + 1)
exist_on D removals n removal old new read before taken k other less there = elim (eqb_tells k n) [
  | inl e ↦
      (let one : Some removal ≡ Some other = sym read ∙ ap (slice_get removals) (sym e.1) ∙ there in
      let same : removal ≡ other = cc in
      (taken.t, taken.i, subst (IsOf taken.t taken.i) same taken.of_row, taken.in_table, taken.is_row))
  | inr e ↦ (let apart : k ≡ n → ⊥ = e.1 in before k other (omega arith) there)
]

pub exist_all : (D : Data) (removals : List Removal) (n : ℕ) → length removals ≤ n → ExistBefore D removals n → RowsExist D removals
exist_all D removals n whole before removal among = (let found = index_of_item removal removals among in let below = found.1 in before found.0 removal (omega arith) found.2)

-- ---- rows that are left at a turn

module _ (removals : List Removal) (turns : Turns) (exact : AreTurns removals turns) where
  pub left_without : (t i k : ℕ) → row_turn turns t i ≡ None → IsLeft (take k removals) t i
  left_without t i k none gone =
      let found = gone_within (IsOf t i) removals k gone in
      let has : row_turn turns t i ≡ Some found.0 = (exact t i found.0).1 (found.2, found.3, found.4) in
      let no : None ≡ Some found.0 = sym none ∙ has in
      cc

  pub gone_after : (t i k turn : ℕ) → row_turn turns t i ≡ Some turn → turn < k → ¬ IsLeft (take k removals) t i
  gone_after t i k turn has less left = (let at = (exact t i turn).0 has in left (within_gone (IsOf t i) removals k turn at.0 less at.1 at.2))

  pub left_until : (t i k turn : ℕ) → row_turn turns t i ≡ Some turn → k ≤ turn → IsLeft (take k removals) t i
  left_until t i k turn has more gone =
      let found = gone_within (IsOf t i) removals k gone in
      let again : row_turn turns t i ≡ Some found.0 = (exact t i found.0).1 (found.2, found.3, found.4) in
      let one : Some turn ≡ Some found.0 = sym has ∙ again in
      let same : turn ≡ found.0 = cc in
      let less = found.1 in
      omega arith
