-- The first conflict, and the verdict.
use Rattle.std.proofs.Common.{◌≡◌, ◌∙◌, ◌<◌, ◌≤◌, ◌+◌, ℕ, zero, suc, List, length, get_or, Some, None, Bool, true, false, not, refl, sym, ap, subst, inl, inr, ⊎_elim, arith}
use Rattle.std.specs.Prelude.{◌↔◌, slice_get}
use Rattle.std.proofs.lemmas.Bool.{cases_lt}
use Rattle.std.proofs.lemmas.Option.{slice_get-get_or}
use Rattle.members_dm.specs.Membership.{IsIn}
use Rattle.members_dm.proofs.ElementsLemmas.{index_of_item, item_at_index}
use Rattle.names_dm.specs.Statements.{Statement, is_literal}
use Rattle.consistency_dm.specs.Conflicts.{HasKind, IsConflict, IsFirstConflict, IsVerdict}
use Rattle.consistency_dm.specs.Interpretations.{HasInterpretation}
use Rattle.consistency_dm.specs.Ranges.{IsToldAs}
use Rattle.consistency_dm.specs.declared.verdict.ConflictKind.{ConflictKind}
use Rattle.consistency_dm.specs.declared.verdict.ConflictKind.TheVariants.{SameNode, Range}
use Rattle.consistency_dm.specs.declared.verdict.Verdict.{Verdict}
use Rattle.consistency_dm.specs.declared.verdict.Verdict.TheVariants.{Yes, Conflict}
use Rattle.consistency_dm.proofs.AskedRanges.{kept_out_of_range, out_of_range_kept}
use Rattle.consistency_dm.proofs.Interpreted.{interpretation, no_conflict}

pub not_literal : (b : Bool) → not b ≡ true → b ≡ false
not_literal true e = cc e
not_literal false e = refl

module _ (triples : List Statement) where
  conflict_by_kind : (x : Statement) (kind : ConflictKind) → HasKind triples x kind → IsConflict triples x
  conflict_by_kind x SameNode h = inl h
  conflict_by_kind x Range h = inr h.0

  one_kind : (x : Statement) (a b : ConflictKind) → HasKind triples x a → HasKind triples x b → a ≡ b
  one_kind x SameNode SameNode h k = refl
  one_kind x SameNode Range h k = absurd (k.1 h)
  one_kind x Range SameNode h k = absurd (h.1 k)
  one_kind x Range Range h k = refl

  -- the first conflict is one alone
  pub one_first : (n m : ℕ) (a b : ConflictKind) → IsFirstConflict triples n a → IsFirstConflict triples m b → (n ≡ m) × (a ≡ b)
  one_first n m a b f g = ⊎_elim
      (λ l. absurd (g.none_before f.place f.triple l f.stands (conflict_by_kind f.triple a f.is_conflict)))
      (λ l. ⊎_elim
      (λ k. absurd (f.none_before g.place g.triple k g.stands (conflict_by_kind g.triple b g.is_conflict)))
      (λ k.
      let same : f.place ≡ g.place = omega arith in
      let s : Some f.triple ≡ Some g.triple = sym f.stands ∙ ap (slice_get triples) same ∙ g.stands in
      let t : f.triple ≡ g.triple = cc in
      (f.counted ∙ ap (λ p. p + 1) same ∙ sym g.counted, one_kind g.triple a b (subst (λ (x : Statement). HasKind triples x a) t f.is_conflict) g.is_conflict))
      (cases_lt g.place f.place))
      (cases_lt f.place g.place)

  -- a list of which one triple is a conflict has no interpretation
  pub not_interpreted : (n : ℕ) (kind : ConflictKind) → IsFirstConflict triples n kind → ¬ HasInterpretation triples
  not_interpreted n kind f h = no_conflict triples h f.triple (item_at_index f.triple triples f.place f.stands) (conflict_by_kind f.triple kind f.is_conflict)

  -- the triples before the place are no conflicts
  abbrev pub AreFine : ℕ → Type 0
  AreFine place = (j : ℕ) (x : Statement) → j < place → slice_get triples j ≡ Some x → (is_literal x.subject ≡ false) × (¬ IsConflict triples x)

  pub fine_more : (place : ℕ) (x : Statement) → place < length triples → x ≡ get_or triples place x → is_literal x.subject ≡ false → IsToldAs triples x None → AreFine place → AreFine (place + 1)
  fine_more place x l e node told fine j y k s = ⊎_elim (λ m. fine j y m s) (λ m.
      let same : j ≡ place = omega arith in
      let t : Some x ≡ Some y = sym (slice_get-get_or triples place x l ∙ ap (λ z. Some z) (sym e)) ∙ ap (slice_get triples) (sym same) ∙ s in
      let u : x ≡ y = cc in
      subst (λ (z : Statement). (is_literal z.subject ≡ false) × (¬ IsConflict triples z)) u
      (node, (λ h. ⊎_elim (λ c. told.0 c) (λ c. told.1 (out_of_range_kept triples x (item_at_index x triples place (slice_get-get_or triples place x l ∙ ap (λ z. Some z) (sym e))) c)) h)))
      (cases_lt j place)

  told_kind : (x : Statement) (kind : ConflictKind) → IsToldAs triples x (Some kind) → HasKind triples x kind
  told_kind x SameNode h = h
  told_kind x Range h = (kept_out_of_range triples x h.0, h.1)

  first_here : (place : ℕ) (x : Statement) (kind : ConflictKind) → place < length triples → x ≡ get_or triples place x → IsToldAs triples x (Some kind) → AreFine place → IsFirstConflict triples (place + 1) kind
  first_here place x kind l e told fine = record {
    place = place;
    triple = x;
    counted = refl;
    stands = slice_get-get_or triples place x l ∙ ap (λ z. Some z) (sym e);
    is_conflict = told_kind x kind told;
    none_before = λ j y k s. (fine j y k s).1;
  }

  pub conflict_yes : (place : ℕ) (x : Statement) (kind : ConflictKind) → place < length triples → x ≡ get_or triples place x → IsToldAs triples x (Some kind) → AreFine place
      → (Conflict (place + 1) kind ≡ Yes) ↔ HasInterpretation triples
  conflict_yes place x kind l e told fine = ((λ q. cc q), (λ h. absurd (not_interpreted (place + 1) kind (first_here place x kind l e told fine) h)))

  pub conflict_told : (place : ℕ) (x : Statement) (kind : ConflictKind) → place < length triples → x ≡ get_or triples place x → IsToldAs triples x (Some kind) → AreFine place
      → (number : ℕ) (other : ConflictKind) → (Conflict (place + 1) kind ≡ Conflict number other) ↔ IsFirstConflict triples number other
  conflict_told place x kind l e told fine number other =
      let here = first_here place x kind l e told fine in (
        (λ q. let n : place + 1 ≡ number = cc in let k : kind ≡ other = cc in subst (λ m. IsFirstConflict triples m other) n (subst (IsFirstConflict triples (place + 1)) k here)),
        (λ f. let same = one_first (place + 1) number kind other here f in λ i. Conflict (same.0 i) (same.1 i)),
      )

  all_fine : (n : ℕ) → length triples ≤ n → AreFine n → (x : Statement) → IsIn x triples → (is_literal x.subject ≡ false) × (¬ IsConflict triples x)
  all_fine n l fine x i = let (k, m, s) = index_of_item x triples i in fine k x (omega arith) s

  pub yes_yes : (n : ℕ) → length triples ≤ n → AreFine n → (Yes ≡ Yes) ↔ HasInterpretation triples
  yes_yes n l fine = ((λ q. interpretation triples (λ x i. (all_fine n l fine x i).0) (λ x i. (all_fine n l fine x i).1)), (λ h. refl))

  pub yes_told : (n : ℕ) → length triples ≤ n → AreFine n → (number : ℕ) (kind : ConflictKind) → (Yes ≡ Conflict number kind) ↔ IsFirstConflict triples number kind
  yes_told n l fine number kind = (
    (λ q. cc q),
    (λ f. absurd ((all_fine n l fine f.triple (item_at_index f.triple triples f.place f.stands)).1 (conflict_by_kind f.triple kind f.is_conflict))),
  )

  -- ---- that there is a verdict

  -- where no verdict were right, none of the first n triples would be a conflict
  fine_below : ((v : Verdict) → ¬ IsVerdict triples v) → (n j : ℕ) (x : Statement) → j < n → slice_get triples j ≡ Some x → ¬ IsConflict triples x
  fine_below none zero j x l s c = let bad : ⊥ = omega arith in bad
  fine_below none (suc n) j x l s c = by_kind (λ k y m t. fine_below none n k y (omega arith) t) c
    where
      first : ((k : ℕ) (y : Statement) → k < j → slice_get triples k ≡ Some y → ¬ IsConflict triples y) → (kind : ConflictKind) → HasKind triples x kind → IsFirstConflict triples (j + 1) kind
      first before kind h = record { place = j; triple = x; counted = refl; stands = s; is_conflict = h; none_before = before }

      by_kind : ((k : ℕ) (y : Statement) → k < j → slice_get triples k ≡ Some y → ¬ IsConflict triples y) → IsConflict triples x → ⊥
      by_kind before (inl same) = none (Conflict (j + 1) SameNode) (first before SameNode same)
      by_kind before (inr out) = none (Conflict (j + 1) Range) (first before Range (out, λ same. none (Conflict (j + 1) SameNode) (first before SameNode same)))

  -- some verdict is right
  pub verdict_some : ((x : Statement) → IsIn x triples → is_literal x.subject ≡ false) → ¬ ((v : Verdict) → ¬ IsVerdict triples v)
  verdict_some good none =
      none Yes (interpretation triples good (λ x i. let (k, m, s) = index_of_item x triples i in fine_below none (length triples) k x m s))

  -- what `consistent` ensures of its verdict
  pub right_verdict : (v : Verdict) → (v ≡ Yes) ↔ HasInterpretation triples → ((number : ℕ) (kind : ConflictKind) → (v ≡ Conflict number kind) ↔ IsFirstConflict triples number kind) → IsVerdict triples v
  right_verdict Yes well conflict = well.0 refl
  right_verdict (Conflict number kind) well conflict = (conflict number kind).0 refl

-- the verdict is one alone
pub one_verdict : (triples : List Statement) (v w : Verdict) → IsVerdict triples v → IsVerdict triples w → v ≡ w
one_verdict triples Yes Yes h k = refl
one_verdict triples Yes (Conflict n kind) h k = absurd (not_interpreted triples n kind k h)
one_verdict triples (Conflict n kind) Yes h k = absurd (not_interpreted triples n kind h k)
one_verdict triples (Conflict n a) (Conflict m b) h k = let same = one_first triples n m a b h k in λ i. Conflict (same.0 i) (same.1 i)
