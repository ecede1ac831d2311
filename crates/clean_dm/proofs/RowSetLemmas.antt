-- Sets of rows over ordered sets of pairs.
use Rattle.std.proofs.Common.{◌≡◌, ◌∙◌, ◌⊎◌, ◌<◌, ℕ, Bool, true, false, cond, List, [], ◌∷◌, Option, Some, None, IfSome, IfNone, IsTrue, length, refl, sym, subst, inl, inr, arith}
use Rattle.std.specs.Prelude.{◌↔◌, IsSome}
use Rattle.std.specs.declared.cmp.Ordering.{Ordering}
use Rattle.std.specs.declared.cmp.Ordering.TheVariants.{Less, Equal, Greater}
use Rattle.std.specs.Ordering.{MatchOrdering, is_eq, is_gt, nat_cmp, ordering_then}
use Rattle.std.specs.BTreeSet.{Updates, contains}
use Rattle.std.specs.List.{list_any}
use Rattle.std.proofs.lemmas.Cmp.{ranked}
use Rattle.members_dm.specs.Places.{IsEarlier}
use Rattle.clean_dm.specs.RowSets.{Gains, Has, IsFirstOf, Loses, pair_cmp}
use Rattle.clean_dm.specs.declared.row_set.RowSet.{RowSet}

module _ (a b c d : ℕ) where
  tied : (o p : Ordering) → MatchOrdering o (a < c) (a ≡ c) (c < a) → MatchOrdering p (b < d) (b ≡ d) (d < b) → is_eq (ordering_then o p) ≡ true → (a ≡ c) × (b ≡ d)
  tied Less p m n h = cc
  tied Equal Less m n h = cc
  tied Equal Equal m n h = (m, n)
  tied Equal Greater m n h = cc
  tied Greater p m n h = cc

  tie : (o p : Ordering) → MatchOrdering o (a < c) (a ≡ c) (c < a) → MatchOrdering p (b < d) (b ≡ d) (d < b) → a ≡ c → b ≡ d → is_eq (ordering_then o p) ≡ true
  tie Less p m n e f = absurd (omega arith)
  tie Equal Less m n e f = absurd (omega arith)
  tie Equal Equal m n e f = refl
  tie Equal Greater m n e f = absurd (omega arith)
  tie Greater p m n e f = absurd (omega arith)

  not_above : (o p : Ordering) → MatchOrdering o (a < c) (a ≡ c) (c < a) → MatchOrdering p (b < d) (b ≡ d) (d < b) → is_gt (ordering_then o p) ≡ false → ¬ IsEarlier (c ∷ d ∷ []) (a ∷ b ∷ [])
  not_above Less p m n h (inl less) = omega arith
  not_above Less p m n h (inr same) = (let e = same.0 in omega arith)
  not_above Equal Less m n h (inl less) = omega arith
  not_above Equal Less m n h (inr same) = elim same.1 [ inl less ↦ omega arith | inr both ↦ both.1 ]
  not_above Equal Equal m n h (inl less) = omega arith
  not_above Equal Equal m n h (inr same) = elim same.1 [ inl less ↦ omega arith | inr both ↦ both.1 ]
  not_above Equal Greater m n h k = (let no : true ≡ false = h in cc)
  not_above Greater p m n h k = (let no : true ≡ false = h in cc)

  pub same_pair : is_eq (pair_cmp (a, b) (c, d)) ≡ true → (a ≡ c) × (b ≡ d)
  same_pair = tied (nat_cmp a c) (nat_cmp b d) (ranked a c (nat_cmp a c) refl) (ranked b d (nat_cmp b d) refl)

  pub pair_same : a ≡ c → b ≡ d → is_eq (pair_cmp (a, b) (c, d)) ≡ true
  pair_same = tie (nat_cmp a c) (nat_cmp b d) (ranked a c (nat_cmp a c) refl) (ranked b d (nat_cmp b d) refl)

  pub not_earlier : is_gt (pair_cmp (a, b) (c, d)) ≡ false → ¬ IsEarlier (c ∷ d ∷ []) (a ∷ b ∷ [])
  not_earlier = not_above (nat_cmp a c) (nat_cmp b d) (ranked a c (nat_cmp a c) refl) (ranked b d (nat_cmp b d) refl)

module _ (old new : RowSet) (t i : ℕ) where
  pub gains : ((q : ℕ × ℕ) → contains pair_cmp new.pairs q ≡ cond (is_eq (pair_cmp (t, i) q)) true (contains pair_cmp old.pairs q)) → Gains old new t i
  unfolding Has
  gains h = record { each = λ u j. by u j (is_eq (pair_cmp (t, i) (u, j))) refl (h (u, j)) }
    where
      by : (u j : ℕ) (b : Bool) → is_eq (pair_cmp (t, i) (u, j)) ≡ b → contains pair_cmp new.pairs (u, j) ≡ cond b true (contains pair_cmp old.pairs (u, j)) → IsTrue (contains pair_cmp new.pairs (u, j)) ↔ (IsTrue (contains pair_cmp old.pairs (u, j)) ⊎ ((u ≡ t) × (j ≡ i)))
      by u j true e f = (let same = same_pair t i u j e in ((λ k. inr (sym same.0, sym same.1)), (λ k. f)))
      by u j false e f = (
        (λ k. inl (sym f ∙ k)),
        (λ k. elim k [ inl here ↦ f ∙ here | inr same ↦ (let yes = pair_same t i u j (sym same.0) (sym same.1) in let no : false ≡ true = sym e ∙ yes in cc) ]),
      )

  pub loses : ((q : ℕ × ℕ) → contains pair_cmp new.pairs q ≡ cond (is_eq (pair_cmp (t, i) q)) false (contains pair_cmp old.pairs q)) → Loses old new t i
  unfolding Has
  loses h = record { each = λ u j. by u j (is_eq (pair_cmp (t, i) (u, j))) refl (h (u, j)) }
    where
      by : (u j : ℕ) (b : Bool) → is_eq (pair_cmp (t, i) (u, j)) ≡ b → contains pair_cmp new.pairs (u, j) ≡ cond b false (contains pair_cmp old.pairs (u, j)) → IsTrue (contains pair_cmp new.pairs (u, j)) ↔ (IsTrue (contains pair_cmp old.pairs (u, j)) × (¬ ((u ≡ t) × (j ≡ i))))
      by u j true e f = (
        (λ k. absurd (let no : false ≡ true = sym f ∙ k in cc)),
        (λ k. absurd (let same = same_pair t i u j e in k.1 (sym same.0, sym same.1))),
      )
      by u j false e f = (
        (λ k. (sym f ∙ k, (λ same. let yes = pair_same t i u j (sym same.0) (sym same.1) in let no : false ≡ true = sym e ∙ yes in cc))),
        (λ k. f ∙ k.0),
      )

  pub first_of : IsTrue (contains pair_cmp old.pairs (t, i)) → ((q : ℕ × ℕ) → IsTrue (contains pair_cmp old.pairs q) → is_gt (pair_cmp (t, i) q) ≡ false) → IsFirstOf old t i
  unfolding Has
  first_of there least = record { there = there; first = λ u j h. not_earlier t i u j (least (u, j) h) }

pub none_there : (set : RowSet) → set.pairs.keys ≡ [] → (t i : ℕ) → ¬ Has set t i
unfolding Has
none_there set none t i h = (let no : IsTrue (list_any (λ (k : ℕ × ℕ). is_eq (pair_cmp (t, i) k)) []) = subst (λ (ks : List (ℕ × ℕ)). IsTrue (list_any (λ (k : ℕ × ℕ). is_eq (pair_cmp (t, i) k)) ks)) none h in let bad : false ≡ true = no in cc)

-- what the ordered set says of its first key
pub first_clause : (old : RowSet) (r : Option (ℕ × ℕ)) → IfSome r (λ k. IsTrue (contains pair_cmp old.pairs k)) → IfSome r (λ k. (q : ℕ × ℕ) → IsTrue (contains pair_cmp old.pairs q) → is_gt (pair_cmp k q) ≡ false) → IfSome r (λ spot. IsFirstOf old spot.0 spot.1)
first_clause old None h k = tt
first_clause old (Some spot) h k = first_of old old spot.0 spot.1 h k

pub rest_clause : (old new : RowSet) (r : Option (ℕ × ℕ)) → IfSome r (λ k. (q : ℕ × ℕ) → contains pair_cmp new.pairs q ≡ cond (is_eq (pair_cmp k q)) false (contains pair_cmp old.pairs q)) → IfSome r (λ spot. Loses old new spot.0 spot.1)
rest_clause old new None h = tt
rest_clause old new (Some spot) h = loses old new spot.0 spot.1 h

empty_list : {X : Type 0} (xs : List X) → ¬ (0 < length xs) → xs ≡ []
empty_list [] h = refl
empty_list (x ∷ xs) h = absurd (h (omega arith))

no_some : ¬ IsSome {T = ℕ × ℕ} None
no_some h = (let bad : false ≡ true = h in cc)

pub none_clause : (old : RowSet) (r : Option (ℕ × ℕ)) → IsSome r ↔ (0 < length old.pairs.keys) → IfNone r ((t i : ℕ) → ¬ Has old t i)
none_clause old None h = none_there old (empty_list old.pairs.keys (λ k. no_some (h.1 k)))
none_clause old (Some spot) h = tt

pub updated : (old new : RowSet) (r : Option (ℕ × ℕ)) → IfSome r (λ k. Updates pair_cmp old.pairs new.pairs k false) → IfSome r (λ k. (q : ℕ × ℕ) → contains pair_cmp new.pairs q ≡ cond (is_eq (pair_cmp k q)) false (contains pair_cmp old.pairs q))
updated old new None h = tt
updated old new (Some k) h = h.0
