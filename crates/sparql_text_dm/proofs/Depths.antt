-- How deep the tokens are that were passed.
use Rattle.std.proofs.Common.{◌≡◌, ◌∙◌, ◌+◌, ◌-◌, suc, cond, ◌≤◌, ◌++◌, ◌⊎◌, ℕ, Bool, true, false, List, [], ◌∷◌, length, Option, Some, None, ap, append_assoc, arith, inl, inr, refl, subst, sym}
use Rattle.std.specs.Prelude.{◌&&◌, nat_le, take}
use Rattle.std.proofs.lemmas.Bool.{leb-true}
use Rattle.std.proofs.lemmas.Bool.Decides.{nat_tests}
use Rattle.std.proofs.lemmas.List.{append-nil}
use Rattle.sparql_tokens_dm.specs.declared.token.Placed.{Placed}
use Rattle.sparql_text_dm.specs.Depth.{IsCut, IsShallow, IsTooNested, closes, depth, depth_from, opens, past}

-- the tokens that were passed, before the rest
pub record Passed (tokens : List Placed) (kept count : ℕ) (rest : List Placed) : Type 0 where
  pub front : List Placed
  pub whole : tokens ≡ front ++ rest
  pub many : kept ≡ length front
  pub deep : count ≡ depth front
  pub shallow : IsShallow front
  pub few : count ≤ 2048

no_split : (before after : List Placed) (t : Placed) → [] ≡ before ++ t ∷ after → ⊥
no_split [] after t e = absurd cc
no_split (b ∷ before) after t e = absurd cc

pub passed_begins : (tokens : List Placed) → Passed tokens 0 0 tokens
passed_begins tokens = record { front = []; whole = refl; many = refl; deep = refl; shallow = λ before after t e. absurd (no_split before after t e); few = omega arith }

depth_behind : (n : ℕ) (front : List Placed) (t : Placed) → depth_from n (front ++ t ∷ []) ≡ past t (depth_from n front)
depth_behind n [] t = refl
depth_behind n (u ∷ front) t = depth_behind (past u n) front t

heads_same : (a b : Placed) (xs ys : List Placed) → a ∷ xs ≡ b ∷ ys → (a ≡ b) × (xs ≡ ys)
heads_same a b xs ys e = (cc, cc)

-- a token behind the last one, or one before it
last_or_before : (front before after : List Placed) (t u : Placed) → front ++ t ∷ [] ≡ before ++ u ∷ after → ((before ≡ front) × (u ≡ t)) ⊎ ((more : List Placed) × (front ≡ before ++ u ∷ more))
last_or_before [] [] after t u e = inl (refl, sym (heads_same t u [] after e).0)
last_or_before [] (b ∷ before) after t u e = absurd (no_split before after u (heads_same t b [] (before ++ u ∷ after) e).1)
last_or_before (f ∷ front) [] after t u e = let s = heads_same f u (front ++ t ∷ []) after e in inr (front, ap (λ x. x ∷ front) s.0)
last_or_before (f ∷ front) (b ∷ before) after t u e =
    let s = heads_same f b (front ++ t ∷ []) (before ++ u ∷ after) e in
    elim (last_or_before front before after t u s.1) [
      | inl h ↦ inl (ap (λ x. b ∷ x) h.0 ∙ ap (λ x. x ∷ front) (sym s.0), h.1)
      | inr h ↦ inr (h.0, ap (λ x. x ∷ front) s.0 ∙ ap (λ x. b ∷ x) h.1)
    ]

true_false : {W : Type 0} (b : Bool) → b ≡ true → b ≡ false → W
true_false b d e = absurd cc

both_of : (x y : Bool) → (x && y) ≡ true → (x ≡ true) × (y ≡ true)
both_of true y e = (refl, e)
both_of false y e = absurd cc

le_tells : (m n : ℕ) → m ≤ n → nat_le m n ≡ true
le_tells m n h = grind (arith, nat_tests)

both_true : (x y : Bool) → x ≡ true → y ≡ true → (x && y) ≡ true
both_true x y d e = rw (d, e) refl

not_too_deep : (front : List Placed) (t : Placed) (count : ℕ) → count ≡ depth front → (nat_le 2048 count && opens t) ≡ false → ¬ IsTooNested front t
not_too_deep front t count is e h =
    true_false (nat_le 2048 count && opens t) (both_true (nat_le 2048 count) (opens t) (le_tells 2048 count (subst (λ (n : ℕ). 2048 ≤ n) (sym is) h.1)) h.0) e

past_few : (t : Placed) (count : ℕ) → count ≤ 2048 → (nat_le 2048 count && opens t) ≡ false → past t count ≤ 2048
past_few t count few e = by_open (opens t) (closes t) e
  where
    by_open : (a b : Bool) → (nat_le 2048 count && a) ≡ false → cond a (suc count) (cond b (count - 1) count) ≤ 2048
    by_open true b h = grind (arith, nat_tests)
    by_open false true h = omega (arith, few)
    by_open false false h = few

pub passed_on : (tokens : List Placed) (kept more count : ℕ) (next : ℕ) (rest behind : List Placed) (t : Placed) → Passed tokens kept count rest → rest ≡ t ∷ behind → (nat_le 2048 count && opens t) ≡ false
    → next ≡ past t count → more ≡ kept + 1 → Passed tokens more next behind
passed_on tokens kept more count next rest behind t p is fits told one = record {
  front = p.front ++ t ∷ [];
  whole = p.whole ∙ ap (λ (us : List Placed). p.front ++ us) is ∙ sym (append_assoc p.front (t ∷ []) behind);
  many = one ∙ ap (λ n. n + 1) p.many ∙ sym (length_behind p.front t);
  deep = told ∙ ap (past t) p.deep ∙ sym (depth_behind 0 p.front t);
  shallow = λ before after u e h. elim (last_or_before p.front before after t u e) [
    | inl k ↦ not_too_deep p.front t count p.deep fits (subst (λ (x : Placed). IsTooNested p.front x) k.1 (subst (λ (b : List Placed). IsTooNested b u) k.0 h))
    | inr k ↦ p.shallow before k.0 u k.1 h
  ];
  few = subst (λ (n : ℕ). n ≤ 2048) (sym told) (past_few t count p.few fits);
}
  where
    length_behind : (front : List Placed) (u : Placed) → length (front ++ u ∷ []) ≡ length front + 1
    length_behind [] u = refl
    length_behind (f ∷ front) u = let more = length_behind front u in omega (arith, more)

taken : (front rest : List Placed) → take (length front) (front ++ rest) ≡ front
taken [] rest = refl
taken (f ∷ front) rest = ap (λ (us : List Placed). f ∷ us) (taken front rest)

pub passed_cut : (tokens : List Placed) (kept count : ℕ) (rest behind part : List Placed) (t : Placed) → Passed tokens kept count rest → rest ≡ t ∷ behind → (nat_le 2048 count && opens t) ≡ true
    → part ≡ take kept tokens → IsCut tokens part (Some t.place)
passed_cut tokens kept count rest behind part t p is deep cut =
    let both = both_of (nat_le 2048 count) (opens t) deep in
    let same : part ≡ p.front = cut ∙ ap (λ n. take n tokens) p.many ∙ ap (take (length p.front)) p.whole ∙ taken p.front rest in
    subst (λ (front : List Placed). IsCut tokens front (Some t.place)) (sym same)
    (t, behind, p.whole ∙ ap (λ (us : List Placed). p.front ++ us) is, p.shallow, (both.1, subst (λ (n : ℕ). 2048 ≤ n) p.deep (leb-true 2048 count both.0)), refl)

pub passed_all : (tokens : List Placed) (kept count : ℕ) (rest : List Placed) → Passed tokens kept count rest → length rest ≡ 0 → IsCut tokens tokens None
passed_all tokens kept count rest p e =
    (refl, subst (λ (us : List Placed). IsShallow us) (sym (p.whole ∙ ap (λ (us : List Placed). p.front ++ us) (nothing rest e) ∙ append-nil p.front)) p.shallow)
  where
    nothing : (us : List Placed) → length us ≡ 0 → us ≡ []
    nothing [] h = refl
    nothing (u ∷ us) h = absurd (omega (arith, h))

-- there is one cut
pub one_cut : (tokens a b : List Placed) (at end : Option ℕ) → IsCut tokens a at → IsCut tokens b end → (a ≡ b) × (at ≡ end)
one_cut tokens a b None None h k = (h.0 ∙ sym k.0, refl)
one_cut tokens a b None (Some p) h k = absurd (h.1 b k.1 k.0 k.2 k.4)
one_cut tokens a b (Some p) None h k = absurd (k.1 a h.1 h.0 h.2 h.4)
one_cut tokens a b (Some p) (Some q) h k =
    let same = one_split a b h.1 k.1 h.0 k.0 h.3 k.3 h.4 k.4 (sym h.2 ∙ k.2) in
    (same.0, ap (λ n. a_place n) (h.5 ∙ ap (λ (t : Placed). t.place) same.1 ∙ sym k.5))
  where
    a_place : ℕ → Option ℕ
    a_place n = Some n

    splits : (a b xs ys : List Placed) (t u : Placed) → a ++ t ∷ xs ≡ b ++ u ∷ ys → ((a ≡ b) × (t ≡ u)) ⊎ (((m : List Placed) × (b ≡ a ++ t ∷ m)) ⊎ ((m : List Placed) × (a ≡ b ++ u ∷ m)))
    splits [] [] xs ys t u e = inl (refl, (heads_same t u xs ys e).0)
    splits [] (c ∷ b) xs ys t u e = inr (inl (b, ap (λ x. x ∷ b) (sym (heads_same t c xs (b ++ u ∷ ys) e).0)))
    splits (c ∷ a) [] xs ys t u e = inr (inr (a, ap (λ x. x ∷ a) (heads_same c u (a ++ t ∷ xs) ys e).0))
    splits (c ∷ a) (d ∷ b) xs ys t u e =
        let s = heads_same c d (a ++ t ∷ xs) (b ++ u ∷ ys) e in
        elim (splits a b xs ys t u s.1) [
          | inl h ↦ inl (ap (λ x. c ∷ x) h.0 ∙ ap (λ x. x ∷ b) s.0, h.1)
          | inr h ↦ inr (elim h [
            | inl m ↦ inl (m.0, ap (λ x. d ∷ x) m.1 ∙ ap (λ x. x ∷ (a ++ t ∷ m.0)) (sym s.0))
            | inr m ↦ inr (m.0, ap (λ x. c ∷ x) m.1 ∙ ap (λ x. x ∷ (b ++ u ∷ m.0)) s.0)
          ])
        ]

    one_split : (a b xs ys : List Placed) (t u : Placed) → IsShallow a → IsShallow b → IsTooNested a t → IsTooNested b u → a ++ t ∷ xs ≡ b ++ u ∷ ys → (a ≡ b) × (t ≡ u)
    one_split a b xs ys t u sa sb da db e = elim (splits a b xs ys t u e) [
      | inl h ↦ h
      | inr h ↦ elim h [
        | inl m ↦ absurd (sb a m.0 t m.1 da)
        | inr m ↦ absurd (sa b m.0 u m.1 db)
      ]
    ]
