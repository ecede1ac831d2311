-- Names in strictly rising order.
use Rattle.std.proofs.Common.{◌≡◌, ◌∙◌, ℕ, zero, suc, ◌+◌, ◌-◌, ◌<◌, ◌≤◌, List, [], ◌∷◌, map, length, drop, get_or, refl, sym, ap, subst, inl, arith, encode_utf8_all}
use Rattle.std.specs.Cmp.{nat_cmp_total}
use Rattle.std.specs.Cmp.Lexicographic.{lists_total}
use Rattle.std.proofs.lemmas.List.{drop_more, length-drop}
use Rattle.members_dm.specs.Membership.{IsRising}
use Rattle.members_dm.proofs.ElementsLemmas.{IsRising-cons}
use Rattle.schema_dm.specs.Naming.{Name}
use Rattle.schema_dm.specs.Shapes.{IsBefore}

pub before_chain : (x y z : Name) → IsBefore x y → IsBefore y z → IsBefore x z
unfolding IsBefore
before_chain x y z a b = (lists_total nat_cmp_total).trans (encode_utf8_all x) (encode_utf8_all y) (encode_utf8_all z) a b

module _ {X : Type 0} (f : X → Name) (xs : List X) where
  abbrev Rise : ℕ → Type 0
  Rise k = IsRising IsBefore (map f (drop k xs))

  rest_rises : (ys : List X) (k : ℕ) → IsRising IsBefore (map f ys) → IsRising IsBefore (map f (drop k ys))
  rest_rises ys zero h = h
  rest_rises [] (suc k) h = h
  rest_rises (y ∷ ys) (suc k) h = rest_rises ys k h.1

  module _ (i : ℕ) (x y : X) (one : 1 ≤ i) (below : i < length xs) (is_x : x ≡ get_or xs (i - 1) x) (is_y : y ≡ get_or xs i y) where
    rest_from_before : drop (i - 1) xs ≡ x ∷ drop i xs
    rest_from_before =
        let within : i - 1 < length xs = omega arith in
        let next : i - 1 + 1 ≡ i = omega arith in
        drop_more xs (i - 1) x within ∙ (λ j. sym is_x j ∷ drop (next j) xs)

    rest_from_here : drop i xs ≡ y ∷ drop (i + 1) xs
    rest_from_here = drop_more xs i y below ∙ ap (λ z. z ∷ drop (i + 1) xs) (sym is_y)

    pub rises_on : (name other : Name) → name ≡ f x → other ≡ f y → IsBefore name other → (Rise (i - 1) → IsRising IsBefore (map f xs)) → Rise (i + 1 - 1) → IsRising IsBefore (map f xs)
    rises_on name other is_name is_other before so_far rest =
        let b : IsBefore (f x) (f y) = rw (is_name, is_other) at before in
        let same : i + 1 - 1 ≡ i = omega arith in
        let here : Rise i = subst Rise same rest in
        let listed : IsRising IsBefore (f y ∷ map f (drop (i + 1) xs)) = subst (λ zs. IsRising IsBefore (map f zs)) rest_from_here here in
        let longer : IsRising IsBefore (f x ∷ f y ∷ map f (drop (i + 1) xs)) = IsRising-cons IsBefore before_chain (f x) (f y) (map f (drop (i + 1) xs)) b listed in
        so_far (subst (λ zs. IsRising IsBefore (map f zs)) (sym (rest_from_before ∙ ap (λ zs. x ∷ zs) rest_from_here)) longer)

    pub rises_no_more : (name other : Name) → name ≡ f x → other ≡ f y → ¬ IsBefore name other → ¬ IsRising IsBefore (map f xs)
    rises_no_more name other is_name is_other n h =
        let rest : IsRising IsBefore (f x ∷ f y ∷ map f (drop (i + 1) xs)) =
        subst (λ zs. IsRising IsBefore (map f zs)) (rest_from_before ∙ ap (λ zs. x ∷ zs) rest_from_here) (rest_rises xs (i - 1) h) in
        n (rw (is_name, is_other) (rest.0 (f y) (inl refl)))

  short_rises : (ys : List X) → length ys ≤ 1 → IsRising IsBefore (map f ys)
  short_rises [] h = tt
  short_rises (y ∷ []) h = ((λ z k. absurd k), tt)
  short_rises (y ∷ z ∷ ys) h = absurd (omega arith)

  pub rises_to_end : (i : ℕ) → length xs ≤ i → (Rise (i - 1) → IsRising IsBefore (map f xs)) → IsRising IsBefore (map f xs)
  rises_to_end i past so_far = so_far (short_rises (drop (i - 1) xs) (let left : length (drop (i - 1) xs) ≡ length xs - (i - 1) = length-drop (i - 1) xs in omega arith))
