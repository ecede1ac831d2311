-- Texts with a space between each two.
use Rattle.std.proofs.Common.{◌≡◌, ◌<◌, ◌+◌, ℕ, zero, suc, List, [], ◌∷◌, ◌++◌, length, get_or, take, map, refl, sym, ap, ◌∙◌, arith, append_assoc}
use Rattle.std.proofs.lemmas.List.{length-map, take_more}
use Rattle.pattern_dm.specs.Texts.{gap, spaced}

spaced_push : (xs : List (List ℕ)) (y : List ℕ) → spaced (xs ++ y ∷ []) ≡ spaced xs ++ (gap (length xs) ++ y)
spaced_push [] y = refl
spaced_push (x ∷ []) y = refl
spaced_push (x ∷ z ∷ zs) y = ap (λ t. x ++ 32 ∷ t) (spaced_push (z ∷ zs) y) ∙ sym (append_assoc x (32 ∷ spaced (z ∷ zs)) (32 ∷ y))

pub spaced_more : {X : Type 0} (f : X → List ℕ) (xs : List X) (k : ℕ) (d : X) → k < length xs → spaced (map f (take (k + 1) xs)) ≡ spaced (map f (take k xs)) ++ (gap k ++ f (get_or xs k d))
spaced_more f xs k d l = ap (λ ys. spaced (map f ys)) (take_more xs k d l) ∙ ap spaced (map_push f (take k xs) (get_or xs k d)) ∙ spaced_push (map f (take k xs)) (f (get_or xs k d))
    ∙ ap (λ n. spaced (map f (take k xs)) ++ (gap n ++ f (get_or xs k d))) (length-map (take k xs) f ∙ length_front xs k l)
  where
    map_push : {X : Type 0} (f : X → List ℕ) (ys : List X) (y : X) → map f (ys ++ y ∷ []) ≡ map f ys ++ f y ∷ []
    map_push f [] y = refl
    map_push f (z ∷ zs) y = ap (λ ts. f z ∷ ts) (map_push f zs y)

    length_front : {X : Type 0} (xs : List X) (k : ℕ) → k < length xs → length (take k xs) ≡ k
    length_front [] k l = absurd (omega arith)
    length_front (x ∷ xs) zero l = refl
    length_front (x ∷ xs) (suc k) l = ap suc (length_front xs k (omega arith))

-- a text with one more piece
pub step : (start so_far now text piece same : List ℕ) → so_far ≡ start ++ text → now ≡ so_far ++ piece → piece ≡ same → now ≡ start ++ (text ++ same)
step start so_far now text piece same h e k = e ∙ ap (λ t. t ++ piece) h ∙ append_assoc start text piece ∙ ap (λ t. start ++ (text ++ t)) k
