-- Lists that are compared item by item.
use Rattle.std.proofs.Common.{◌≡◌, ◌∙◌, ◌+◌, ◌<◌, ◌++◌, ℕ, List, [], ◌∷◌, length, take, get_or, sym, ap, arith}
use Rattle.std.proofs.lemmas.List.{take_all, take_more}
use Rattle.table_csv.proofs.Zips.{one_read}

pub same_more : {X : Type 0} (xs ys : List X) (i : ℕ) (x y : X) → i < length xs → length xs ≡ length ys → x ≡ get_or xs i x → y ≡ get_or ys i y → take i xs ≡ take i ys → x ≡ y → take (i + 1) xs ≡ take (i + 1) ys
same_more xs ys i x y lt long e f h r =
    let below : i < length ys = omega arith in
    rw (take_more xs i x lt, take_more ys i y below, ← e, ← f) (λ k. h k ++ r k ∷ [])

pub not_same : {X : Type 0} (xs ys : List X) (i : ℕ) (x y : X) → i < length xs → length xs ≡ length ys → x ≡ get_or xs i x → y ≡ get_or ys i y → (x ≡ y → ⊥) → ¬ (xs ≡ ys)
not_same xs ys i x y lt long e f other h = other (e ∙ ap (λ zs. get_or zs i x) h ∙ one_read ys i x y (omega arith) ∙ sym f)

pub same_all : {X : Type 0} (xs ys : List X) (i : ℕ) → length xs ≡ length ys → length xs ≡ i → take i xs ≡ take i ys → xs ≡ ys
same_all xs ys i long end h =
    let first = take_all i xs (omega arith) in
    let second = take_all i ys (omega arith) in
    sym first ∙ h ∙ second
