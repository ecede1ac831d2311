-- Two lists whose items belong together place by place.
use Rattle.std.proofs.Common.{◌≡◌, ◌+◌, ◌<◌, ℕ, zero, suc, List, [], ◌∷◌, ◌++◌, length, take, get_or, refl, ap, sym, subst, arith}
use Rattle.std.specs.List.{AllZip}
use Rattle.std.proofs.lemmas.List.{take_more, take_all}
use Rattle.std.proofs.lemmas.Slice.Zip.{all_zipped_more}

-- the items at one more place
pub zipped_more : {A B : Type 0} (R : A → B → Type 0) (xs : List A) (ys : List B) (i : ℕ) (x : A) (y : B) → i < length xs → length xs ≡ length ys → x ≡ get_or xs i x → y ≡ get_or ys i y
    → AllZip R (take i xs) (take i ys) → R x y → AllZip R (take (i + 1) xs) (take (i + 1) ys)
zipped_more R xs ys i x y lt same e f h r =
    let below : i < length ys = omega arith in
    rw (take_more xs i x lt, take_more ys i y below, ← e, ← f) (all_zipped_more R (take i xs) (take i ys) x y h r)

pub zipped_all : {A B : Type 0} (R : A → B → Type 0) (xs : List A) (ys : List B) (i : ℕ) → length xs ≡ length ys → length xs ≡ i → AllZip R (take i xs) (take i ys) → AllZip R xs ys
zipped_all R xs ys i same e h =
    let first = take_all i xs (omega arith) in
    let second = take_all i ys (omega arith) in
    rw (first, second) at h

pub zipped_length : {A B : Type 0} (R : A → B → Type 0) (xs : List A) (ys : List B) → AllZip R xs ys → length xs ≡ length ys
zipped_length R [] [] h = refl
zipped_length R [] (y ∷ ys) h = absurd h
zipped_length R (x ∷ xs) [] h = absurd h
zipped_length R (x ∷ xs) (y ∷ ys) h = ap suc (zipped_length R xs ys h.1)

pub zipped_at : {A B : Type 0} (R : A → B → Type 0) (xs : List A) (ys : List B) (i : ℕ) (x : A) (y : B) → AllZip R xs ys → i < length xs → R (get_or xs i x) (get_or ys i y)
zipped_at R [] ys i x y h lt = absurd (omega arith)
zipped_at R (a ∷ xs) [] i x y h lt = absurd h
zipped_at R (a ∷ xs) (b ∷ ys) zero x y h lt = h.0
zipped_at R (a ∷ xs) (b ∷ ys) (suc i) x y h lt = zipped_at R xs ys i x y h.1 (omega arith)

-- items that don't belong together
pub zipped_not : {A B : Type 0} (R : A → B → Type 0) (xs : List A) (ys : List B) (i : ℕ) (x : A) (y : B) → i < length xs → x ≡ get_or xs i x → y ≡ get_or ys i y → (R x y → ⊥) → ¬ AllZip R xs ys
zipped_not {A} {B} R xs ys i x y lt e f other h =
    let P : A → Type 0 = λ a. R a y in
    let Q : B → Type 0 = λ b. R (get_or xs i x) b in
    other (subst P (sym e) (subst Q (sym f) (zipped_at R xs ys i x y h lt)))

-- an item that is there is read whatever stands for those that aren't
pub one_read : {A : Type 0} (xs : List A) (i : ℕ) (x y : A) → i < length xs → get_or xs i x ≡ get_or xs i y
one_read [] i x y lt = absurd (omega arith)
one_read (a ∷ xs) zero x y lt = refl
one_read (a ∷ xs) (suc i) x y lt = one_read xs i x y (omega arith)

-- one more item behind each list
pub zipped_behind : {A B : Type 0} (R : A → B → Type 0) (xs : List A) (ys : List B) (x : A) (y : B) → AllZip R xs ys → R x y → AllZip R (xs ++ x ∷ []) (ys ++ y ∷ [])
zipped_behind R [] [] x y h r = (r, tt)
zipped_behind R [] (b ∷ ys) x y h r = absurd h
zipped_behind R (a ∷ xs) [] x y h r = absurd h
zipped_behind R (a ∷ xs) (b ∷ ys) x y h r = (h.0, zipped_behind R xs ys x y h.1 r)
