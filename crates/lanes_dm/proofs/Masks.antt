-- Masks of rows, by lanes.
use Rattle.std.proofs.Common.{◌≡◌, ◌≢◌, ◌==◌, ◌||◌, ◌+◌, ◌-◌, ◌<◌, ◌≤◌, ◌^◌, ◌∙◌, ◌∷◌, ◌++◌, [], ℕ, suc, zero, List, Bool, true, false, cond, not, get_or, length, map, take, drop, replicate, refl, sym, ap, arith, inl, inr, w8, w32, take-add}
use lib.Dec.{eqb, ltb}
use lib.Lanes.{Each1, chunk, put_chunk, sel_l, top, zip2}
use Rattle.std.proofs.lemmas.Bool.{cases_eq, cases_lt, le-ltb, lt-ltb, ne_eqb}
use Rattle.std.proofs.lemmas.List.{drop-drop, get_or-drop, length-take-le, map-append, take_more}
use Rattle.std.proofs.lemmas.Simd.{tops_compared, zip2_splat}
use Rattle.lanes_dm.specs.Flags.{flag}

-- a choice between two numbers, by a test of each pair
zip2_chosen : (t : ℕ → ℕ → Bool) (xs ys : List ℕ) (a b n : ℕ) → length xs ≡ n → length ys ≡ n → sel_l (zip2 t xs ys) (replicate n a) (replicate n b) ≡ zip2 (λ x y. cond (t x y) a b) xs ys
zip2_chosen t [] ys a b n long same = refl
zip2_chosen t (x ∷ xs) [] a b n long same = refl
zip2_chosen t (x ∷ xs) (y ∷ ys) a b zero long same = absurd (omega arith)
zip2_chosen t (x ∷ xs) (y ∷ ys) a b (suc n) long same = ap (λ (zs : List ℕ). cond (t x y) a b ∷ zs) (zip2_chosen t xs ys a b n (omega arith) (omega arith))

pub each_sel : (P : ℕ → Type 0) (ms : List Bool) (xs ys : List ℕ) → Each1 P xs → Each1 P ys → Each1 P (sel_l ms xs ys)
each_sel P [] xs ys p q = tt
each_sel P (m ∷ ms) [] ys p q = tt
each_sel P (m ∷ ms) (x ∷ xs) [] p q = tt
each_sel P (true ∷ ms) (x ∷ xs) (y ∷ ys) p q = (p.0, each_sel P ms xs ys p.1 q.1)
each_sel P (false ∷ ms) (x ∷ xs) (y ∷ ys) p q = (q.0, each_sel P ms xs ys p.1 q.1)

-- numbers of 32 bits, compared pair by pair
pub chosen32 : (t : ℕ → ℕ → Bool) (xs ys : List ℕ) (a b n : ℕ) → length xs ≡ n → length ys ≡ n
    → sel_l (map (top 31) (zip2 (λ x y. cond (t x y) (2 ^ 32 - 1) 0) xs ys)) (replicate n a) (replicate n b) ≡ zip2 (λ x y. cond (t x y) a b) xs ys
chosen32 t xs ys a b n long same = rw (tops_compared w32 t xs ys) (zip2_chosen t xs ys a b n long same)

-- bytes, likewise
pub chosen8 : (t : ℕ → ℕ → Bool) (xs ys : List ℕ) (a b n : ℕ) → length xs ≡ n → length ys ≡ n
    → sel_l (map (top 7) (zip2 (λ x y. cond (t x y) (2 ^ 8 - 1) 0) xs ys)) (replicate n a) (replicate n b) ≡ zip2 (λ x y. cond (t x y) a b) xs ys
chosen8 t xs ys a b n long same = rw (tops_compared w8 t xs ys) (zip2_chosen t xs ys a b n long same)

-- ---- both of two flags

abbrev pub least : ℕ → ℕ → ℕ
least x y = cond (ltb x y) x y

sel_least : (xs ys : List ℕ) → sel_l (zip2 ltb xs ys) xs ys ≡ zip2 least xs ys
sel_least [] ys = refl
sel_least (x ∷ xs) [] = refl
sel_least (x ∷ xs) (y ∷ ys) = ap (λ (zs : List ℕ). least x y ∷ zs) (sel_least xs ys)

pub least_is : (xs ys : List ℕ) → sel_l (map (top 7) (zip2 (λ x y. cond (ltb x y) (2 ^ 8 - 1) 0) xs ys)) xs ys ≡ zip2 least xs ys
least_is xs ys = rw (tops_compared w8 ltb xs ys) (sel_least xs ys)

map-zip2 : (f : ℕ → ℕ) (g h : ℕ → ℕ → ℕ) → ((x y : ℕ) → f (g x y) ≡ h x y) → (xs ys : List ℕ) → map f (zip2 g xs ys) ≡ zip2 h xs ys
map-zip2 f g h same [] ys = refl
map-zip2 f g h same (x ∷ xs) [] = refl
map-zip2 f g h same (x ∷ xs) (y ∷ ys) =
    let rest = map-zip2 f g h same xs ys in
    rw (same x y, rest) refl

-- the least of two is 0 exactly where one is
least_flag : (x y : ℕ) → cond (not (eqb (least x y) 0)) 1 0 ≡ flag (not (x == 0 || y == 0))
least_flag x y = elim (cases_lt x y) [
  | inl below ↦
      let some : y ≢ 0 = omega arith in
      elim (cases_eq x 0) [
        | inl none ↦ rw (lt-ltb x y below, none) refl
        | inr both ↦ rw (lt-ltb x y below, ne_eqb x 0 both, ne_eqb y 0 some) refl
      ]
  | inr above ↦ elim (cases_eq y 0) [
    | inl none ↦ elim (cases_eq x 0) [
      | inl neither ↦ rw (le-ltb x y above, none, neither) refl
      | inr some ↦ rw (le-ltb x y above, none, ne_eqb x 0 some) refl
    ]
    | inr both ↦
        let some : x ≢ 0 = omega arith in
        rw (le-ltb x y above, ne_eqb x 0 some, ne_eqb y 0 both) refl
  ]
]

length-zip2_same : (f : ℕ → ℕ → ℕ) (xs ys : List ℕ) (n : ℕ) → length xs ≡ n → length ys ≡ n → length (zip2 f xs ys) ≡ n
length-zip2_same f [] ys n long same = long
length-zip2_same f (x ∷ xs) [] n long same = absurd (omega arith)
length-zip2_same f (x ∷ xs) (y ∷ ys) zero long same = absurd (omega arith)
length-zip2_same f (x ∷ xs) (y ∷ ys) (suc n) long same = omega (arith, length-zip2_same f xs ys n (omega arith) (omega arith))

pub both_flags : (xs ys : List ℕ) → length xs ≡ 32 → length ys ≡ 32
    → sel_l (map (top 7) (zip2 (λ x y. cond (not (eqb x y)) (2 ^ 8 - 1) 0) (zip2 least xs ys) (replicate 32 0))) (replicate 32 1) (replicate 32 0)
    ≡ zip2 (λ x y. flag (not (x == 0 || y == 0))) xs ys
both_flags xs ys long same =
    let mins = zip2 least xs ys in
    let whole = length-zip2_same least xs ys 32 long same in
    chosen8 (λ x y. not (eqb x y)) mins (replicate 32 0) 1 0 32 whole refl
    ∙ zip2_splat (λ x y. cond (not (eqb x y)) 1 0) mins 32 0 whole
    ∙ map-zip2 (λ x. cond (not (eqb x 0)) 1 0) least (λ x y. flag (not (x == 0 || y == 0))) least_flag xs ys

-- ---- a chunk further

pub map-chunk : (f : ℕ → ℕ) (xs : List ℕ) (at n : ℕ) → map f (take (at + n) xs) ≡ map f (take at xs) ++ map f (chunk at n xs)
map-chunk f xs at n = ap (map f) (take-add at n xs) ∙ map-append f (take at xs) (chunk at n xs)

zip2-append : (f : ℕ → ℕ → ℕ) (xs ys us vs : List ℕ) → length xs ≡ length ys → zip2 f (xs ++ us) (ys ++ vs) ≡ zip2 f xs ys ++ zip2 f us vs
zip2-append f [] [] us vs same = refl
zip2-append f [] (y ∷ ys) us vs same = absurd (omega arith)
zip2-append f (x ∷ xs) [] us vs same = absurd (omega arith)
zip2-append f (x ∷ xs) (y ∷ ys) us vs same = ap (λ (zs : List ℕ). f x y ∷ zs) (zip2-append f xs ys us vs (omega arith))

pub zip2-chunk : (f : ℕ → ℕ → ℕ) (xs ys : List ℕ) (at n : ℕ) → at ≤ length xs → at ≤ length ys
    → zip2 f (take (at + n) xs) (take (at + n) ys) ≡ zip2 f (take at xs) (take at ys) ++ zip2 f (chunk at n xs) (chunk at n ys)
zip2-chunk f xs ys at n within same =
    rw (take-add at n xs, take-add at n ys) (zip2-append f (take at xs) (take at ys) (chunk at n xs) (chunk at n ys) (length-take-le at xs within ∙ sym (length-take-le at ys same)))

pub zip2_more : (f : ℕ → ℕ → ℕ) (xs ys : List ℕ) (at : ℕ) → at < length xs → at < length ys
    → zip2 f (take (at + 1) xs) (take (at + 1) ys) ≡ zip2 f (take at xs) (take at ys) ++ f (get_or xs at 0) (get_or ys at 0) ∷ []
zip2_more f xs ys at within same =
    rw (take_more xs at 0 within, take_more ys at 0 same) (zip2-append f (take at xs) (take at ys) (get_or xs at 0 ∷ []) (get_or ys at 0 ∷ []) (length-take-le at xs (omega arith) ∙ sym (length-take-le at ys (omega arith))))

-- what stands after a chunk that was written
pub drop-put_chunk : (i : ℕ) (xs ys : List ℕ) (m : ℕ) → m ≡ i + length ys → drop m (put_chunk i xs ys) ≡ drop m xs
drop-put_chunk i [] ys m is = refl
drop-put_chunk zero (x ∷ xs) [] m is = refl
drop-put_chunk zero (x ∷ xs) (y ∷ ys) zero is = absurd (omega arith)
drop-put_chunk zero (x ∷ xs) (y ∷ ys) (suc m) is = drop-put_chunk zero xs ys m (omega arith)
drop-put_chunk (suc i) (x ∷ xs) ys zero is = absurd (omega arith)
drop-put_chunk (suc i) (x ∷ xs) ys (suc m) is = drop-put_chunk i xs ys m (omega arith)

-- two lists that are the same from a place on are the same further on, and at it
pub drop_further : (xs ys : List ℕ) (at n : ℕ) → drop at xs ≡ drop at ys → drop (at + n) xs ≡ drop (at + n) ys
drop_further xs ys at n same = sym (drop-drop n at xs) ∙ ap (drop n) same ∙ drop-drop n at ys

pub get_or_left : (xs ys : List ℕ) (at : ℕ) → drop at xs ≡ drop at ys → get_or xs at 0 ≡ get_or ys at 0
get_or_left xs ys at same =
    let here : at + 0 ≡ at = omega arith in
    ap (λ i. get_or xs i 0) (sym here) ∙ sym (get_or-drop at xs 0 0) ∙ ap (λ (zs : List ℕ). get_or zs 0 0) same ∙ get_or-drop at ys 0 0 ∙ ap (λ i. get_or ys i 0) here
