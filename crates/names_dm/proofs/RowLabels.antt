-- The labels of rows are labels.
use Rattle.std.proofs.Common.{◌≡◌, ◌++◌, ◌∷◌, ◌&&◌, ◌<◌, ◌+◌, ◌%◌, ◌^◌, [], ℕ, List, Bool, true, false, not, eqb, refl, arith}
use Rattle.std.proofs.lemmas.Bool.{agree_below, agree_below_at}
use Rattle.std.proofs.lemmas.Fmt.{decimal_by_steps, IsAscii-decimal}
use Rattle.std.proofs.lemmas.Str.{IsAscii-append}
use Rattle.std.specs.Fmt.{decimal}
use Rattle.std.specs.List.{list_all}
use Rattle.std.specs.Str.{IsAscii}
use Rattle.names_dm.specs.Labels.{row_label}
use Rattle.names_dm.specs.Terminals.{begins_label, continues_label, is_label, last_of}
use Rattle.names_dm.proofs.Ascii.{ascii_cons}
use Rattle.names_dm.proofs.Words.{last_of-push, list_all-push}

digit_table : agree_below (λ k. continues_label (48 + k) && not (eqb (48 + k) 46)) (λ k. true) 10 ≡ true
unfolding continues_label
digit_table = refl

digit_fits : (k : ℕ) → k < 10 → (continues_label (48 + k) && not (eqb (48 + k) 46)) ≡ true
digit_fits k small = agree_below_at (λ k. continues_label (48 + k) && not (eqb (48 + k) 46)) (λ k. true) 10 k digit_table small

both : (a b : Bool) → (a && b) ≡ true → (a ≡ true) × (b ≡ true)
both true b e = (refl, e)
both false b e = cc e

-- digits go on a label, and can end it
EndsWell : List ℕ → Type 0
EndsWell ds = (list_all continues_label ds ≡ true) × ((d : ℕ) → not (eqb (last_of d ds) 46) ≡ true)

ends_well : (n : ℕ) → n < 2 ^ 64 → EndsWell (decimal n)
unfolding EndsWell
ends_well n small =
    let P : ℕ → List ℕ → Type 0 = λ m ds. EndsWell ds in
    decimal_by_steps P
    (λ k below. let h = both (continues_label (48 + k)) (not (eqb (48 + k) 46)) (digit_fits k below) in (rw h.0 refl, λ d. h.1))
    (λ k ds above rest. let h = both (continues_label (48 + k % 10)) (not (eqb (48 + k % 10) 46)) (digit_fits (k % 10) (omega arith)) in
    (rw (list_all-push continues_label ds (48 + k % 10), rest.0, h.0) refl, λ d. rw (last_of-push d (48 + k % 10) ds) h.1))
    n small

list_all-append : (test : ℕ → Bool) (xs ys : List ℕ) → list_all test xs ≡ true → list_all test ys ≡ true → list_all test (xs ++ ys) ≡ true
list_all-append test [] ys h k = k
list_all-append test (x ∷ xs) ys h k = let p = both (test x) (list_all test xs) h in rw (p.0) (list_all-append test xs ys p.1 k)

last_of-append : (d c : ℕ) (xs ys : List ℕ) → last_of d (xs ++ c ∷ ys) ≡ last_of c ys
last_of-append d c [] ys = refl
last_of-append d c (x ∷ xs) ys = last_of-append x c xs ys

row_continues : continues_label 114 ≡ true
unfolding continues_label
row_continues = refl

table_begins : begins_label 116 ≡ true
unfolding begins_label
table_begins = refl

pub row_label_is : (t r : ℕ) → t < 2 ^ 64 → r < 2 ^ 64 → is_label (row_label t r) ≡ true
unfolding EndsWell
row_label_is t r small_t small_r =
    let table = ends_well t small_t in
    let row = ends_well r small_r in
    let rest : list_all continues_label (114 ∷ decimal r) ≡ true = rw (row_continues) row.0 in
    rw (table_begins, list_all-append continues_label (decimal t) (114 ∷ decimal r) table.0 rest, last_of-append 116 114 (decimal t) (decimal r)) (row.1 114)

pub row_label_ascii : (t r : ℕ) → t < 2 ^ 64 → r < 2 ^ 64 → IsAscii (row_label t r)
row_label_ascii t r small_t small_r =
    ascii_cons 116 _ (omega arith) (IsAscii-append (decimal t) (114 ∷ decimal r) (IsAscii-decimal t small_t) (ascii_cons 114 (decimal r) (omega arith) (IsAscii-decimal r small_r)))
