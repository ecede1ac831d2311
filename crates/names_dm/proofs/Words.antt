-- What loops over characters keep, and that it gives the tests of whole texts.
use Rattle.std.proofs.Common.{◌≡◌, ◌∙◌, ◌++◌, ◌∷◌, ◌||◌, ◌&&◌, [], ℕ, List, Bool, true, false, not, eqb, cond, refl, sym, ap}
use Rattle.std.proofs.lemmas.Bool.{cases_Bool}
use Rattle.std.proofs.Common.{inl, inr}
use Rattle.std.specs.List.{list_all}
use Rattle.names_dm.specs.Characters.{is_ascii_letter}
use Rattle.names_dm.specs.Terminals.{are_tag_parts, begins_label, continues_label, hyphen_parts, into_first, is_label, is_letter_or_digit, is_tag, is_word_of, last_of}

abbrev pub is_nonempty : List ℕ → Bool
is_nonempty [] = false
is_nonempty (c ∷ cs) = true

pub is_nonempty-push : (xs : List ℕ) (c : ℕ) → is_nonempty (xs ++ c ∷ []) ≡ true
is_nonempty-push [] c = refl
is_nonempty-push (x ∷ xs) c = refl

-- ---- labels

-- the text can begin a label
abbrev pub begins_well : List ℕ → Bool
begins_well [] = true
begins_well (c ∷ cs) = begins_label c && list_all continues_label cs

pub last_of-push : (d c : ℕ) (xs : List ℕ) → last_of d (xs ++ c ∷ []) ≡ c
last_of-push d c [] = refl
last_of-push d c (x ∷ xs) = last_of-push x c xs

and_true : (a : Bool) → (a && true) ≡ a
and_true true = refl
and_true false = refl

or_false : (a : Bool) → (a || false) ≡ a
or_false true = refl
or_false false = refl

and_assoc : (a b c : Bool) → ((a && b) && c) ≡ (a && (b && c))
and_assoc true b c = refl
and_assoc false b c = refl

pub list_all-push : (test : ℕ → Bool) (xs : List ℕ) (c : ℕ) → list_all test (xs ++ c ∷ []) ≡ (list_all test xs && test c)
list_all-push test [] c = and_true (test c)
list_all-push test (x ∷ xs) c = ap (λ b. test x && b) (list_all-push test xs c) ∙ sym (and_assoc (test x) (list_all test xs) (test c))

pub begins_well-push : (xs : List ℕ) (c : ℕ) → begins_well (xs ++ c ∷ []) ≡ (begins_well xs && ((is_nonempty xs && continues_label c) || (not (is_nonempty xs) && begins_label c)))
begins_well-push [] c = and_true (begins_label c)
begins_well-push (x ∷ xs) c =
    ap (λ b. begins_label x && b) (list_all-push continues_label xs c ∙ ap (λ b. list_all continues_label xs && b) (sym (or_false (continues_label c))))
    ∙ sym (and_assoc (begins_label x) (list_all continues_label xs) (continues_label c || false))

pub is_label-from_loop : (text : List ℕ) → (begins_well text && not (eqb (last_of 46 text) 46)) ≡ is_label text
is_label-from_loop [] = refl
is_label-from_loop (c ∷ cs) = refl

-- ---- tags

-- whether the text goes on a tag, in its first part or a further one, which is empty so far or not
abbrev pub rest_is_tag : Bool → Bool → List ℕ → Bool
rest_is_tag first empty [] = not empty
rest_is_tag first empty (c ∷ cs) =
    (((eqb c 45 && not empty) || (not (eqb c 45) && ((first && is_ascii_letter c) || (not first && is_letter_or_digit c)))))
    && rest_is_tag (first && not (eqb c 45)) (eqb c 45) cs

-- the same by the parts between hyphens
abbrev pub goes_on : Bool → Bool → List (List ℕ) → Bool
goes_on first empty [] = false
goes_on first empty (word ∷ words) =
    list_all (cond first is_ascii_letter is_letter_or_digit) word && (not empty || is_nonempty word) && list_all (is_word_of is_letter_or_digit) words

parts_apart : (text : List ℕ) → (word : List ℕ) × (words : List (List ℕ)) × (hyphen_parts text ≡ word ∷ words)
parts_apart [] = ([], [], refl)
parts_apart (c ∷ cs) = elim (cases_Bool (eqb c 45)) [
  | inl hyphen ↦ ([], hyphen_parts cs, rw hyphen refl)
  | inr other ↦ let p = parts_apart cs in (c ∷ p.0, p.1, rw (other, p.2) refl)
]

word_of : (test : ℕ → Bool) (word : List ℕ) → (list_all test word && is_nonempty word) ≡ is_word_of test word
word_of test [] = refl
word_of test (c ∷ cs) = and_true (test c && list_all test cs)

after_hyphen : (parts : List (List ℕ)) (word : List ℕ) (words : List (List ℕ)) → parts ≡ word ∷ words → goes_on false true parts ≡ list_all (is_word_of is_letter_or_digit) parts
after_hyphen parts word words apart = rw apart (ap (λ b. b && list_all (is_word_of is_letter_or_digit) words) (word_of is_letter_or_digit word))

in_part_is : (first : Bool) (c : ℕ) → ((first && is_ascii_letter c) || (not first && is_letter_or_digit c)) ≡ cond first is_ascii_letter is_letter_or_digit c
in_part_is true c = or_false (is_ascii_letter c)
in_part_is false c = refl

same_first : (first : Bool) → (first && true) ≡ first
same_first true = refl
same_first false = refl

no_first : (first : Bool) → (first && false) ≡ false
no_first true = refl
no_first false = refl

regroup : (t l e a : Bool) → (t && ((l && true) && a)) ≡ (((t && l) && (e || true)) && a)
regroup true true true a = refl
regroup true true false a = refl
regroup true false e a = refl
regroup false l e a = refl

-- one more character of a part
more_of_part : (first empty : Bool) (c : ℕ) (parts : List (List ℕ)) (word : List ℕ) (words : List (List ℕ)) → parts ≡ word ∷ words
    → (cond first is_ascii_letter is_letter_or_digit c && goes_on first false parts) ≡ goes_on first empty (into_first c parts)
more_of_part first empty c parts word words apart =
    rw apart (regroup (cond first is_ascii_letter is_letter_or_digit c) (list_all (cond first is_ascii_letter is_letter_or_digit) word) (not empty) (list_all (is_word_of is_letter_or_digit) words))

pub rest_is_tag-parts : (text : List ℕ) (first empty : Bool) → rest_is_tag first empty text ≡ goes_on first empty (hyphen_parts text)
rest_is_tag-parts [] first true = refl
rest_is_tag-parts [] first false = refl
rest_is_tag-parts (c ∷ cs) first empty =
    let p = parts_apart cs in
    elim (cases_Bool (eqb c 45)) [
      | inl hyphen ↦ rw (hyphen, no_first first)
          (ap (λ b. (not empty || false) && b) (rest_is_tag-parts cs false true ∙ after_hyphen (hyphen_parts cs) p.0 p.1 p.2))
      | inr other ↦ rw (other, same_first first)
          (ap (λ b. b && rest_is_tag first false cs) (in_part_is first c) ∙ ap (λ b. cond first is_ascii_letter is_letter_or_digit c && b) (rest_is_tag-parts cs first false)
          ∙ more_of_part first empty c (hyphen_parts cs) p.0 p.1 p.2)
    ]

in_parts : (parts : List (List ℕ)) → goes_on true true parts ≡ are_tag_parts parts
in_parts [] = refl
in_parts (word ∷ words) = ap (λ b. b && list_all (is_word_of is_letter_or_digit) words) (word_of is_ascii_letter word)

pub is_tag-from_loop : (text : List ℕ) → rest_is_tag true true text ≡ is_tag text
unfolding is_tag
is_tag-from_loop text = rest_is_tag-parts text true true ∙ in_parts (hyphen_parts text)

-- ---- variables

double_not : (a : Bool) → not (not a) ≡ a
double_not true = refl
double_not false = refl

not_and : (a b : Bool) → (not a || not b) ≡ not (a && b)
not_and true b = refl
not_and false b = refl

pub bad-push : (test : ℕ → Bool) (xs : List ℕ) (c : ℕ) → (not (list_all test xs) || not (test c)) ≡ not (list_all test (xs ++ c ∷ []))
bad-push test xs c = not_and (list_all test xs) (test c) ∙ ap not (sym (list_all-push test xs c))

pub is_word_of-from_loop : (test : ℕ → Bool) (xs : List ℕ) → (is_nonempty xs && not (not (list_all test xs))) ≡ is_word_of test xs
is_word_of-from_loop test [] = refl
is_word_of-from_loop test (c ∷ cs) = double_not (test c && list_all test cs)

abbrev pub is_empty_list : {A : Type 0} → List A → Bool
is_empty_list [] = true
is_empty_list (x ∷ xs) = false
