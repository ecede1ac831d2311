-- Cutting a text by its bytes cuts it by its characters.
use Rattle.std.proofs.Common.{◌≡◌, ◌≢◌, ◌∙◌, ◌++◌, ◌∷◌, ◌<◌, ◌≤◌, [], ℕ, List, true, false, eqb, ltb, refl, sym, ap, arith, inl, inr, zero, suc, length, get_or, append_assoc, Option, Some, None, chars, encode_utf8_all}
use Rattle.std.proofs.lemmas.Bool.{cases_Bool, cases_lt, eqb-true, le-ltb, ne_eqb}
use Rattle.std.proofs.lemmas.Str.{chars-nil, encode_same, encodes-append, encodes-chars}
use Rattle.std.proofs.lemmas.Str.Pattern.{IsSplitOnceResult, split_parts}
use Rattle.std.specs.Borrow.{Bor}
use Rattle.std.specs.Str.{IsUtf8}
use Rattle.std.specs.Str.Pattern.{FindsTextPrefix, StripsPrefix}
use Rattle.std.specs.Char.{encode_utf8}
use Rattle.std.specs.Prelude.{MatchOption}
use Rattle.names_dm.specs.Reading.{after, cut_at}
use Rattle.names_dm.proofs.Ascii.{encode_one, first_byte}
use Rattle.names_dm.proofs.Parts.{append-after, eqb-same, lacks}
use Rattle.names_dm.proofs.Utf8.{chars-encode, chars-encodes_any}

-- ---- the mark

-- none of these is the mark
NoMark : ℕ → List ℕ → Type 0
NoMark c [] = Unit {0}
NoMark c (b ∷ bs) = (b ≢ c) × NoMark c bs

lacks_from_each : (c : ℕ) (bs : List ℕ) → NoMark c bs → lacks c bs ≡ true
unfolding NoMark
lacks_from_each c [] h = refl
lacks_from_each c (b ∷ bs) h = rw (ne_eqb b c h.0) (lacks_from_each c bs h.1)

-- no byte of another character is the mark
past_ascii : (c d : ℕ) → c < 128 → 128 ≤ d → NoMark c (encode_utf8 d)
unfolding NoMark encode_utf8
past_ascii c d small large = rw (le-ltb d 128 large) (elim (cases_Bool (ltb d 2048)) [
  | inl two ↦ rw two (omega arith, (omega arith, tt))
  | inr still ↦ rw still (elim (cases_Bool (ltb d 65536)) [
    | inl three ↦ rw three (omega arith, (omega arith, (omega arith, tt)))
    | inr four ↦ rw four (omega arith, (omega arith, (omega arith, (omega arith, tt))))
  ])
])

encode_lacks : (c d : ℕ) → c < 128 → eqb d c ≡ false → lacks c (encode_utf8 d) ≡ true
encode_lacks c d small other = elim (cases_lt d 128) [
  | inl one ↦ rw (encode_one d one, other) refl
  | inr more ↦ lacks_from_each c (encode_utf8 d) (past_ascii c d small more)
]

lacks_right : (c : ℕ) (xs ys : List ℕ) → lacks c (xs ++ ys) ≡ true → lacks c ys ≡ true
lacks_right c [] ys none = none
lacks_right c (x ∷ xs) ys none = elim (cases_Bool (eqb x c)) [
  | inl bad ↦ cc (rw bad at none)
  | inr other ↦ lacks_right c xs ys (rw other at none)
]

some_bytes : (c : ℕ) → (b : ℕ) × (bs : List ℕ) × (encode_utf8 c ≡ b ∷ bs)
some_bytes c = elim (cases_lt c 128) [
  | inl one ↦ (c, [], encode_one c one)
  | inr more ↦ let f = first_byte c more in (f.0, f.1, f.2)
]

pub lacks_from_reads : (c : ℕ) (xs : List ℕ) → ((i : ℕ) → i < length xs → get_or xs i 0 ≢ c) → lacks c xs ≡ true
lacks_from_reads c [] apart = refl
lacks_from_reads c (x ∷ xs) apart = elim (cases_Bool (eqb x c)) [
  | inl same ↦ absurd (apart zero (omega arith) (eqb-true x c same))
  | inr other ↦ rw other (lacks_from_reads c xs (λ i within. apart (suc i) (omega arith)))
]

-- what stands before the mark begins with what lacks it
seam : (c : ℕ) (xs ys front back : List ℕ) → lacks c xs ≡ true → xs ++ ys ≡ front ++ c ∷ back
    → (more : List ℕ) × (front ≡ xs ++ more) × (ys ≡ more ++ c ∷ back)
seam c [] ys front back none same = (front, refl, same)
seam c (x ∷ xs) ys [] back none same =
    let head : x ≡ c = cc in
    cc (rw (head, eqb-same c) at none)
seam c (x ∷ xs) ys (y ∷ front) back none same = elim (cases_Bool (eqb x c)) [
  | inl bad ↦ cc (rw bad at none)
  | inr other ↦
      let head : x ≡ y = cc in
      let tail : xs ++ ys ≡ front ++ c ∷ back = cc in
      let m = seam c xs ys front back (rw other at none) tail in
      let back_head : y ≡ x = sym head in
      (m.0, (λ i. back_head i ∷ m.1 i), m.2)
]

empty_front : (c : ℕ) (rest front back : List ℕ) → lacks c front ≡ true → c ∷ rest ≡ front ++ c ∷ back → (front ≡ []) × (rest ≡ back)
empty_front c rest [] back none same = (refl, cc)
empty_front c rest (x ∷ front) back none same =
    let head : c ≡ x = cc in
    cc (rw (← head, eqb-same c) at none)

nothing_joined : (c : ℕ) (front back : List ℕ) → [] ≡ front ++ c ∷ back → ⊥
nothing_joined c [] back same = cc
nothing_joined c (x ∷ front) back same = cc

pub cut_found : (c : ℕ) (cs front back : List ℕ) → c < 128 → lacks c front ≡ true → encode_utf8_all cs ≡ front ++ c ∷ back
    → ◌≡◌ {A = Option (List ℕ × List ℕ)} (cut_at c cs) (Some (chars front, chars back))
cut_found c [] front back small none same = absurd (nothing_joined c front back same)
cut_found c (d ∷ ds) front back small none same = elim (cases_Bool (eqb d c)) [
  | inl mark ↦
      let here : d ≡ c = eqb-true d c mark in
      let one : encode_utf8 d ≡ c ∷ [] = rw here (encode_one c small) in
      let h = empty_front c (encode_utf8_all ds) front back none (sym (ap (λ (t : List ℕ). t ++ encode_utf8_all ds) one) ∙ same) in
      rw (mark, h.0, ← h.1, chars-nil, chars-encodes_any ds) refl
  | inr other ↦
      let m = seam c (encode_utf8 d) (encode_utf8_all ds) front back (encode_lacks c d small other) same in
      let rest = cut_found c ds m.0 back small (lacks_right c (encode_utf8 d) m.0 (ap (lacks c) (sym m.1) ∙ none)) m.2 in
      let fronts : d ∷ chars m.0 ≡ chars front = sym (ap chars m.1 ∙ chars-encode d m.0) in
      rw (other, rest) (λ i. Some (fronts i, chars back))
]

pub cut_lacking : (c : ℕ) (cs : List ℕ) → c < 128 → lacks c (encode_utf8_all cs) ≡ true → ◌≡◌ {A = Option (List ℕ × List ℕ)} (cut_at c cs) None
cut_lacking c [] small none = refl
cut_lacking c (d ∷ ds) small none = elim (cases_Bool (eqb d c)) [
  | inl mark ↦
      let one : encode_utf8 d ≡ c ∷ [] = ap encode_utf8 (eqb-true d c mark) ∙ encode_one c small in
      cc (rw (one, eqb-same c) at none)
  | inr other ↦ rw (other, cut_lacking c ds small (lacks_right c (encode_utf8 d) (encode_utf8_all ds) none)) refl
]

-- ---- the base

pub after_found : (front cs rest : List ℕ) → encode_utf8_all cs ≡ encode_utf8_all front ++ rest → after front cs ≡ Some (chars rest)
after_found [] cs rest same = ap Some (sym (chars-encodes_any cs) ∙ ap chars same)
after_found (c ∷ front) [] rest same = let some = some_bytes c in cc (rw some.2 at same)
after_found (c ∷ front) (d ∷ cs) rest same =
    let h = encode_same c d (encode_utf8_all front ++ rest) (encode_utf8_all cs) (sym (append_assoc (encode_utf8 c) (encode_utf8_all front) rest) ∙ sym same) in
    rw (← h.0, eqb-same c) (after_found front cs rest (sym h.1))

pub after_lacking : (front cs : List ℕ) → ((rest : List ℕ) → encode_utf8_all cs ≢ encode_utf8_all front ++ rest) → after front cs ≡ None
after_lacking front cs none = go (after front cs) refl where
  go : (r : Option (List ℕ)) → after front cs ≡ r → after front cs ≡ None
  go None e = e
  go (Some rest) e = absurd (none (encode_utf8_all rest) (ap encode_utf8_all (sym (append-after front cs rest e)) ∙ encodes-append front rest))

-- ---- what the methods of text give

pub after_result : (front text : List ℕ) (r : Option (Bor (List ℕ))) → IsUtf8 front → IsUtf8 text
    → MatchOption r (FindsTextPrefix front text None) (λ x. StripsPrefix (FindsTextPrefix front) text x.now)
    → MatchOption r (after (chars front) (chars text) ≡ None) (λ x. after (chars front) (chars text) ≡ Some (chars x.now))
after_result front text None text_f text_t h =
    after_lacking (chars front) (chars text)
    (λ rest same. h rest (sym (encodes-chars text text_t) ∙ same ∙ ap (λ (t : List ℕ). t ++ rest) (encodes-chars front text_f)))
after_result front text (Some x) text_f text_t h =
    after_found (chars front) (chars text) x.now
    (encodes-chars text text_t ∙ h.1.1 ∙ ap (λ (t : List ℕ). front ++ t) (sym h.2) ∙ ap (λ (t : List ℕ). t ++ x.now) (sym (encodes-chars front text_f)))

pub cut_result : (c : ℕ) (text : List ℕ) (r : Option (Bor (List ℕ) × Bor (List ℕ))) → c < 128 → IsUtf8 text → IsSplitOnceResult c text r
    → MatchOption r (◌≡◌ {A = Option (List ℕ × List ℕ)} (cut_at c (chars text)) None) (λ x. ◌≡◌ {A = Option (List ℕ × List ℕ)} (cut_at c (chars text)) (Some (chars x.0.now, chars x.1.now)))
cut_result c text r small is_text h = go r (split_parts c text r h small) where
  go : (r : Option (Bor (List ℕ) × Bor (List ℕ)))
      → MatchOption r ((i : ℕ) → i < length text → get_or text i 0 ≢ c) (λ x. (text ≡ x.0.now ++ (c ∷ x.1.now)) × ((i : ℕ) → i < length x.0.now → get_or x.0.now i 0 ≢ c))
      → MatchOption r (◌≡◌ {A = Option (List ℕ × List ℕ)} (cut_at c (chars text)) None) (λ x. ◌≡◌ {A = Option (List ℕ × List ℕ)} (cut_at c (chars text)) (Some (chars x.0.now, chars x.1.now)))
  go None h = cut_lacking c (chars text) small (lacks_from_reads c (encode_utf8_all (chars text)) (rw (encodes-chars text is_text) h))
  go (Some x) h = cut_found c (chars text) x.0.now x.1.now small (lacks_from_reads c x.0.now h.1) (encodes-chars text is_text ∙ h.0)
