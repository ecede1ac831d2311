-- Texts of ASCII, and the first bytes of characters.
use Rattle.std.proofs.Common.{◌≡◌, ◌∙◌, ◌∷◌, ◌&&◌, ◌<◌, ◌≤◌, [], ℕ, List, Bool, true, false, eqb, ltb, refl, sym, ap, arith, inl, inr, zero, suc, chars, encode_utf8_all}
use Rattle.std.proofs.lemmas.Bool.{cases_Bool, cases_lt, lt-ltb, le-ltb, ltb-true, ne_eqb}
use Rattle.std.proofs.lemmas.Str.{encodes-chars}
use Rattle.std.specs.Bool.{one_answer}
use Rattle.std.specs.Cmp.Lexicographic.{bytes_decides, pointwise}
use Rattle.std.specs.Str.{IsAscii, IsUtf8}
use Rattle.std.specs.Char.{encode_utf8}
use Rattle.std.specs.List.{list_all, starts_with}
use Rattle.names_dm.specs.Characters.{is_ascii}

-- past ASCII each byte of a character is past ASCII, so its first
pub first_byte : (c : ℕ) → 128 ≤ c → (b : ℕ) × (bs : List ℕ) × (encode_utf8 c ≡ b ∷ bs) × (128 ≤ b)
unfolding encode_utf8
first_byte c large = rw (le-ltb c 128 large) (elim (cases_Bool (ltb c 2048)) [
  | inl two ↦ rw two (_, _, refl, omega arith)
  | inr more ↦ rw more (elim (cases_Bool (ltb c 65536)) [
    | inl three ↦ rw three (_, _, refl, omega arith)
    | inr four ↦ rw four (_, _, refl, omega arith)
  ])
])

pub encode_one : (c : ℕ) → c < 128 → encode_utf8 c ≡ c ∷ []
unfolding encode_utf8
encode_one c small = rw (lt-ltb c 128 small) refl

pub and_parts : (a b : Bool) → (a && b) ≡ true → (a ≡ true) × (b ≡ true)
and_parts true b e = (refl, e)
and_parts false b e = cc e

pub apart : (b n : ℕ) → n < 128 → 128 ≤ b → eqb b n ≡ false
apart b n small large = ne_eqb b n (λ e. let bad : ⊥ = omega arith in bad)

apart' : (b n : ℕ) → n < 128 → 128 ≤ b → eqb n b ≡ false
apart' b n small large = ne_eqb n b (λ e. let bad : ⊥ = omega arith in bad)

-- whether a text begins with a text of ASCII, by its bytes and by its characters
pub begins_by_bytes : (cs ns : List ℕ) → list_all is_ascii ns ≡ true → starts_with eqb (encode_utf8_all cs) ns ≡ starts_with eqb cs ns
begins_by_bytes cs [] ascii = refl
begins_by_bytes [] (n ∷ ns) ascii = refl
begins_by_bytes (c ∷ cs) (n ∷ ns) ascii =
    let h = and_parts (ltb n 128) (list_all is_ascii ns) ascii in
    elim (cases_lt c 128) [
      | inl small ↦ rw (encode_one c small) (ap (λ b. eqb n c && b) (begins_by_bytes cs ns h.1))
      | inr large ↦
          let f = first_byte c large in
          rw (f.2, apart' f.0 n (ltb-true n 128 h.0) f.3, apart' c n (ltb-true n 128 h.0) large) refl
    ]

-- whether a text of ASCII begins with a text
pub begins_of_ascii : (cs ns : List ℕ) → list_all is_ascii ns ≡ true → starts_with eqb ns (encode_utf8_all cs) ≡ starts_with eqb ns cs
begins_of_ascii [] ns ascii = refl
begins_of_ascii (c ∷ cs) [] ascii = elim (cases_lt c 128) [
  | inl small ↦ rw (encode_one c small) refl
  | inr large ↦ let f = first_byte c large in rw f.2 refl
]
begins_of_ascii (c ∷ cs) (n ∷ ns) ascii =
    let h = and_parts (ltb n 128) (list_all is_ascii ns) ascii in
    elim (cases_lt c 128) [
      | inl small ↦ rw (encode_one c small) (ap (λ b. eqb c n && b) (begins_of_ascii cs ns h.1))
      | inr large ↦
          let f = first_byte c large in
          rw (f.2, apart f.0 n (ltb-true n 128 h.0) f.3, apart c n (ltb-true n 128 h.0) large) refl
    ]

-- texts have the same bytes exactly where they have the same characters
pub same_text : (xs ys : List ℕ) → IsUtf8 xs → IsUtf8 ys → pointwise eqb xs ys ≡ pointwise eqb (chars xs) (chars ys)
same_text xs ys text_x text_y =
    one_answer {P = xs ≡ ys} _ _ (bytes_decides xs ys) (
      λ h. sym (encodes-chars xs text_x) ∙ ap encode_utf8_all ((bytes_decides (chars xs) (chars ys)).0 h) ∙ encodes-chars ys text_y,
      λ e. (bytes_decides (chars xs) (chars ys)).1 (ap chars e),
    )

pub ascii_cons : (c : ℕ) (xs : List ℕ) → c < 128 → IsAscii xs → IsAscii (c ∷ xs)
ascii_cons c xs small rest zero = small
ascii_cons c xs small rest (suc i) = rest i
