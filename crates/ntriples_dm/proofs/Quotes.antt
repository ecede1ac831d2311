-- Texts inside quotes, byte by byte and run by run.
use Rattle.std.proofs.Common.{◌≡◌, ◌∙◌, ◌++◌, ◌∷◌, ◌<◌, ◌≤◌, ◌+◌, ◌||◌, [], ℕ, suc, List, Bool, true, false, refl, sym, ap, arith, inl, inr, eqb, ltb, append_assoc, get_or, take, drop, length, Some, None}
use Rattle.std.specs.Prelude.{encode_utf8_all}
use Rattle.std.proofs.lemmas.Bool.{cases_Bool, cases_lt, lt-ltb, le-ltb, ne_eqb, ltb-false}
use Rattle.std.proofs.lemmas.Grind.{flat_map-append}
use Rattle.std.proofs.lemmas.List.{append-nil, get_or-take, get_or_default, length-take}
use Rattle.std.proofs.lemmas.List.Quantifiers.{position-Some}
use Rattle.std.proofs.lemmas.List.Sums.{fails_before_first}
use Rattle.std.proofs.lemmas.Str.{encodes-append}
use Rattle.std.specs.Char.{encode_utf8}
use Rattle.std.specs.List.{flat_map, position, position_or_len}
use Rattle.outside_dm.proofs.Putting.{flat_map_at}
use Rattle.ntriples_dm.specs.Written.{escaped, is_escaped, quoted_text}

-- ---- bytes that stand for themselves

or_parts : (a b : Bool) → (a || b) ≡ false → (a ≡ false) × (b ≡ false)
or_parts true b e = cc e
or_parts false b e = (refl, e)

plain : (b : ℕ) → is_escaped b ≡ false → escaped b ≡ b ∷ []
unfolding escaped
plain b none =
    let last = or_parts (eqb b 34 || eqb b 92 || eqb b 10) (eqb b 13) none in
    let third = or_parts (eqb b 34 || eqb b 92) (eqb b 10) last.0 in
    let first = or_parts (eqb b 34) (eqb b 92) third.0 in
    rw (first.0, first.1, third.1, last.1) refl

past_ascii : (b : ℕ) → 128 ≤ b → escaped b ≡ b ∷ []
unfolding escaped
past_ascii b above =
    rw (ne_eqb b 34 (λ e. omega arith), ne_eqb b 92 (λ e. omega arith), ne_eqb b 10 (λ e. omega arith), ne_eqb b 13 (λ e. omega arith)) refl

-- ---- a character is escaped as its bytes are

unescaped_bytes : (bs : List ℕ) → ((k : ℕ) → k < length bs → escaped (get_or bs k 0) ≡ get_or bs k 0 ∷ []) → flat_map escaped bs ≡ bs
unescaped_bytes [] alone = refl
unescaped_bytes (b ∷ bs) alone = rw (alone 0 (omega arith)) (ap (λ l. b ∷ l) (unescaped_bytes bs (λ k below. alone (suc k) (omega arith))))

ascii_escape : (c : ℕ) → c < 128 → encode_utf8_all (escaped c) ≡ escaped c
unfolding escaped encode_utf8
ascii_escape c below = elim (cases_Bool (eqb c 34)) [
  | inl e ↦ rw e refl
  | inr e ↦ rw e (elim (cases_Bool (eqb c 92)) [
    | inl e ↦ rw e refl
    | inr e ↦ rw e (elim (cases_Bool (eqb c 10)) [
      | inl e ↦ rw e refl
      | inr e ↦ rw e (elim (cases_Bool (eqb c 13)) [ inl e ↦ rw e refl | inr e ↦ rw (e, lt-ltb c 128 below) refl ])
    ])
  ])
]

ascii_bytes : (c : ℕ) → c < 128 → encode_utf8 c ≡ c ∷ []
unfolding encode_utf8
ascii_bytes c below = rw (lt-ltb c 128 below) refl

plain_front : (b : ℕ) (bs : List ℕ) → 128 ≤ b → flat_map escaped bs ≡ bs → flat_map escaped (b ∷ bs) ≡ b ∷ bs
plain_front b bs above rest = rw (past_ascii b above) (ap (λ l. b ∷ l) rest)

long_bytes : (c : ℕ) → 128 ≤ c → flat_map escaped (encode_utf8 c) ≡ encode_utf8 c
unfolding encode_utf8
long_bytes c above = rw (le-ltb c 128 above) (elim (cases_lt c 2048) [
  | inl two ↦ rw (lt-ltb c 2048 two) (plain_front _ _ (omega arith) (plain_front _ _ (omega arith) refl))
  | inr more ↦ rw (le-ltb c 2048 more) (elim (cases_lt c 65536) [
    | inl three ↦ rw (lt-ltb c 65536 three) (plain_front _ _ (omega arith) (plain_front _ _ (omega arith) (plain_front _ _ (omega arith) refl)))
    | inr four ↦ rw (le-ltb c 65536 four) (plain_front _ _ (omega arith) (plain_front _ _ (omega arith) (plain_front _ _ (omega arith) (plain_front _ _ (omega arith) refl))))
  ])
])

character_escape : (c : ℕ) → encode_utf8_all (escaped c) ≡ flat_map escaped (encode_utf8 c)
character_escape c = elim (cases_lt c 128) [
  | inl below ↦ ascii_escape c below ∙ sym (rw (ascii_bytes c below) (append-nil (escaped c)))
  | inr above ↦ rw (past_ascii c above) (append-nil (encode_utf8 c) ∙ sym (long_bytes c above))
]

pub quoted_bytes : (text : List ℕ) → quoted_text text ≡ flat_map escaped (encode_utf8_all text)
quoted_bytes [] = refl
quoted_bytes (c ∷ text) =
    encodes-append (escaped c) (flat_map escaped text)
    ∙ ap (λ l. l ++ quoted_text text) (character_escape c)
    ∙ ap (λ l. flat_map escaped (encode_utf8 c) ++ l) (quoted_bytes text)
    ∙ sym (flat_map-append escaped (encode_utf8 c) (encode_utf8_all text))

-- ---- runs

module _ (has : ℕ → Bool) (is : (b : ℕ) → has b ≡ is_escaped b) (bs : List ℕ) where
  alone : (k : ℕ) → has (get_or bs k 0) ≡ false → escaped (get_or bs k 0) ≡ get_or bs k 0 ∷ []
  alone k none = plain (get_or bs k 0) (sym (is (get_or bs k 0)) ∙ none)

  -- up to the first byte that is escaped, and that byte
  pub run_to : (place : ℕ) → position has bs ≡ Some place → flat_map escaped bs ≡ (take place bs ++ escaped (get_or bs place 0)) ++ flat_map escaped (drop (place + 1) bs)
  run_to place found =
      let b = get_or bs place 0 in
      let first = position-Some has bs place 0 found in
      let run : flat_map escaped (take place bs) ≡ take place bs =
      unescaped_bytes (take place bs) (λ k below.
      let lower : k < place = omega (arith, length-take {A = ℕ}) in
      rw (get_or-take place bs k 0 lower) (alone k (first.2 k lower))) in
      flat_map_at escaped bs place b first.0 (get_or_default bs place 0 b first.0)
      ∙ ap (λ l. l ++ (escaped b ++ flat_map escaped (drop (place + 1) bs))) run
      ∙ sym (append_assoc (take place bs) (escaped b) (flat_map escaped (drop (place + 1) bs)))

  pub place_below : (place : ℕ) → position has bs ≡ Some place → place < length bs
  place_below place found = (position-Some has bs place 0 found).0

  -- the byte at the place is one that is escaped
  pub escaped_at : (place : ℕ) → position has bs ≡ Some place → is_escaped (get_or bs place 0) ≡ true
  escaped_at place found = sym (is (get_or bs place 0)) ∙ (position-Some has bs place 0 found).1

  -- no byte is escaped
  pub run_to_end : position has bs ≡ None → flat_map escaped bs ≡ bs
  run_to_end none = elim (cases_Bool (ltb (position_or_len has bs) (length bs))) [
    | inl found ↦ cc (rw found at none)
    | inr past ↦
        let whole : length bs ≤ position_or_len has bs = ltb-false _ _ past in
        unescaped_bytes bs (λ k below. alone k (fails_before_first has bs k 0 (omega arith)))
  ]
