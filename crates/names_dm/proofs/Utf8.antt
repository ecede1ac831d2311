-- The characters of the UTF-8 form of any list are that list.
use Rattle.std.proofs.Common.{◌≡◌, ◌∙◌, ◌++◌, ◌∷◌, ◌<◌, ◌≤◌, ◌+◌, ◌-◌, ◌/◌, [], ℕ, List, refl, ap, arith, inl, inr, encode_utf8_all}
use Rattle.std.proofs.lemmas.Bool.{cases_lt, lt-ltb, le-ltb}
use Rattle.std.specs.Char.{encode_utf8}
use Rattle.std.specs.Str.{chars, chars_after, continuation_len, lead_bits}
use Rattle.std.proofs.lemmas.Str.{chars-nil}

-- what follows a whole character
after_whole : (c : ℕ) (rest : List ℕ) → chars_after 0 c rest ≡ c ∷ chars rest
unfolding chars
after_whole c [] = refl
after_whole c (b ∷ bs) = refl

-- what a first byte says
leads_one : (b : ℕ) → b < 128 → (continuation_len b ≡ 0) × (lead_bits b ≡ b)
leads_one b below = rw (lt-ltb b 128 below) (refl, refl)

leads_two : (b : ℕ) → 128 ≤ b → b < 224 → (continuation_len b ≡ 1) × (lead_bits b ≡ b - 192)
leads_two b above below = rw (le-ltb b 128 above, lt-ltb b 224 below) (refl, refl)

leads_three : (b : ℕ) → 224 ≤ b → b < 240 → (continuation_len b ≡ 2) × (lead_bits b ≡ b - 224)
leads_three b above below = let low : 128 ≤ b = omega arith in rw (le-ltb b 128 low, le-ltb b 224 above, lt-ltb b 240 below) (refl, refl)

leads_four : (b : ℕ) → 240 ≤ b → (continuation_len b ≡ 3) × (lead_bits b ≡ b - 240)
leads_four b above =
    let low : 128 ≤ b = omega arith in
    let mid : 224 ≤ b = omega arith in
    rw (le-ltb b 128 low, le-ltb b 224 mid, le-ltb b 240 above) (refl, refl)

first_of : (b : ℕ) (bs : List ℕ) → chars (b ∷ bs) ≡ chars_after (continuation_len b) (lead_bits b) bs
unfolding chars
first_of b bs = refl

pub chars-encode : (c : ℕ) (rest : List ℕ) → chars (encode_utf8 c ++ rest) ≡ c ∷ chars rest
unfolding encode_utf8
chars-encode c rest = elim (cases_lt c 128) [
  | inl one ↦
      let lead = leads_one c one in
      rw (lt-ltb c 128 one) (first_of c rest ∙ rw (lead.0, lead.1) (after_whole c rest))
  | inr more ↦ rw (le-ltb c 128 more) (elim (cases_lt c 2048) [
    | inl two ↦
        let lead = leads_two (192 + c / 64) (omega arith) (omega arith) in
        rw (lt-ltb c 2048 two) (first_of (192 + c / 64) _ ∙ rw (lead.0, lead.1) (after_whole _ rest ∙ ap (λ (n : ℕ). n ∷ chars rest) (omega arith)))
    | inr still ↦ rw (le-ltb c 2048 still) (elim (cases_lt c 65536) [
      | inl three ↦
          let lead = leads_three (224 + c / 4096) (omega arith) (omega arith) in
          rw (lt-ltb c 65536 three) (first_of (224 + c / 4096) _ ∙ rw (lead.0, lead.1) (after_whole _ rest ∙ ap (λ (n : ℕ). n ∷ chars rest) (omega arith)))
      | inr four ↦
          let lead = leads_four (240 + c / 262144) (omega arith) in
          rw (le-ltb c 65536 four) (first_of (240 + c / 262144) _ ∙ rw (lead.0, lead.1) (after_whole _ rest ∙ ap (λ (n : ℕ). n ∷ chars rest) (omega arith)))
    ])
  ])
]

pub chars-encodes_any : (cs : List ℕ) → chars (encode_utf8_all cs) ≡ cs
chars-encodes_any [] = chars-nil
chars-encodes_any (c ∷ cs) = chars-encode c (encode_utf8_all cs) ∙ ap (λ (t : List ℕ). c ∷ t) (chars-encodes_any cs)
