-- Bytes by their hexadecimal digits.
use Rattle.std.proofs.Common.{◌≡◌, ◌≢◌, ℕ, List, [], ◌∷◌, refl, ◌∙◌, sym, subst, eqb, Bool, true, false, ◌⊎◌, inl, inr}
use Rattle.std.specs.Prelude.{Ok, Err}
use Rattle.std.proofs.lemmas.Bool.{eqb-true, false≢true}
use Rattle.std.proofs.lemmas.List.Elements.{All-head}
use Rattle.hex.specs.Hex.{decode_of, is_hex_digit}
use Rattle.hex.specs.declared.error.FromHexError.{FromHexError}
use Rattle.hex.specs.declared.error.FromHexError.TheVariants.{OutOfMemory}
use Rattle.hex.proofs.HexLemmas.{decode_of-ok}
use Rattle.value_dm.specs.Reading.{hex_digits_of}
use Rattle.value_dm.specs.Spelling.{SpellsBinary}

-- a backslash is no hexadecimal digit
no_backslash : (rest bytes : List ℕ) → decode_of (92 ∷ rest) ≡ Ok bytes → ⊥
no_backslash rest bytes e = false≢true (All-head (λ x. is_hex_digit x ≡ true) 92 rest (decode_of-ok (92 ∷ rest) bytes e).1)

pub binary_is : (text bytes : List ℕ) → SpellsBinary text bytes → decode_of (hex_digits_of text) ≡ Ok bytes
binary_is text bytes (inr (digits, e, h)) = rw e h
binary_is [] bytes (inl h) = h
binary_is (a ∷ []) bytes (inl h) = h
binary_is (a ∷ b ∷ rest) bytes (inl h) = by_first (eqb a 92) refl
  where
    by_first : (first : Bool) → eqb a 92 ≡ first → decode_of (hex_digits_of (a ∷ b ∷ rest)) ≡ Ok bytes
    by_first true e =
        let P : ℕ → Type 0 = λ x. decode_of (x ∷ b ∷ rest) ≡ Ok bytes in
        absurd (no_backslash (b ∷ rest) bytes (subst P (eqb-true a 92 e) h))
    by_first false e = rw e h

pub binary_bad : (text : List ℕ) (e : FromHexError) → decode_of (hex_digits_of text) ≡ Err e → (bytes : List ℕ) → SpellsBinary text bytes → ⊥
binary_bad text e bad bytes h = cc (sym (binary_is text bytes h) ∙ bad)

pub binary_one : (text a b : List ℕ) → SpellsBinary text a → SpellsBinary text b → a ≡ b
binary_one text a b g h = cc (sym (binary_is text a g) ∙ binary_is text b h)

pub binary_refused : (text : List ℕ) (e : FromHexError) → ((e ≡ OutOfMemory) ⊎ (decode_of (hex_digits_of text) ≡ Err e)) → e ≢ OutOfMemory
    → (bytes : List ℕ) → SpellsBinary text bytes → ⊥
binary_refused text e (inl memory) other = absurd (other memory)
binary_refused text e (inr bad) other = binary_bad text e bad
