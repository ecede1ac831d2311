-- Texts of ASCII letters and digits.
use Rattle.std.proofs.Common.{◌≡◌, ◌∙◌, ◌<◌, ◌^◌, ℕ, List, [], ◌∷◌, ◌++◌, ap, sym}
use Rattle.std.specs.Prelude.{IsTrue, chars, decimal, nat_lt}
use Rattle.std.specs.List.{list_all}
use Rattle.std.specs.Str.{IsAscii, all_scalars}
use Rattle.std.proofs.lemmas.Str.{IsAscii-append, IsUtf8-from_ascii, chars-IsAscii, scalars-chars}
use Rattle.std.proofs.lemmas.Str.Ascii.{IsAscii-nil, IsAscii-cons}
use Rattle.std.proofs.lemmas.Fmt.{IsAscii-decimal}
use Rattle.std.proofs.lemmas.Bool.{and_parts, ltb-true}
use Rattle.value_dm.specs.Texts.{IsText}

abbrev pub AreLetters : List ℕ → Type 0
AreLetters letters = IsTrue (list_all (λ letter. nat_lt letter 128) letters)

pub ascii_letters : (letters : List ℕ) → AreLetters letters → IsAscii letters
ascii_letters [] h = IsAscii-nil
ascii_letters (c ∷ cs) h =
    let both = and_parts (nat_lt c 128) (list_all (λ letter. nat_lt letter 128) cs) h in
    IsAscii-cons c cs (ltb-true c 128 both.0) (ascii_letters cs both.1)

pub ascii_numbered : (letters : List ℕ) (number : ℕ) → AreLetters letters → number < 2 ^ 64 → IsAscii (letters ++ decimal number)
ascii_numbered letters number h small = IsAscii-append letters (decimal number) (ascii_letters letters h) (IsAscii-decimal number small)

pub chars_letters : (letters : List ℕ) → AreLetters letters → chars letters ≡ letters
chars_letters letters h = chars-IsAscii letters (ascii_letters letters h)

pub chars_numbered : (letters : List ℕ) (number : ℕ) → AreLetters letters → number < 2 ^ 64 → chars (letters ++ decimal number) ≡ letters ++ decimal number
chars_numbered letters number h small = chars-IsAscii (letters ++ decimal number) (ascii_numbered letters number h small)

pub text_numbered : (letters : List ℕ) (number : ℕ) → AreLetters letters → number < 2 ^ 64 → IsText (letters ++ decimal number)
text_numbered letters number h small =
    sym (ap (λ cs. all_scalars cs) (chars_numbered letters number h small)) ∙ scalars-chars (letters ++ decimal number) (IsUtf8-from_ascii (letters ++ decimal number) (ascii_numbered letters number h small))
