-- Texts by their bytes and by their characters.
use Rattle.std.proofs.Common.{◌≡◌, ◌≢◌, ◌<◌, ℕ, suc, zero, Bool, true, false, List, [], ◌∷◌, ◌++◌, refl, ap, ◌∙◌, sym, subst, arith, not, take, drop, nat_eq, lit<}
use Rattle.std.specs.Prelude.{codes}
use Rattle.std.specs.List.{starts_with}
use Rattle.std.specs.Cmp.Lexicographic.{pointwise, bytes_decides}
use Rattle.std.specs.Str.{IsAscii, IsUtf8, chars, encode_utf8_all}
use Rattle.std.proofs.lemmas.Bool.{true≢false}
use Rattle.std.specs.Char.{encode_utf8}
use Rattle.std.proofs.lemmas.List.{take-append-drop}
use Rattle.value_dm.specs.Reading.{BeginsWithBackslash, BeginsWithTwoBackslashes}
use Rattle.value_dm.specs.Spelling.{unescaped}
use Rattle.value_dm.specs.declared.kind.Kind.{Kind}
use Rattle.value_dm.specs.declared.kind.Kind.TheVariants as kind
use Rattle.std.proofs.lemmas.Str.{IsUtf8-append, IsUtf8-from_ascii, IsUtf8-past_char, chars_past_char, encode_ascii, encodes-chars, encodes-IsAscii, chars-IsAscii}
use Rattle.value_dm.specs.Lexical.{escaped}
use Rattle.value_dm.specs.Written.{Writes}

pub not_equal_texts : (a b : List ℕ) → true ≡ not (pointwise nat_eq a b) → a ≡ b → ⊥
not_equal_texts a b h e = true≢false (h ∙ ap not ((bytes_decides a b).1 e))

-- an ASCII word has the same bytes as characters
pub word_bytes : (text word : List ℕ) → IsUtf8 text → IsAscii word → chars text ≡ word → text ≡ word
word_bytes text word utf8 ascii e = sym (encodes-chars text utf8) ∙ ap encode_utf8_all e ∙ encodes-IsAscii word ascii

pub word_chars : (text word : List ℕ) → IsAscii word → text ≡ word → chars text ≡ word
word_chars text word ascii e = ap chars e ∙ chars-IsAscii word ascii

null_ascii : IsAscii (92 ∷ 78 ∷ [])
null_ascii zero = omega arith
null_ascii (suc zero) = omega arith
null_ascii (suc (suc i)) = omega arith

empty_ascii : IsAscii []
empty_ascii i = omega arith

pub null_chars : (text : List ℕ) → true ≡ pointwise nat_eq text (92 ∷ 78 ∷ []) → chars text ≡ 92 ∷ 78 ∷ []
null_chars text h = word_chars text (92 ∷ 78 ∷ []) null_ascii ((bytes_decides text (92 ∷ 78 ∷ [])).0 (sym h))

pub not_null_chars : (text : List ℕ) → IsUtf8 text → false ≡ pointwise nat_eq text (92 ∷ 78 ∷ []) → chars text ≡ 92 ∷ 78 ∷ [] → ⊥
not_null_chars text utf8 h e = true≢false (sym (h ∙ (bytes_decides text (92 ∷ 78 ∷ [])).1 (word_bytes text (92 ∷ 78 ∷ []) utf8 null_ascii e)))

pub empty_chars : (text : List ℕ) → false ≡ not (pointwise nat_eq text []) → chars text ≡ []
empty_chars text h = by_test (pointwise nat_eq text []) refl h
  where
    by_test : (b : Bool) → pointwise nat_eq text [] ≡ b → false ≡ not b → chars text ≡ []
    by_test true e h = word_chars text [] empty_ascii ((bytes_decides text []).0 e)
    by_test false e h = absurd (true≢false (sym h))

pub not_empty_chars : (text : List ℕ) → IsUtf8 text → true ≡ not (pointwise nat_eq text []) → chars text ≡ [] → ⊥
not_empty_chars text utf8 h e = not_equal_texts text [] h (word_bytes text [] utf8 empty_ascii e)

pub first_backslash : (text : List ℕ) → BeginsWithTwoBackslashes text → (rest : List ℕ) × (text ≡ 92 ∷ 92 ∷ rest)
first_backslash [] h = absurd h
first_backslash (a ∷ []) h = absurd h
first_backslash (a ∷ b ∷ rest) h = (rest, ap (λ x. x ∷ b ∷ rest) h.0 ∙ ap (λ x. 92 ∷ x ∷ rest) h.1)

-- a text that begins with a backslash, by its characters
behind_backslash : (text rest : List ℕ) → IsUtf8 text → text ≡ 92 ∷ rest → (chars text ≡ 92 ∷ chars rest) × IsUtf8 rest
behind_backslash text rest utf8 e =
    let parts : text ≡ encode_utf8 92 ++ rest = e ∙ ap (λ x. x ++ rest) (sym (encode_ascii 92 (omega arith))) in
    (chars_past_char text rest 92 utf8 parts, IsUtf8-past_char text rest 92 utf8 parts)

pub unescaped_two : (text : List ℕ) → IsUtf8 text → BeginsWithTwoBackslashes text → chars (drop 1 text) ≡ unescaped kind.Text (chars text)
unescaped_two text utf8 two =
    let first = first_backslash text two in
    let one = behind_backslash text (92 ∷ first.0) utf8 first.1 in
    let other = behind_backslash (92 ∷ first.0) first.0 one.1 refl in
    let all : chars text ≡ 92 ∷ 92 ∷ chars first.0 = one.0 ∙ ap (λ x. 92 ∷ x) other.0 in
    rw all (ap (λ x. chars (drop 1 x)) first.1 ∙ other.0)

pub unescaped_other : (text : List ℕ) → IsUtf8 text → (BeginsWithTwoBackslashes text → ⊥) → chars text ≡ unescaped kind.Text (chars text)
unescaped_other text utf8 other = by_test (starts_with nat_eq (chars text) (codes "\\\\")) refl
  where
    by_test : (b : Bool) → starts_with nat_eq (chars text) (codes "\\\\") ≡ b → chars text ≡ unescaped kind.Text (chars text)
    by_test false e = rw e refl
    by_test true e =
        let front : 92 ∷ 92 ∷ [] ≡ take 2 (chars text) = (bytes_decides (92 ∷ 92 ∷ []) (take 2 (chars text))).0 e in
        let all : chars text ≡ 92 ∷ 92 ∷ drop 2 (chars text) = sym (take-append-drop 2 (chars text)) ∙ ap (λ x. x ++ drop 2 (chars text)) (sym front) in
        let bytes : text ≡ 92 ∷ 92 ∷ encode_utf8_all (drop 2 (chars text)) = sym (encodes-chars text utf8) ∙ ap encode_utf8_all all ∙ two_backslashes (drop 2 (chars text)) in
        let P : List ℕ → Type 0 = BeginsWithTwoBackslashes in
        absurd (other (subst P (sym bytes) (refl, refl)))
      where
        two_backslashes : (cs : List ℕ) → encode_utf8_all (92 ∷ 92 ∷ cs) ≡ 92 ∷ 92 ∷ encode_utf8_all cs
        two_backslashes cs = rw (encode_ascii 92 (lit< tt)) refl

-- an ASCII character in front
pub writes_cons : (c : ℕ) (text cs : List ℕ) → c < 128 → IsUtf8 text → Writes text cs → Writes (c ∷ text) (c ∷ cs)
writes_cons c text cs small utf8 h =
    let front : encode_utf8 c ≡ c ∷ [] = encode_ascii c small in
    let parts : c ∷ text ≡ encode_utf8 c ++ text = ap (λ x. x ++ text) (sym front) in
    let own = IsUtf8-append (c ∷ []) text (IsUtf8-from_ascii (c ∷ []) (one c small)) utf8 in
    record {
      encoded = parts ∙ ap (λ x. encode_utf8 c ++ x) h.encoded;
      decoded = chars_past_char (c ∷ text) text c own parts ∙ ap (λ x. c ∷ x) h.decoded;
    }
  where
    one : (c : ℕ) → c < 128 → IsAscii (c ∷ [])
    one c small zero = small
    one c small (suc i) = omega arith

pub writes_own : (text : List ℕ) → IsUtf8 text → Writes text (chars text)
writes_own text utf8 = record { encoded = sym (encodes-chars text utf8); decoded = refl }

pub writes_along : (text cs ds : List ℕ) → cs ≡ ds → Writes text cs → Writes text ds
writes_along text cs ds e h = let P : List ℕ → Type 0 = Writes text in subst P e h

pub escaped_one : (text : List ℕ) → IsUtf8 text → BeginsWithBackslash text → escaped (chars text) ≡ 92 ∷ chars text
escaped_one [] utf8 h = absurd h
escaped_one (a ∷ rest) utf8 h =
    let own = behind_backslash (a ∷ rest) rest utf8 (ap (λ x. x ∷ rest) h) in
    rw own.0 refl

pub escaped_none : (text : List ℕ) → IsUtf8 text → (BeginsWithBackslash text → ⊥) → escaped (chars text) ≡ chars text
escaped_none text utf8 other = by_test (starts_with nat_eq (chars text) (codes "\\")) refl
  where
    by_test : (b : Bool) → starts_with nat_eq (chars text) (codes "\\") ≡ b → escaped (chars text) ≡ chars text
    by_test false e = rw e refl
    by_test true e =
        let front : 92 ∷ [] ≡ take 1 (chars text) = (bytes_decides (92 ∷ []) (take 1 (chars text))).0 e in
        let all : chars text ≡ 92 ∷ drop 1 (chars text) = sym (take-append-drop 1 (chars text)) ∙ ap (λ x. x ++ drop 1 (chars text)) (sym front) in
        let bytes : text ≡ 92 ∷ encode_utf8_all (drop 1 (chars text)) = sym (encodes-chars text utf8) ∙ ap encode_utf8_all all ∙ one_backslash (drop 1 (chars text)) in
        let P : List ℕ → Type 0 = BeginsWithBackslash in
        absurd (other (subst P (sym bytes) refl))
      where
        one_backslash : (cs : List ℕ) → encode_utf8_all (92 ∷ cs) ≡ 92 ∷ encode_utf8_all cs
        one_backslash cs = rw (encode_ascii 92 (lit< tt)) refl

pub null_written : (bytes : List ℕ) → bytes ≡ 92 ∷ 78 ∷ [] → Writes bytes (92 ∷ 78 ∷ [])
null_written bytes e = record {
  encoded = e ∙ sym (encodes-IsAscii (92 ∷ 78 ∷ []) null_ascii);
  decoded = ap chars e ∙ chars-IsAscii (92 ∷ 78 ∷ []) null_ascii;
}

pub utf8_cons : (c : ℕ) (text : List ℕ) → c < 128 → IsUtf8 text → IsUtf8 (c ∷ text)
utf8_cons c text small utf8 = IsUtf8-append (c ∷ []) text (IsUtf8-from_ascii (c ∷ []) (one c small)) utf8
  where
    one : (c : ℕ) → c < 128 → IsAscii (c ∷ [])
    one c small zero = small
    one c small (suc i) = omega arith
