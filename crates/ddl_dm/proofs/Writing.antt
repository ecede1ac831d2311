-- Characters that are added to bytes, one piece after another.
use Rattle.std.proofs.Common.{◌≡◌, ℕ, ◌+◌, ◌<◌, Bool, true, false, List, [], ◌∷◌, ◌++◌, refl, sym, ap, subst, ◌∙◌, take, get_or, length, append_assoc, nat_lt, ◌&&◌, ◌==◌, if◌then◌else◌, Option, None, map-id, arith}
use Rattle.std.specs.Prelude.{encode_utf8_all, chars, IsUtf8}
use Rattle.std.specs.Char.{encode_utf8}
use Rattle.std.specs.List.{flat_map, list_all}
use Rattle.std.specs.Iterator.{Yields}
use Rattle.std.specs.Str.Iter.{chars_rest}
use Rattle.std.specs.declared.str.Chars.{Chars}
use Rattle.std.proofs.iter.TextItems.{spells}
use Rattle.std.proofs.lemmas.Iterator.{YieldsList-from_chars}
use Rattle.std.proofs.lemmas.Iterator.Consumers.{YieldsList-end}
use Rattle.std.proofs.lemmas.List.{append-nil, flat_map_more, take_more}
use Rattle.std.proofs.lemmas.Str.{encode_ascii, encodes-append}
use Rattle.std.proofs.lemmas.Bool.{false≢true}
use borrow.Author.Tests.{ltb-true}
use Rattle.ddl_tokens_dm.specs.Tokens.{doubled}
use Rattle.value_dm.specs.declared.kind.Kind.{Kind}
use Rattle.value_dm.specs.declared.kind.Kind.TheVariants.{Text, Integer, Decimal, Boolean, Date, Time, DateTime, Binary}
use Rattle.ddl_dm.specs.Canonical.{Adds, type_text}

pub adds_nothing : (old : List ℕ) → Adds old old []
adds_nothing old = sym (append-nil old)

pub adds_then : (first second third x y : List ℕ) → Adds first second x → Adds second third y → Adds first third (x ++ y)
adds_then first second third x y one two =
    two ∙ ap (λ bs. bs ++ encode_utf8_all y) one ∙ append_assoc first (encode_utf8_all x) (encode_utf8_all y) ∙ ap (λ bs. first ++ bs) (sym (encodes-append x y))

pub adds_along : (old new x y : List ℕ) → x ≡ y → Adds old new x → Adds old new y
adds_along old new x y e h = let P : List ℕ → Type 0 = Adds old new in subst P e h

abbrev is_ascii : ℕ → Bool
is_ascii c = nat_lt c 128

-- an ASCII word has the same bytes as characters
pub ascii_bytes : (word : List ℕ) → list_all is_ascii word ≡ true → encode_utf8_all word ≡ word
ascii_bytes [] h = refl
ascii_bytes (c ∷ word) h = by_test (λ k. ascii_bytes word k) (is_ascii c) refl h
  where
    by_test : (list_all is_ascii word ≡ true → encode_utf8_all word ≡ word) → (b : Bool) → is_ascii c ≡ b → (b && list_all is_ascii word) ≡ true → encode_utf8_all (c ∷ word) ≡ c ∷ word
    by_test same true e k = ap (λ bs. bs ++ encode_utf8_all word) (encode_ascii c (ltb-true c 128 e)) ∙ ap (λ bs. c ∷ bs) (same k)
    by_test same false e k = absurd (false≢true k)

-- an ASCII word was pushed
pub adds_word : (old new word : List ℕ) → list_all is_ascii word ≡ true → new ≡ old ++ word → Adds old new word
adds_word old new word ascii e = e ∙ ap (λ bs. old ++ bs) (sym (ascii_bytes word ascii))

pub adds_char : (old new : List ℕ) (c : ℕ) → new ≡ old ++ encode_utf8 c → Adds old new (c ∷ [])
adds_char old new c e = e ∙ ap (λ bs. old ++ bs) (sym (append-nil (encode_utf8 c)))

-- ---- loops

pub adds_more : {X : Type 0} (f : X → List ℕ) (first old new : List ℕ) (xs : List X) (i : ℕ) (x : X) → i < length xs → x ≡ get_or xs i x
    → Adds first old (flat_map f (take i xs)) → Adds old new (f x) → Adds first new (flat_map f (take (i + 1) xs))
adds_more f first old new xs i x within is before step =
    adds_along first new _ _ (flat_map_more f [] (take i xs) x ∙ ap (λ ys. flat_map f ys) (ap (λ y. take i xs ++ y ∷ []) is ∙ sym (take_more xs i x within)))
    (adds_then first old new (flat_map f (take i xs)) (f x) before step)

pub doubled-append : (xs ys : List ℕ) → doubled (xs ++ ys) ≡ doubled xs ++ doubled ys
doubled-append [] ys = refl
doubled-append (x ∷ xs) ys = by_test (doubled-append xs ys) (x == 34)
  where
    by_test : doubled (xs ++ ys) ≡ doubled xs ++ doubled ys → (b : Bool) → (if b then 34 ∷ 34 ∷ doubled (xs ++ ys) else x ∷ doubled (xs ++ ys)) ≡ (if b then 34 ∷ 34 ∷ doubled xs else x ∷ doubled xs) ++ doubled ys
    by_test same true = ap (λ bs. 34 ∷ 34 ∷ bs) same
    by_test same false = ap (λ bs. x ∷ bs) same

pub all_yielded : (bs : List ℕ) → IsUtf8 bs → (s : Chars) → chars_rest s ≡ bs → (xs : List ℕ) (t : Chars) → Yields spells s xs t → (r : Option ℕ) (u : Chars) → r ≡ None → spells t r u → xs ≡ chars bs
all_yielded bs text s rest xs t by r u none steps = sym (map-id xs) ∙ (YieldsList-end (YieldsList-from_chars bs text rest) xs t by r u none steps).0

pub type_ascii : (kind : Kind) → list_all is_ascii (type_text kind) ≡ true
type_ascii Text = refl
type_ascii Integer = refl
type_ascii Decimal = refl
type_ascii Boolean = refl
type_ascii Date = refl
type_ascii Time = refl
type_ascii DateTime = refl
type_ascii Binary = refl

pub no_columns : {X : Type 0} (xs : List X) → length xs ≡ 0 → xs ≡ []
no_columns [] e = refl
no_columns (x ∷ xs) e = absurd (omega arith)
