-- Which first tokens shut one another out: decided by how the words are spelled.
use Rattle.std.proofs.Common.{◌≡◌, ℕ, List, [], ◌∷◌, Bool, true, false, refl, sym, ap, ◌∙◌, encode_utf8_all}
use Rattle.std.proofs.lemmas.Bool.{eqb-true}
use Rattle.std.specs.Prelude.{is_some, ◌==◌, ◌&&◌, ◌||◌, not}
use Rattle.std.specs.Str.{bytes_eq, str_to_ascii_lowercase, str_eq_ignore_ascii_case}
use Rattle.std.specs.Cmp.Lexicographic.{bytes_decides}
use Rattle.ddl_syntax_dm.specs.declared.token.Keyword.{Keyword}
use Rattle.ddl_tokens_dm.specs.declared.token.Token.{Token}
use Rattle.ddl_tokens_dm.specs.declared.token.Token.TheVariants as tokens
use Rattle.ddl_tokens_dm.specs.declared.token.Placed.{Placed}
use Rattle.ddl_tokens_dm.specs.Characters.{character}
use Rattle.ddl_syntax_dm.specs.Words.{Name, spelling, spells_word, asked}
use Rattle.ddl_syntax_dm.specs.Reading.{First, is_first, is_one_of}
use Rattle.ddl_syntax_dm.specs.Reading.First.{a_word, a_sign}

-- ---- two of them

abbrev same_words : Keyword → Keyword → Bool
same_words a b = str_eq_ignore_ascii_case (spelling a) (spelling b)

abbrev same_first : First → First → Bool
same_first (a_word a) (a_word b) = same_words a b
same_first (a_word a) (a_sign b) = false
same_first (a_sign a) (a_word b) = false
same_first (a_sign a) (a_sign b) = character a == character b

true_false : {W : Type 0} (b : Bool) → b ≡ true → b ≡ false → W
true_false b d e = absurd cc

asked_is : (b : Bool) → is_some (asked b) ≡ b
asked_is true = refl
asked_is false = refl

is_not : (b : Bool) → (b ≡ true → ⊥) → b ≡ false
is_not true h = absurd (h refl)
is_not false h = refl

decides_to : (xs ys : List ℕ) → bytes_eq xs ys ≡ true → xs ≡ ys
decides_to xs ys e = (bytes_decides xs ys).0 e

-- a name that is one word is another exactly where the words are the same
words_of : (a b : Keyword) (name : Name) → spells_word (spelling a) name ≡ true → spells_word (spelling b) name ≡ same_words a b
unfolding spells_word
words_of a b name e = ap (λ xs. bytes_eq xs (str_to_ascii_lowercase (spelling b))) (decides_to (str_to_ascii_lowercase (encode_utf8_all name)) (str_to_ascii_lowercase (spelling a)) e)

firsts_of : (f g : First) (t : Token) (p : ℕ) → is_first f (record { token = t; place = p }) ≡ true → is_first g (record { token = t; place = p }) ≡ same_first f g
firsts_of (a_word a) (a_word b) (tokens.Sign s) p e = absurd cc
firsts_of (a_word a) (a_word b) tokens.Number p e = absurd cc
firsts_of (a_word a) (a_word b) (tokens.Word n) p e = asked_is (spells_word (spelling b) n) ∙ words_of a b n (sym (asked_is (spells_word (spelling a) n)) ∙ e)
firsts_of (a_word a) (a_word b) (tokens.Quoted n) p e = absurd cc
firsts_of (a_word a) (a_sign b) (tokens.Sign s) p e = absurd cc
firsts_of (a_word a) (a_sign b) tokens.Number p e = absurd cc
firsts_of (a_word a) (a_sign b) (tokens.Word n) p e = refl
firsts_of (a_word a) (a_sign b) (tokens.Quoted n) p e = absurd cc
firsts_of (a_sign a) (a_word b) (tokens.Sign s) p e = refl
firsts_of (a_sign a) (a_word b) tokens.Number p e = absurd cc
firsts_of (a_sign a) (a_word b) (tokens.Word n) p e = absurd cc
firsts_of (a_sign a) (a_word b) (tokens.Quoted n) p e = absurd cc
firsts_of (a_sign a) (a_sign b) (tokens.Sign s) p e = asked_is (character s == character b) ∙ ap (λ c. c == character b) (eqb-true (character s) (character a) (sym (asked_is (character s == character a)) ∙ e))
firsts_of (a_sign a) (a_sign b) tokens.Number p e = absurd cc
firsts_of (a_sign a) (a_sign b) (tokens.Word n) p e = absurd cc
firsts_of (a_sign a) (a_sign b) (tokens.Quoted n) p e = absurd cc

first_is : (f g : First) (t : Placed) → is_first f t ≡ true → is_first g t ≡ same_first f g
first_is f g t e = firsts_of f g t.token t.place e

-- ---- lists of them

abbrev one_same : First → List First → Bool
one_same f [] = false
one_same f (g ∷ gs) = same_first f g || one_same f gs

abbrev pub are_apart : List First → List First → Bool
are_apart [] gs = true
are_apart (f ∷ fs) gs = not (one_same f gs) && are_apart fs gs

abbrev pub are_among : List First → List First → Bool
are_among [] gs = true
are_among (f ∷ fs) gs = one_same f gs && are_among fs gs

one_is : (f : First) (gs : List First) (t : Placed) → is_first f t ≡ true → is_one_of gs t ≡ one_same f gs
one_is f [] t e = refl
one_is f (g ∷ gs) t e = ap (λ b. b || is_one_of gs t) (first_is f g t e) ∙ ap (λ b. same_first f g || b) (one_is f gs t e)

either_of : {W : Type 0} (x y : Bool) → (x || y) ≡ true → (x ≡ true → W) → (y ≡ true → W) → W
either_of true y e p q = p refl
either_of false y e p q = q e

both_of : (x y : Bool) → (x && y) ≡ true → (x ≡ true) × (y ≡ true)
both_of true y e = (refl, e)
both_of false y e = absurd cc

not_of : (x : Bool) → not x ≡ true → x ≡ false
not_of true e = absurd cc
not_of false e = refl

pub apart : (fs gs : List First) → are_apart fs gs ≡ true → (t : Placed) → is_one_of fs t ≡ true → is_one_of gs t ≡ false
apart [] gs d t e = absurd cc
apart (f ∷ fs) gs d t e =
    let p = both_of (not (one_same f gs)) (are_apart fs gs) d in
    either_of (is_first f t) (is_one_of fs t) e (λ h. one_is f gs t h ∙ not_of (one_same f gs) p.0) (λ h. apart fs gs p.1 t h)

pub among : (fs gs : List First) → are_among fs gs ≡ true → (t : Placed) → is_one_of fs t ≡ true → is_one_of gs t ≡ true
among [] gs d t e = absurd cc
among (f ∷ fs) gs d t e =
    let p = both_of (one_same f gs) (are_among fs gs) d in
    either_of (is_first f t) (is_one_of fs t) e (λ h. one_is f gs t h ∙ p.0) (λ h. among fs gs p.1 t h)

-- ---- one of them

or_false : (x : Bool) → (x || false) ≡ x
or_false true = refl
or_false false = refl

pub alone : (f : First) (t : Placed) → is_first f t ≡ true → is_one_of (f ∷ []) t ≡ true
alone f t e = or_false (is_first f t) ∙ e

pub not_alone : (f : First) (t : Placed) → is_one_of (f ∷ []) t ≡ false → is_first f t ≡ false
not_alone f t e = sym (or_false (is_first f t)) ∙ e

pub lone : (f : First) (t : Placed) → is_one_of (f ∷ []) t ≡ true → is_first f t ≡ true
lone f t e = sym (or_false (is_first f t)) ∙ e

-- one of a list is not another
pub apart_first : (fs : List First) (g : First) → are_apart fs (g ∷ []) ≡ true → (t : Placed) → is_one_of fs t ≡ true → is_first g t ≡ false
apart_first fs g d t e = not_alone g t (apart fs (g ∷ []) d t e)

pub two_apart : (f g : First) → same_first f g ≡ false → (t : Placed) → is_first f t ≡ true → is_first g t ≡ false
two_apart f g d t e = first_is f g t e ∙ d

-- one is in a list
pub first_among : (f : First) (gs : List First) → one_same f gs ≡ true → (t : Placed) → is_first f t ≡ true → is_one_of gs t ≡ true
first_among f gs d t e = one_is f gs t e ∙ d

-- what is none of a list is not a first of it
pub none_among : (f : First) (gs : List First) → one_same f gs ≡ true → (t : Placed) → is_one_of gs t ≡ false → is_first f t ≡ false
none_among f gs d t e = is_not (is_first f t) (λ h. true_false (is_one_of gs t) (first_among f gs d t h) e)
