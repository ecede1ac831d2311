-- The tokens of a text are lawful: names, IRIs and literals as their types hold them.
use Rattle.std.proofs.Common.{◌≡◌, ◌≢◌, ◌∙◌, ℕ, zero, suc, ◌+◌, ◌*◌, List, [], ◌∷◌, ◌++◌, length, take, Bool, true, false, Option, Some, None, refl, sym, ap, subst, arith, cond, chars, inl, inr, IsUtf8}
use Rattle.std.specs.Prelude.{◌==◌, ◌||◌, ◌&&◌, not}
use Rattle.std.specs.List.{list_all, list_any}
use Rattle.std.specs.Str.{all_scalars, IsValidUpTo}
use Rattle.std.proofs.Math.Utf8.{scalar}
use Rattle.std.proofs.lemmas.Str.{scalars-chars}
use Rattle.value_dm.specs.Texts.{IsText}
use Rattle.names_dm.specs.Literals.{LiteralValue, is_string_type, literal_of, normal_type}
use Rattle.names_dm.specs.Terminals.{is_forbidden, is_iri, is_tag, is_variable, is_variable_character}
use Rattle.names_dm.specs.declared.literal.LiteralType.{LiteralType}
use Rattle.names_dm.specs.declared.literal.LiteralType.TheVariants.{Plain, Typed, Tagged}
use Rattle.names_dm.specs.declared.term.Term.{Term}
use Rattle.names_dm.specs.declared.term.Term.TheVariants as terms
use Rattle.ntriples_reader_dm.specs.Characters.{escape_value, hex_value, is_scalar}
use Rattle.ntriples_reader_dm.specs.Grammar.{blanks, code_point, echar, hex_digits, iri_character, iri_ref, literal, literal_type, quoted, tag, text_character, uchar}
use Rattle.ntriples_reader_dm.specs.Lawful.{IsIri, IsLawfulTerm, IsLawfulType, IsTag}
use Rattle.ntriples_reader_dm.specs.Part.{Repeats}
use Rattle.ntriples_reader_dm.specs.Part.Repeats.{no_repeat, one_more}
use Rattle.ntriples_reader_dm.proofs.Exact.{both_of}
use Rattle.sparql_tokens_dm.specs.Characters.{sign_text, spelling}
use Rattle.sparql_tokens_dm.specs.Tokens.{AreTokens, Consists, StandsToken, stop_behind}
use Rattle.sparql_tokens_dm.specs.Tokens.Consists.{nothing, between, token}
use Rattle.sparql_tokens_dm.specs.declared.token.Token.{Token}
use Rattle.sparql_tokens_dm.specs.declared.token.Token.TheVariants.{Sign, Word, Var, Iri, Literal}
use Rattle.sparql_tokens_dm.specs.declared.token.Placed.{Placed}
use Rattle.sparql_tokens_dm.proofs.Pieces.{tokens_in}
use Rattle.sparql_tokens_dm.proofs.Scans.{token_behind}

-- ---- parts of texts are texts

first_scalar : (c : ℕ) (ts rest : List ℕ) → ts ≡ c ∷ rest → IsText ts → (scalar c ≡ true) × IsText rest
first_scalar c ts rest e h = both_of (scalar c) (all_scalars rest) (sym (ap all_scalars e) ∙ h)

both_true : (x y : Bool) → x ≡ true → y ≡ true → (x && y) ≡ true
both_true x y d e = rw (d, e) refl

split_text : (a b : List ℕ) → IsText (a ++ b) → IsText a × IsText b
split_text [] b h = (refl, h)
split_text (c ∷ a) b h =
    let first = both_of (scalar c) (all_scalars (a ++ b)) h in
    let more = split_text a b first.1 in
    (both_true (scalar c) (all_scalars a) first.0 more.0, more.1)

whole_text : (ts a b : List ℕ) → ts ≡ a ++ b → IsText ts → IsText a × IsText b
whole_text ts a b e h = split_text a b (sym (ap all_scalars e) ∙ h)

-- ---- single characters

abbrev One : ℕ → List ℕ → Type 0
One c rest = (scalar c ≡ true) × IsText rest

is_a_scalar : (c : ℕ) → is_scalar c ≡ true → scalar c ≡ true
is_a_scalar c e = grind (arith)

hex_text : (n so_far : ℕ) (ts rest : List ℕ) (v : ℕ) → hex_digits n so_far ts rest v → IsText ts → IsText rest
hex_text zero so_far ts rest v s h = sym (ap all_scalars s.0) ∙ h
hex_text (suc n) so_far ts rest v s h = hex_text n (16 * so_far + s.1) s.0 rest v s.3 (first_scalar s.2.0 ts s.0 s.2.1 h).1

code_text : (ts rest : List ℕ) (c : ℕ) → code_point ts rest c → IsText ts → One c rest
code_text ts rest c s h = (
  is_a_scalar c s.1,
  elim s.0 [
    | inl k ↦ hex_text 4 0 k.0 rest c k.3 (first_scalar 117 ts k.0 k.2 h).1
    | inr k ↦ hex_text 8 0 k.0 rest c k.3 (first_scalar 85 ts k.0 k.2 h).1
  ],
)

uchar_text : (ts rest : List ℕ) (c : ℕ) → uchar ts rest c → IsText ts → One c rest
unfolding uchar
uchar_text ts rest c s h = code_text s.0 rest c s.3 (first_scalar 92 ts s.0 s.2 h).1

some_is : (v w : ℕ) → ◌≡◌ {A = Option ℕ} (Some v) (Some w) → v ≡ w
some_is v w e = cc

none_some : {W : Type 0} (w : ℕ) → ◌≡◌ {A = Option ℕ} None (Some w) → W
none_some w e = absurd cc

same_scalar : (v w : ℕ) → scalar v ≡ true → ◌≡◌ {A = Option ℕ} (Some v) (Some w) → scalar w ≡ true
same_scalar v w h e = sym (ap scalar (some_is v w e)) ∙ h

escape_step : (d w : ℕ) (a b e f g h : Bool) → scalar d ≡ true → cond a (Some 9) (cond b (Some 8) (cond e (Some 10) (cond f (Some 13) (cond g (Some 12) (cond h (Some d) None))))) ≡ Some w → scalar w ≡ true
escape_step d w true b e f g h s k = same_scalar 9 w refl k
escape_step d w false true e f g h s k = same_scalar 8 w refl k
escape_step d w false false true f g h s k = same_scalar 10 w refl k
escape_step d w false false false true g h s k = same_scalar 13 w refl k
escape_step d w false false false false true h s k = same_scalar 12 w refl k
escape_step d w false false false false false true s k = same_scalar d w s k
escape_step d w false false false false false false s k = none_some w k

echar_text : (ts rest : List ℕ) (c : ℕ) → echar ts rest c → IsText ts → One c rest
unfolding echar
echar_text ts rest c s h =
    let behind = (first_scalar 92 ts s.0 s.2 h).1 in
    let d = s.3.0 in
    let first = first_scalar d s.0 rest s.3.1 behind in
    (escape_step d c (d == 116) (d == 98) (d == 110) (d == 114) (d == 102) ((d == 34) || (d == 39) || (d == 92)) first.0 s.3.2, first.1)

iri_character_text : (ts rest : List ℕ) (c : ℕ) → iri_character ts rest c → IsText ts → One c rest
iri_character_text ts rest c s h = elim s.0 [ inl k ↦ first_scalar c ts rest k h | inr k ↦ uchar_text ts rest c k h ]

text_character_text : (ts rest : List ℕ) (c : ℕ) → text_character ts rest c → IsText ts → One c rest
text_character_text ts rest c s h = elim s [
  | inl k ↦ first_scalar c ts rest k.0 h
  | inr k ↦ elim k [ inl e ↦ echar_text ts rest c e h | inr u ↦ uchar_text ts rest c u h ]
]

repeats_text : (one : List ℕ → List ℕ → ℕ → Type 0) → ((ts rest : List ℕ) (c : ℕ) → one ts rest c → IsText ts → One c rest) → {ts rest cs : List ℕ} → Repeats one ts rest cs → IsText ts → IsText cs × IsText rest
repeats_text one f no_repeat h = (refl, h)
repeats_text one f (one_more {ts = ts} {mid = mid} {v = c} {vs = cs} s r) h =
    let first = f ts mid c s h in
    let more = repeats_text one f r first.1 in
    (both_true (scalar c) (all_scalars cs) first.0 more.0, more.1)

-- ---- IRIs

not_forbidden : (c : ℕ) (cs : List ℕ) → not (is_forbidden c) ≡ true → list_any is_forbidden cs ≡ false → list_any is_forbidden (c ∷ cs) ≡ false
not_forbidden c cs e h = by (is_forbidden c) e
  where
    by : (b : Bool) → not b ≡ true → (b || list_any is_forbidden cs) ≡ false
    by true k = absurd cc
    by false k = h

all_allowed : {ts rest cs : List ℕ} → Repeats iri_character ts rest cs → list_any is_forbidden cs ≡ false
all_allowed no_repeat = refl
all_allowed (one_more {v = c} {vs = cs} s r) = not_forbidden c cs s.1 (all_allowed r)

iri_text : (ts rest iri : List ℕ) → iri_ref ts rest iri → IsText ts → IsIri iri × IsText rest
unfolding iri_ref is_iri
iri_text ts rest iri s h =
    let inside = s.3 in
    let close = inside.3 in
    let read = repeats_text iri_character iri_character_text inside.2 (first_scalar 60 ts s.0 s.2 h).1 in
    let after = (first_scalar 62 inside.0 close.0 close.2 read.1).1 in
    let same : iri ≡ inside.1 = close.3.1 in
    (subst (λ (x : List ℕ). IsIri x) (sym same) (ap not (all_allowed inside.2), read.0), sym (ap all_scalars close.3.0) ∙ after)

-- ---- literals

blanks_text : (ts rest : List ℕ) → blanks ts rest tt → IsText ts → IsText rest
blanks_text ts rest s h = (whole_text ts s.0 rest s.1 h).1

quoted_text : (ts rest text : List ℕ) → quoted ts rest text → IsText ts → IsText text × IsText rest
unfolding quoted
quoted_text ts rest text s h =
    let inside = s.3 in
    let close = inside.3 in
    let read = repeats_text text_character text_character_text inside.2 (first_scalar 34 ts s.0 s.2 h).1 in
    let after = (first_scalar 34 inside.0 close.0 close.2 read.1).1 in
    (sym (ap all_scalars (sym close.3.1)) ∙ read.0, sym (ap all_scalars close.3.0) ∙ after)

tag_text : (ts rest t : List ℕ) → tag ts rest t → IsText ts → IsTag t
unfolding tag
tag_text ts rest t s h = (s.3.allowed, (whole_text s.0 t rest s.3.stands (first_scalar 64 ts s.0 s.2 h).1).0)

-- before the type xsd:string is left out
abbrev IsWrittenType : LiteralType → Type 0
IsWrittenType Plain = Unit {0}
IsWrittenType (Typed d) = IsIri d
IsWrittenType (Tagged t) = IsTag t

type_text : (ts rest : List ℕ) (k : LiteralType) → literal_type ts rest k → IsText ts → IsWrittenType k
unfolding literal_type
type_text ts rest k s h = elim s [
  | inl plain ↦ subst (λ (x : LiteralType). IsWrittenType x) (sym plain.1) tt
  | inr other ↦ elim other [
    | inl typed ↦
        let first = blanks_text ts typed.0 typed.2 h in
        let one = typed.3 in
        let two = one.3 in
        let three = two.3 in
        let four = three.3 in
        let behind = blanks_text two.0 three.0 three.2 (first_scalar 94 one.0 two.0 two.2 (first_scalar 94 typed.0 one.0 one.2 first).1).1 in
        subst (λ (x : LiteralType). IsWrittenType x) (sym four.3.1) (iri_text three.0 four.0 four.1 four.2 behind).0
    | inr tagged ↦
        let first = blanks_text ts tagged.0 tagged.2 h in
        let one = tagged.3 in
        subst (λ (x : LiteralType). IsWrittenType x) (sym one.3.1) (tag_text tagged.0 one.0 one.1 one.2 first)
  ]
]

abbrev type_by : Bool → LiteralType → LiteralType
type_by b k = cond b Plain k

typed_lawful : (d : List ℕ) (b : Bool) → is_string_type (Typed d) ≡ b → IsIri d → IsLawfulType (type_by b (Typed d))
typed_lawful d true e h = tt
typed_lawful d false e h = (h, e)

type_lawful : (k : LiteralType) → IsWrittenType k → IsLawfulType (normal_type k)
type_lawful Plain h = tt
type_lawful (Typed d) h = typed_lawful d (is_string_type (Typed d)) refl h
type_lawful (Tagged t) h = h

literal_text : (ts rest : List ℕ) (t : Term) → literal ts rest t → IsText ts → IsLawfulTerm t
unfolding literal
literal_text ts rest t s h =
    let behind = s.3 in
    let read = quoted_text ts s.0 s.1 s.2 h in
    subst (λ (x : Term). IsLawfulTerm x) (sym behind.3.1) (read.0, type_lawful behind.1 (type_text s.0 behind.0 behind.1 behind.2 read.1))

-- ---- tokens

abbrev pub IsLawfulToken : Token → Type 0
IsLawfulToken (Sign s) = Unit {0}
IsLawfulToken (Word w) = Unit {0}
IsLawfulToken (Var x) = is_variable x ≡ true
IsLawfulToken (Iri i) = IsLawfulTerm (terms.Iri i)
IsLawfulToken (Literal l) = IsLawfulTerm (terms.Literal l)

abbrev pub AreLawful : List Token → Type 0
AreLawful [] = Unit {0}
AreLawful (t ∷ ts) = IsLawfulToken t × AreLawful ts

name_lawful : (x : List ℕ) → x ≢ [] → list_all is_variable_character x ≡ true → is_variable x ≡ true
unfolding is_variable
name_lawful [] some e = absurd (some refl)
name_lawful (c ∷ cs) some e = e

token_lawful : (t : Token) (ts rest : List ℕ) → StandsToken t ts rest → IsText ts → IsLawfulToken t
token_lawful (Sign s) ts rest h text = tt
token_lawful (Word w) ts rest h text = tt
token_lawful (Var x) ts rest h text = name_lawful x h.0 h.1.2.pass
token_lawful (Iri i) ts rest h text = (iri_text ts rest i h.stands text).0
token_lawful (Literal l) ts rest h text = literal_text ts rest (terms.Literal l) h.stands text

consists_lawful : {total : ℕ} {ts rest : List ℕ} {found : List Placed} → Consists total ts found rest → IsText ts → AreLawful (tokens_in found)
consists_lawful nothing text = tt
consists_lawful (between {ts = ts} {after = after} s h) text = consists_lawful h (first_scalar s.0 ts after s.1 text).1
consists_lawful (token {ts = ts} {after = after} {token = t} s h) text =
    let behind = token_behind t ts after s in
    let mid = (first_scalar behind.0 ts behind.1 behind.2 text).1 in
    (token_lawful t ts after s text, consists_lawful h (whole_text behind.1 behind.3.front after behind.3.whole mid).1)

pub tokens_lawful : (bytes : List ℕ) (found : List Placed) → AreTokens bytes found None → AreLawful (tokens_in found)
tokens_lawful bytes found (inl h) = consists_lawful h.1 (scalars-chars bytes h.0)
tokens_lawful bytes found (inr h) = absurd (let e = h.2.2 in none_is h.2.0 h.0 e)
  where
    none_is : (end : Option ℕ) (n : ℕ) → ◌≡◌ {A = Option ℕ} None (Some (stop_behind end n)) → ⊥
    none_is end n e = absurd cc
