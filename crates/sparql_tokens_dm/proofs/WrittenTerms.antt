-- Where a written IRI or literal ends: before what is no part of a name, and no datatype or tag.
use Rattle.std.proofs.Common.{◌≡◌, ◌∙◌, ℕ, List, [], ◌∷◌, ◌++◌, Bool, true, false, Option, Some, None, refl, sym, ap, subst, inl, inr}
use Rattle.std.specs.Prelude.{◌==◌, ◌||◌, ◌&&◌, not, if◌then◌else◌}
use Rattle.grammar_dm.specs.Reading.{starts}
use Rattle.names_dm.specs.Characters.{is_ascii_letter}
use Rattle.names_dm.specs.Literals.{LiteralValue, literal_of}
use Rattle.names_dm.specs.Terminals.{is_iri, is_letter_or_digit, is_tag, is_variable_character}
use Rattle.names_dm.specs.declared.literal.LiteralType.{LiteralType}
use Rattle.names_dm.specs.declared.literal.LiteralType.TheVariants.{Plain, Typed, Tagged}
use Rattle.names_dm.specs.declared.term.Term.{Term}
use Rattle.names_dm.specs.declared.term.Term.TheVariants as terms
use Rattle.names_dm.proofs.Words.{rest_is_tag, is_tag-from_loop}
use Rattle.ntriples_reader_dm.specs.Front.{IsLongest}
use Rattle.ntriples_reader_dm.specs.Grammar.{iri_ref, literal, tag}
use Rattle.ntriples_reader_dm.specs.Lawful.{IsLawfulType, IsLawfulTerm}
use Rattle.ntriples_reader_dm.specs.Reading.{◌>>=◌, Read, begins, behind, iri_at, longest_type, or_plain, skip, tag_at, tagged_at, through, typed_at, written_type}
use Rattle.ntriples_reader_dm.specs.WrittenLine.{iri_chars, type_chars, term_chars}
use Rattle.ntriples_reader_dm.proofs.Exact.{both_of, true_false}
use Rattle.ntriples_reader_dm.proofs.Fronts.{iri_front, literal_read}
use Rattle.ntriples_reader_dm.proofs.Readers.{iri_exact, quoted_exact, tag_exact}
use Rattle.ntriples_reader_dm.proofs.Written.{iri_stands, normal, quoted_stands}

-- a character of a variable's name or of a language tag
abbrev pub in_name : ℕ → Bool
in_name c = is_variable_character c || (c == 45)

-- what can stand behind a term
pub record IsBehindTerm (rest : List ℕ) : Type 0 where
  pub name : starts in_name rest ≡ false
  pub datatype : begins 94 (skip rest) ≡ false
  pub tag : begins 64 (skip rest) ≡ false

pub or_parts : (a b : Bool) → (a || b) ≡ false → (a ≡ false) × (b ≡ false)
or_parts true b e = absurd cc
or_parts false b e = (refl, e)

abbrev pub IsNoName : ℕ → Type 0
IsNoName c = (is_ascii_letter c ≡ false) × (is_letter_or_digit c ≡ false) × ((c == 45) ≡ false)

pub no_name : (c : ℕ) → in_name c ≡ false → IsNoName c
no_name c e =
    let both = or_parts (is_variable_character c) (c == 45) e in
    let letter = or_parts (is_letter_or_digit c) (c == 95) both.0 in
    ((or_parts (is_ascii_letter c) _ letter.0).0, letter.0, both.1)

-- ---- tags

abbrev in_tag : Bool → Bool → Bool → Bool → Bool → Bool
in_tag first empty hyphen letter digit = (hyphen && not empty) || (not hyphen && ((first && letter) || (not first && digit)))

not_in_tag : (first empty : Bool) → in_tag first empty false false false ≡ false
not_in_tag true empty = refl
not_in_tag false empty = refl

tag_ends : (first empty : Bool) (cs : List ℕ) (c : ℕ) (ms : List ℕ) → IsNoName c → rest_is_tag first empty (cs ++ c ∷ ms) ≡ true → ⊥
tag_ends first empty [] c ms h e =
    let here = (both_of (in_tag first empty (c == 45) (is_ascii_letter c) (is_letter_or_digit c)) (rest_is_tag (first && not (c == 45)) (c == 45) ms) e).0 in
    true_false _ here (ap (λ b. in_tag first empty b (is_ascii_letter c) (is_letter_or_digit c)) h.2 ∙ ap (λ b. in_tag first empty false b (is_letter_or_digit c)) h.0 ∙ ap (λ b. in_tag first empty false false b) h.1 ∙ not_in_tag first empty)
tag_ends first empty (d ∷ cs) c ms h e =
    tag_ends (first && not (d == 45)) (d == 45) cs c ms h
    (both_of (in_tag first empty (d == 45) (is_ascii_letter d) (is_letter_or_digit d)) (rest_is_tag (first && not (d == 45)) (d == 45) (cs ++ c ∷ ms)) e).1

no_more : (text rest more behind : List ℕ) → starts in_name rest ≡ false → rest ≡ more ++ behind → is_tag (text ++ more) ≡ true → more ≡ []
no_more text rest [] behind ends w k = refl
no_more text rest (m ∷ ms) behind ends w k =
    let here : in_name m ≡ false = sym (ap (starts in_name) w) ∙ ends in
    absurd (tag_ends true true text m ms (no_name m here) (is_tag-from_loop (text ++ m ∷ ms) ∙ k))

tag_stands : (text rest : List ℕ) → is_tag text ≡ true → starts in_name rest ≡ false → tag (64 ∷ (text ++ rest)) rest text
unfolding tag
tag_stands text rest e ends = (text ++ rest, tt, refl, record { stands = refl; allowed = e; longest = λ more behind w k. no_more text rest more behind ends w k })

-- ---- types

abbrev some_type : LiteralType → List ℕ → Read LiteralType
some_type k rest = Some (k, rest)

nothing_behind : (c : ℕ) (ts : List ℕ) → begins c ts ≡ false → behind c ts ≡ None
nothing_behind c [] e = refl
nothing_behind c (d ∷ ts) e = rw e refl

abbrev written_by : Bool → List ℕ → Read LiteralType
written_by b ts = if b then typed_at ts else tagged_at ts

abbrev tag_after : Option (List ℕ) → Read LiteralType
tag_after o = through (λ t. Tagged t) (o >>= λ ts. tag_at (64 ∷ ts))

no_tag : (ts : List ℕ) → begins 64 ts ≡ false → tagged_at ts ≡ None
unfolding tag_at
no_tag ts e = rw (nothing_behind 64 ts e) refl

no_type : (rest : List ℕ) → IsBehindTerm rest → longest_type rest ≡ (Plain, rest)
unfolding longest_type
no_type rest ends = ap (or_plain rest) (ap (λ b. written_by b (skip rest)) ends.datatype ∙ no_tag (skip rest) ends.tag)

typed_found : (d rest : List ℕ) → is_iri d ≡ true → longest_type (type_chars (Typed d) rest) ≡ (Typed d, rest)
unfolding longest_type skip
typed_found d rest e = ap (λ (o : Read (List ℕ)). or_plain (type_chars (Typed d) rest) (through (λ iri. Typed iri) o)) (iri_exact.complete (iri_chars d rest) rest d (iri_stands d rest e))

tagged_found : (t rest : List ℕ) → is_tag t ≡ true → starts in_name rest ≡ false → longest_type (type_chars (Tagged t) rest) ≡ (Tagged t, rest)
unfolding longest_type skip
tagged_found t rest e ends = ap (λ (o : Read (List ℕ)). or_plain (type_chars (Tagged t) rest) (through (λ t. Tagged t) o)) (tag_exact.complete (64 ∷ (t ++ rest)) rest t (tag_stands t rest e ends))

type_found : (k : LiteralType) (rest : List ℕ) → IsLawfulType k → IsBehindTerm rest → longest_type (type_chars k rest) ≡ (k, rest)
type_found Plain rest h ends = no_type rest ends
type_found (Typed d) rest h ends = typed_found d rest h.0.0
type_found (Tagged t) rest h ends = tagged_found t rest h.0 ends.name

-- ---- terms

pub iri_longest : (iri rest : List ℕ) → is_iri iri ≡ true → IsLongest iri_ref (iri_chars iri rest) rest iri
iri_longest iri rest e = iri_front (iri_chars iri rest) (Some (iri, rest)) (iri_exact.complete (iri_chars iri rest) rest iri (iri_stands iri rest e))

pub literal_longest : (l : LiteralValue) (rest : List ℕ) → IsLawfulTerm (terms.Literal l) → IsBehindTerm rest → IsLongest literal (term_chars (terms.Literal l) rest) rest (terms.Literal l)
literal_longest l rest h ends =
    let behind = type_chars l.kind rest in
    literal_read (term_chars (terms.Literal l) rest) behind rest l.text l.kind l
    (quoted_exact.complete (term_chars (terms.Literal l) rest) behind l.text (quoted_stands l.text behind))
    (sym (type_found l.kind rest h.1 ends))
    (normal l.text l.kind h.1)
