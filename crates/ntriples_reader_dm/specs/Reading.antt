-- Reading a line from left to right: the value of a part and the characters behind it, or nothing.
use Rattle.std.specs.Prelude.{ℕ, ◌+◌, ◌*◌, ◌==◌, ◌||◌, ◌&&◌, zero, suc, List, [], ◌∷◌, Option, Some, None, Bool, true, false, not, length, if◌then◌else◌}
use Rattle.names_dm.specs.Literals.{LiteralValue, literal_of}
use Rattle.names_dm.specs.Statements.{Statement}
use Rattle.names_dm.specs.Terminals.{is_forbidden, begins_label, continues_label, is_letter_or_digit}
use Rattle.names_dm.specs.Characters.{is_ascii_letter}
use Rattle.names_dm.specs.declared.literal.LiteralType.{LiteralType}
use Rattle.names_dm.specs.declared.literal.LiteralType.TheVariants.{Plain, Typed, Tagged}
use Rattle.names_dm.specs.declared.term.Term.{Term}
use Rattle.names_dm.specs.declared.term.Term.TheVariants as term
use Rattle.ntriples_dm.specs.Written.{is_escaped}
use Rattle.ntriples_reader_dm.specs.Characters.{is_blank, is_scalar, hex_value, escape_value}

abbrev pub Read : Type 0 → Type 0
Read V = Option (V × List ℕ)

infixl 10 ◌>>=◌
abbrev pub ◌>>=◌ : {A B : Type 0} → Option A → (A → Option B) → Option B
None >>= f = None
(Some x) >>= f = f x

abbrev pub begins : ℕ → List ℕ → Bool
begins c [] = false
begins c (d ∷ ts) = d == c

-- what stands behind this character
abbrev pub behind : ℕ → List ℕ → Option (List ℕ)
behind c [] = None
behind c (d ∷ ts) = if d == c then Some ts else None

abbrev pub through : {V W : Type 0} → (V → W) → Read V → Read W
through f read = read >>= λ x. Some (f x.0, x.1)

abbrev pub only : {V : Type 0} → (V → Bool) → Read V → Read V
only test read = read >>= λ x. (if test x.0 then Some x else None)

unfoldable pub skip : List ℕ → List ℕ
skip [] = []
skip (c ∷ ts) = if is_blank c then skip ts else c ∷ ts

abbrev pub valued_at : {V : Type 0} → (ℕ → Option V) → List ℕ → Read V
valued_at f [] = None
valued_at f (c ∷ ts) = f c >>= λ v. Some (v, ts)

abbrev pub hex_at : ℕ → ℕ → List ℕ → Read ℕ
hex_at zero so_far ts = Some (so_far, ts)
hex_at (suc n) so_far ts = valued_at hex_value ts >>= λ d. hex_at n (16 * so_far + d.0) d.1

-- behind `\u` or `\U`
abbrev pub number_at : ℕ → List ℕ → Read ℕ
number_at n ts = only is_scalar (hex_at n 0 ts)

-- behind the backslash of UCHAR
abbrev pub code_at : List ℕ → Read ℕ
code_at ts = if begins 117 ts then (behind 117 ts >>= hex_at 4 0) else (behind 85 ts >>= hex_at 8 0)

unfoldable pub number_behind : List ℕ → Read ℕ
number_behind ts = only is_scalar (code_at ts)

unfoldable pub iri_one : List ℕ → Read ℕ
iri_one [] = None
iri_one (c ∷ ts) = if c == 92 then only (λ c. not (is_forbidden c)) (number_behind ts) else (if is_forbidden c then None else Some (c, ts))

unfoldable pub text_one : List ℕ → Read ℕ
text_one [] = None
text_one (c ∷ ts) =
    if c == 92 then (if begins 117 ts || begins 85 ts then number_behind ts else valued_at escape_value ts)
    else (if is_escaped c then None else Some (c, ts))

abbrev pub with_first : ℕ → Read (List ℕ) → Read (List ℕ)
with_first c read = through (λ cs. c ∷ cs) read

-- characters up to the closing one, n at most
unfoldable pub until_within : ℕ → (List ℕ → Read ℕ) → ℕ → List ℕ → Read (List ℕ)
until_within close one zero ts = None
until_within close one (suc n) [] = None
until_within close one (suc n) (c ∷ ts) = if c == close then Some ([], ts) else (one (c ∷ ts) >>= λ x. with_first x.0 (until_within close one n x.1))

abbrev pub until_at : ℕ → (List ℕ → Read ℕ) → List ℕ → Read (List ℕ)
until_at close one ts = until_within close one (length ts) ts

unfoldable pub iri_at : List ℕ → Read (List ℕ)
iri_at ts = behind 60 ts >>= until_at 62 iri_one

unfoldable pub quoted_at : List ℕ → Read (List ℕ)
quoted_at ts = behind 34 ts >>= until_at 34 text_one

-- a text, and what stands behind it
abbrev pub with_more : ℕ → List ℕ × List ℕ → List ℕ × List ℕ
with_more c x = (c ∷ x.0, x.1)

-- the rest of a label: a dot belongs to it only where something else of it follows
abbrev pub dotted : ℕ → List ℕ → List ℕ × List ℕ → List ℕ × List ℕ
dotted c ts ([], rest) = if c == 46 then ([], c ∷ ts) else (c ∷ [], rest)
dotted c ts (d ∷ ds, rest) = (c ∷ d ∷ ds, rest)

unfoldable pub label_rest : List ℕ → List ℕ × List ℕ
label_rest [] = ([], [])
label_rest (c ∷ ts) = if continues_label c then dotted c ts (label_rest ts) else ([], c ∷ ts)

unfoldable pub label_text : List ℕ → Read (List ℕ)
label_text [] = None
label_text (c ∷ ts) = if begins_label c then Some (with_more c (label_rest ts)) else None

unfoldable pub label_at : List ℕ → Read (List ℕ)
label_at ts = behind 95 ts >>= λ a. behind 58 a >>= label_text

-- whether the first character passes a test
abbrev pub starts : (ℕ → Bool) → List ℕ → Bool
starts test [] = false
starts test (c ∷ ts) = test c

-- the rest of a tag, in its first part or in a further one: a hyphen belongs to it only where a letter or digit follows
abbrev pub in_part : Bool → ℕ → Bool
in_part first c = if first then is_ascii_letter c else is_letter_or_digit c

unfoldable pub tag_rest : Bool → List ℕ → List ℕ × List ℕ
tag_rest first [] = ([], [])
tag_rest first (c ∷ ts) =
    if in_part first c then with_more c (tag_rest first ts)
    else (if (c == 45) && starts is_letter_or_digit ts then with_more c (tag_rest false ts) else ([], c ∷ ts))

unfoldable pub tag_text : List ℕ → Read (List ℕ)
tag_text [] = None
tag_text (c ∷ ts) = if is_ascii_letter c then Some (with_more c (tag_rest true ts)) else None

unfoldable pub tag_at : List ℕ → Read (List ℕ)
tag_at ts = behind 64 ts >>= tag_text

abbrev pub typed_at : List ℕ → Read LiteralType
typed_at ts = behind 94 ts >>= λ a. behind 94 a >>= λ b. through (λ iri. Typed iri) (iri_at (skip b))

abbrev pub tagged_at : List ℕ → Read LiteralType
tagged_at ts = through (λ t. Tagged t) (tag_at ts)

unfoldable pub type_at : List ℕ → Read LiteralType
type_at ts = if begins 94 ts then typed_at ts else (if begins 64 ts then tagged_at ts else Some (Plain, ts))

unfoldable pub literal_at : List ℕ → Read Term
literal_at ts = quoted_at ts >>= λ x. through (λ kind. term.Literal (literal_of x.0 kind)) (type_at (skip x.1))

-- behind the quotes of a literal the longest type: a datatype, a tag, or none
abbrev pub written_type : List ℕ → Read LiteralType
written_type ts = if begins 94 ts then typed_at ts else tagged_at ts

abbrev pub or_plain : List ℕ → Read LiteralType → LiteralType × List ℕ
or_plain ts None = (Plain, ts)
or_plain ts (Some x) = x

unfoldable pub longest_type : List ℕ → LiteralType × List ℕ
longest_type ts = or_plain ts (written_type (skip ts))

-- the longest literal
unfoldable pub longest_literal : List ℕ → Read LiteralValue
longest_literal ts = quoted_at ts >>= λ x. Some (literal_of x.0 (longest_type x.1).0, (longest_type x.1).1)

unfoldable pub subject_at : List ℕ → Read Term
subject_at ts = if begins 60 ts then through (λ iri. term.Iri iri) (iri_at ts) else through (λ l. term.Blank l) (label_at ts)

unfoldable pub object_at : List ℕ → Read Term
object_at ts = if begins 34 ts then literal_at ts else subject_at ts

unfoldable pub triple_at : List ℕ → Read Statement
triple_at ts =
    subject_at ts >>= λ s. iri_at (skip s.1) >>= λ p. object_at (skip p.1) >>= λ o.
    behind 46 (skip o.1) >>= λ rest. Some (record { subject = s.0; predicate = p.0; object = o.0 }, rest)

-- whether nothing is left but a comment
abbrev pub ended : List ℕ → Bool
ended [] = true
ended (c ∷ ts) = c == 35

abbrev pub said : Statement × List ℕ → Option (Option Statement)
said x = if ended (skip x.1) then Some (Some x.0) else None

unfoldable pub line_at : List ℕ → Option (Option Statement)
line_at ts = if ended (skip ts) then Some None else (triple_at (skip ts) >>= said)
