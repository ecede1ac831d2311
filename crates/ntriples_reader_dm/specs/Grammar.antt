-- A line of a document (RDF 1.1 N-Triples, section 7, with blanks allowed inside literals), in characters.
use Rattle.std.specs.Prelude.{ℕ, ◌+◌, ◌*◌, zero, suc, List, [], Option, not, chars, IsUtf8}
use Rattle.names_dm.specs.Literals.{literal_of}
use Rattle.names_dm.specs.Statements.{Statement}
use Rattle.names_dm.specs.Terminals.{is_forbidden, is_label, is_tag}
use Rattle.names_dm.specs.declared.literal.LiteralType.{LiteralType}
use Rattle.names_dm.specs.declared.literal.LiteralType.TheVariants.{Plain, Typed, Tagged}
use Rattle.names_dm.specs.declared.term.Term.{Term}
use Rattle.names_dm.specs.declared.term.Term.TheVariants as term
use Rattle.ntriples_dm.specs.Written.{is_escaped}
use Rattle.ntriples_reader_dm.specs.Characters.{is_blank, is_scalar, hex_value, escape_value}
use Rattle.ntriples_reader_dm.specs.Part.{Part, character, sign, valued, give, then, or, optional, passing, repeated, some_of, longest, the_rest}

abbrev pub blanks : Part (Unit {0})
blanks = some_of is_blank

-- so many more hexadecimal digits behind those of the number so far
abbrev pub hex_digits : ℕ → ℕ → Part ℕ
hex_digits zero so_far = give so_far
hex_digits (suc n) so_far = then (valued hex_value) (λ d. hex_digits n (16 * so_far + d))

-- UCHAR: \u and 4 digits, or \U and 8, that write a scalar value; what stands behind the backslash
abbrev pub code_point : Part ℕ
code_point = passing is_scalar (or
    (then (sign 117) (λ _. hex_digits 4 0))
    (then (sign 85) (λ _. hex_digits 8 0)))

unfoldable pub uchar : Part ℕ
uchar = then (sign 92) (λ _. code_point)

-- ECHAR
unfoldable pub echar : Part ℕ
echar = then (sign 92) (λ _. valued escape_value)

-- a character that an IRI can hold, as itself or as UCHAR
abbrev pub iri_character : Part ℕ
iri_character = passing (λ c. not (is_forbidden c)) (or character uchar)

-- IRIREF
unfoldable pub iri_ref : Part (List ℕ)
iri_ref = then (sign 60) (λ _. then (repeated iri_character) (λ iri. then (sign 62) (λ _. give iri)))

-- a character that can stand for itself inside quotes, ECHAR or UCHAR
abbrev pub text_character : Part ℕ
text_character = or (passing (λ c. not (is_escaped c)) character) (or echar uchar)

-- STRING_LITERAL_QUOTE
unfoldable pub quoted : Part (List ℕ)
quoted = then (sign 34) (λ _. then (repeated text_character) (λ text. then (sign 34) (λ _. give text)))

-- BLANK_NODE_LABEL
unfoldable pub label : Part (List ℕ)
label = then (sign 95) (λ _. then (sign 58) (λ _. longest is_label))

-- LANGTAG
unfoldable pub tag : Part (List ℕ)
tag = then (sign 64) (λ _. longest is_tag)

-- what stands behind the quotes of a literal
unfoldable pub literal_type : Part LiteralType
literal_type = or (give Plain) (or
    (then blanks (λ _. then (sign 94) (λ _. then (sign 94) (λ _. then blanks (λ _. then iri_ref (λ iri. give (Typed iri)))))))
    (then blanks (λ _. then tag (λ t. give (Tagged t)))))

unfoldable pub literal : Part Term
literal = then quoted (λ text. then literal_type (λ kind. give (term.Literal (literal_of text kind))))

unfoldable pub subject : Part Term
subject = or (then iri_ref (λ iri. give (term.Iri iri))) (then label (λ l. give (term.Blank l)))

unfoldable pub object : Part Term
object = or subject literal

unfoldable pub triple : Part Statement
triple =
    then subject (λ s. then blanks (λ _.
    then iri_ref (λ p. then blanks (λ _.
    then object (λ o. then blanks (λ _.
    then (sign 46) (λ _. give (record { subject = s; predicate = p; object = o }))))))))

unfoldable pub comment : Part (Unit {0})
comment = then (sign 35) (λ _. the_rest)

unfoldable pub line : Part (Option Statement)
line = then blanks (λ _. then (optional triple) (λ x. then blanks (λ _. then (optional comment) (λ _. give x))))

-- A line of bytes is UTF-8, and all of it is a line of characters, which says a triple or nothing.
abbrev pub IsLine : List ℕ → Option Statement → Type 0
IsLine bytes x = IsUtf8 bytes × line (chars bytes) [] x
