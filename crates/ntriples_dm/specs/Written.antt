-- The written form of terms and triples (RDF 1.1 N-Triples, section 4: the canonical form), in bytes. The type xsd:string, which
-- a plain literal has, isn't written.
use Prim.Native.Char.{code}
use Rattle.std.specs.Prelude.{ℕ, ◌==◌, ◌||◌, Bool, List, [], ◌∷◌, ◌++◌, codes, encode_utf8_all, if◌then◌else◌}
use Rattle.std.specs.List.{flat_map}
use Rattle.names_dm.specs.Statements.{Statement}
use Rattle.names_dm.specs.declared.literal.LiteralType.{LiteralType}
use Rattle.names_dm.specs.declared.literal.LiteralType.TheVariants.{Plain, Typed, Tagged}
use Rattle.names_dm.specs.declared.term.Term.{Term}
use Rattle.names_dm.specs.declared.term.Term.TheVariants as term

-- a quotation mark, a backslash, LF or CR: the characters that can't stand for themselves inside quotes
abbrev pub is_escaped : ℕ → Bool
is_escaped c = (c == code "\"") || (c == code "\\") || (c == code "\n") || (c == code "\r")

-- a character inside quotes: ECHAR where it can't stand for itself
unfoldable pub escaped : ℕ → List ℕ
escaped c =
    if c == code "\"" then codes "\\\"" else (if c == code "\\" then codes "\\\\" else (if c == code "\n" then codes "\\n" else (if c == code "\r" then codes "\\r" else c ∷ [])))

-- the bytes of a text inside quotes
abbrev pub quoted_text : List ℕ → List ℕ
quoted_text text = encode_utf8_all (flat_map escaped text)

abbrev pub iri_text : List ℕ → List ℕ
iri_text iri = code "<" ∷ encode_utf8_all iri ++ codes ">"

-- what stands behind the quotes
abbrev pub type_text : LiteralType → List ℕ
type_text Plain = []
type_text (Typed datatype) = codes "^^" ++ iri_text datatype
type_text (Tagged tag) = codes "@" ++ encode_utf8_all tag

abbrev pub term_text : Term → List ℕ
term_text (term.Iri iri) = iri_text iri
term_text (term.Blank label) = codes "_:" ++ encode_utf8_all label
term_text (term.Literal literal) = code "\"" ∷ quoted_text literal.text ++ code "\"" ∷ type_text literal.kind

-- the line of a triple, with its LF
unfoldable pub triple_text : Statement → List ℕ
triple_text triple = term_text triple.subject ++ codes " " ++ iri_text triple.predicate ++ codes " " ++ term_text triple.object ++ codes " .\n"
