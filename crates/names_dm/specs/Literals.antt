-- Literals: a text with a datatype or a language tag (RDF 1.1 Concepts, section 3.3).
use Rattle.std.specs.Prelude.{ℕ, Bool, false, List, ◌++◌, if◌then◌else◌, nat_eq, codes}
use Rattle.std.specs.Cmp.Lexicographic.{pointwise}
use Rattle.names_dm.specs.Namespaces.{xsd}
use Rattle.names_dm.specs.declared.literal.LiteralType.{LiteralType}
use Rattle.names_dm.specs.declared.literal.LiteralType.TheVariants.{Plain, Typed, Tagged}

abbrev pub xsd_string : List ℕ
xsd_string = xsd ++ codes "string"

-- a literal as clauses see it
pub record LiteralValue : Type 0 where
  pub text : List ℕ
  pub kind : LiteralType

abbrev pub is_string_type : LiteralType → Bool
is_string_type (Typed datatype) = pointwise nat_eq datatype xsd_string
is_string_type Plain = false
is_string_type (Tagged tag) = false

-- a plain literal has the type xsd:string, which is never written
abbrev pub normal_type : LiteralType → LiteralType
normal_type kind = if is_string_type kind then Plain else kind

-- the literal of a text and a type
abbrev pub literal_of : List ℕ → LiteralType → LiteralValue
literal_of text kind = record { text = text; kind = normal_type kind }
