-- The words of the vocabularies that graphs are written with, and their IRIs.
use Rattle.std.specs.Prelude.{ℕ, List, ◌++◌, codes}
use Rattle.value_dm.specs.declared.kind.Kind.{Kind}
use Rattle.value_dm.specs.declared.kind.Kind.TheVariants as kind
use Rattle.names_dm.specs.declared.literal.LiteralType.{LiteralType}
use Rattle.names_dm.specs.declared.literal.LiteralType.TheVariants as type
use Rattle.names_dm.specs.Literals.{xsd_string}
use Rattle.names_dm.specs.Namespaces.{owl, rdf, rdfs, xsd}
use Rattle.facts_dm.specs.declared.word.Word.{Word}
use Rattle.facts_dm.specs.declared.word.Word.TheVariants.{RdfType, RdfsDomain, RdfsRange, OwlDifferentFrom, OwlClass, OwlDatatypeProperty, OwlObjectProperty, Datatype}

-- R2RML, section 10.2: the datatype of a kind; a text has the type xsd:string
abbrev pub datatype_iri : Kind → List ℕ
datatype_iri kind.Text = xsd_string
datatype_iri kind.Integer = xsd ++ codes "integer"
datatype_iri kind.Decimal = xsd ++ codes "decimal"
datatype_iri kind.Boolean = xsd ++ codes "boolean"
datatype_iri kind.Date = xsd ++ codes "date"
datatype_iri kind.Time = xsd ++ codes "time"
datatype_iri kind.DateTime = xsd ++ codes "dateTime"
datatype_iri kind.Binary = xsd ++ codes "hexBinary"

-- a text's literal is plain
abbrev pub literal_type : Kind → LiteralType
literal_type kind.Text = type.Plain
literal_type kind.Integer = type.Typed (datatype_iri kind.Integer)
literal_type kind.Decimal = type.Typed (datatype_iri kind.Decimal)
literal_type kind.Boolean = type.Typed (datatype_iri kind.Boolean)
literal_type kind.Date = type.Typed (datatype_iri kind.Date)
literal_type kind.Time = type.Typed (datatype_iri kind.Time)
literal_type kind.DateTime = type.Typed (datatype_iri kind.DateTime)
literal_type kind.Binary = type.Typed (datatype_iri kind.Binary)

abbrev pub word_iri : Word → List ℕ
word_iri RdfType = rdf ++ codes "type"
word_iri RdfsDomain = rdfs ++ codes "domain"
word_iri RdfsRange = rdfs ++ codes "range"
word_iri OwlDifferentFrom = owl ++ codes "differentFrom"
word_iri OwlClass = owl ++ codes "Class"
word_iri OwlDatatypeProperty = owl ++ codes "DatatypeProperty"
word_iri OwlObjectProperty = owl ++ codes "ObjectProperty"
word_iri (Datatype k) = datatype_iri k
