-- The texts that the lines of a table's rows share, and the lines that are made of them.
use Rattle.std.specs.Prelude.{ℕ, Bool, false, ◌≡◌, zero, suc, List, [], ◌∷◌, ◌++◌, codes, map, Option, Some, None, encode_utf8_all, if◌then◌else◌}
use Rattle.std.specs.List.{AllZip}
use Rattle.value_dm.specs.declared.value.Value.{Value}
use Rattle.value_dm.specs.Kinds.{kind_of}
use Rattle.value_dm.specs.Lexical.{lexical_form}
use Rattle.schema_dm.specs.declared.draft.Column.{Column}
use Rattle.schema_dm.specs.declared.table.Binary.{Binary}
use Rattle.facts_dm.specs.Facts.{link_iri}
use Rattle.graphs_dm.specs.Relations.{relation_of}
use Rattle.schema_dm.specs.declared.table.ForeignKey.{ForeignKey}
use Rattle.schema_dm.specs.declared.table.Table.{Table}
use Rattle.names_dm.specs.IriSafe.{safe_form}
use Rattle.names_dm.specs.Names.{column_iri, equals_sign, ref_iri, semicolon, table_iri}
use Rattle.names_dm.specs.Rows.{key_pair}
use Rattle.names_dm.specs.declared.key.KeyPart.{KeyPart}
use Rattle.ntriples_dm.specs.Written.{quoted_text, triple_text, type_text}
use Rattle.names_dm.specs.declared.term.Term.TheVariants as term
use Rattle.facts_dm.specs.declared.word.Word.{Word}
use Rattle.facts_dm.specs.declared.word.Word.TheVariants.{RdfType, RdfsDomain, RdfsRange}
use Rattle.table_csv.specs.Cells.{Cell}
use Rattle.graphs_dm.specs.declared.heads.TableHeads.{TableHeads}
use Rattle.facts_dm.specs.Vocabulary.{literal_type, word_iri}
use Rattle.schema_dm.specs.Naming.{name_at}

-- an IRI between two texts
unfoldable pub framed : List ℕ → List ℕ → List ℕ → List ℕ
framed before iri after = before ++ (encode_utf8_all iri ++ after)

-- what stands behind the subject of a row type triple
unfoldable pub class_end : List ℕ → Table → List ℕ
class_end base table = framed (codes " <http://www.w3.org/1999/02/22-rdf-syntax-ns#type> <") (table_iri base table.name) (codes "> .\n")

-- what stands between the subject and the text of a literal
unfoldable pub column_head : List ℕ → Table → Column → List ℕ
column_head base table column = framed (codes " <") (column_iri base (record { table = table.name; column = column.name })) (codes "> \"")

-- what stands between the subject and the node of a reference
unfoldable pub reference_head : List ℕ → Table → ForeignKey → List ℕ
reference_head base table key = framed (codes " <") (ref_iri base (record { table = table.name; columns = map (name_at table.columns) key.columns })) (codes "> ")

-- what stands before the key of a row
unfoldable pub row_stem : List ℕ → Table → List ℕ
row_stem base table = framed (codes "<") (table_iri base table.name) (codes "/")

-- what stands before the value of a key's column
unfoldable pub part_head : List Column → ℕ → List ℕ
part_head columns place = encode_utf8_all (safe_form (name_at columns place) ++ equals_sign ∷ [])

abbrev pub primary_places : Option (List ℕ) → List ℕ
primary_places None = []
primary_places (Some places) = places

pub record AreHeads (base : List ℕ) (table : Table) (heads : TableHeads) : Type 0 where
  pub class_text : heads.class_text ≡ class_end base table
  pub columns : heads.columns ≡ map (column_head base table) table.columns
  pub stem : heads.stem ≡ row_stem base table
  pub parts : heads.parts ≡ map (part_head table.columns) (primary_places table.primary)
  pub references : heads.references ≡ map (reference_head base table) table.foreign

-- those of each table
abbrev pub AreAllHeads : List ℕ → List Table → List TableHeads → Type 0
AreAllHeads base tables heads = AllZip (AreHeads base) tables heads

-- what stands between the nodes of a row of a relation
unfoldable pub relation_head : List ℕ → List Table → ℕ → Binary → List ℕ
relation_head base tables t sides = framed (codes " <") (link_iri base (relation_of tables t sides)) (codes "> ")

-- ---- lines

-- the line of a literal
unfoldable pub value_line : List ℕ → List ℕ → Value → List ℕ
value_line subject head value = subject ++ (head ++ (quoted_text (lexical_form value) ++ (34 ∷ type_text (literal_type (kind_of value)) ++ codes " .\n")))

-- the line of a cell, where there are a column and a value
abbrev pub cell_line : List ℕ → Option (List ℕ) → Option Cell → List ℕ
cell_line subject (Some head) (Some (Some value)) = value_line subject head value
cell_line subject _ _ = []

-- the texts of the places below a number, in order
unfoldable pub up_to : ℕ → (ℕ → List ℕ) → List ℕ
up_to zero text = []
up_to (suc n) text = up_to n text ++ text n

-- ---- keys

-- the text of a part behind others, where there is one
abbrev pub added : Bool → List KeyPart → List ℕ
added first [] = []
added first (part ∷ parts) = (if first then [] else semicolon ∷ []) ++ key_pair part

-- whether the next part is the first
abbrev pub still_first : Bool → List KeyPart → Bool
still_first first [] = first
still_first first (part ∷ parts) = false

-- ---- the ontology

-- the line of a triple of IRIs, the predicate a word
unfoldable pub iri_line : List ℕ → Word → List ℕ → List ℕ
iri_line subject predicate object = triple_text (record { subject = term.Iri subject; predicate = word_iri predicate; object = term.Iri object })

-- the lines that a property is one of this sort, of its domain and of its range
unfoldable pub property_lines : List ℕ → Word → List ℕ → List ℕ → List ℕ
property_lines property sort domain range = iri_line property RdfType (word_iri sort) ++ (iri_line property RdfsDomain domain ++ iri_line property RdfsRange range)
