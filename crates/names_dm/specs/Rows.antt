-- The IRIs of rows (W3C, A Direct Mapping of Relational Data to RDF: row node): the table, and each column of the key
-- with its value.
use Prim.Native.Char.{code}
use Rattle.std.specs.Prelude.{ℕ, ◌≡◌, ◌≢◌, List, [], ◌∷◌, ◌++◌, map}
use Rattle.std.specs.List.{join_with_byte}
use Rattle.value_dm.specs.Kinds.{kind_of}
use Rattle.value_dm.specs.Lawful.{IsLawful}
use Rattle.value_dm.specs.Lexical.{lexical_form}
use Rattle.names_dm.specs.declared.names.ColumnName.{ColumnName}
use Rattle.names_dm.specs.declared.names.RefName.{RefName}
use Rattle.names_dm.specs.declared.names.RelName.{RelName}
use Rattle.names_dm.specs.declared.key.KeyPart.{KeyPart}
use Rattle.names_dm.specs.IriSafe.{safe_form}
use Rattle.names_dm.specs.Names.{column_iri, equals_sign, ref_iri, rel_iri, semicolon, table_iri}

abbrev pub slash : ℕ
slash = code "/"

-- `A=1`
unfoldable pub key_pair : KeyPart → List ℕ
key_pair part = safe_form part.column ++ equals_sign ∷ safe_form (lexical_form part.value)

-- the pairs with semicolons between them
abbrev pub key_list : List KeyPart → List ℕ
key_list key = join_with_byte semicolon (map key_pair key)

-- `T/A=1;B=2`
abbrev pub row_iri : List ℕ → List ℕ → List KeyPart → List ℕ
row_iri base table key = base ++ (safe_form table ++ slash ∷ key_list key)

-- each value obeys the rules of its type
abbrev pub AreLawful : List KeyPart → Type 0
AreLawful [] = Unit {0}
AreLawful (part ∷ key) = IsLawful part.value × AreLawful key

-- the values have the same kinds, place by place
abbrev pub SameKinds : List KeyPart → List KeyPart → Type 0
SameKinds [] others = Unit {0}
SameKinds (part ∷ key) [] = Unit {0}
SameKinds (part ∷ key) (other ∷ others) = (kind_of part.value ≡ kind_of other.value) × SameKinds key others

-- no row has the IRI of a table, a column, a reference or a relation
pub record RowsApart (base : List ℕ) : Type 0 where
  pub row_table : (table : List ℕ) (key : List KeyPart) (other : List ℕ) → row_iri base table key ≢ table_iri base other
  pub row_column : (table : List ℕ) (key : List KeyPart) (other : ColumnName) → row_iri base table key ≢ column_iri base other
  pub row_ref : (table : List ℕ) (key : List KeyPart) (other : RefName) → row_iri base table key ≢ ref_iri base other
  pub row_rel : (table : List ℕ) (key : List KeyPart) (other : RelName) → row_iri base table key ≢ rel_iri base other
