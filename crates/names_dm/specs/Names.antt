-- The IRIs of tables, columns, references and relations: the base, and after it, as text, what names them (W3C, A Direct
-- Mapping of Relational Data to RDF: table IRI, literal property IRI, reference property IRI; relations are named in the
-- same way).
use Prim.Native.Char.{code}
use Rattle.std.specs.Prelude.{ℕ, List, ◌∷◌, ◌++◌, codes, map}
use Rattle.std.specs.List.{join_with_byte}
use Rattle.names_dm.specs.IriSafe.{safe_form}
use Rattle.names_dm.specs.declared.names.ColumnName.{ColumnName}
use Rattle.names_dm.specs.declared.names.RefName.{RefName}
use Rattle.names_dm.specs.declared.names.RelName.{RelName}

abbrev pub number_sign : ℕ
number_sign = code "#"

abbrev pub semicolon : ℕ
semicolon = code ";"

abbrev pub equals_sign : ℕ
equals_sign = code "="

-- `T`
abbrev pub table_part : List ℕ → List ℕ
table_part table = safe_form table

-- `T#C`
abbrev pub column_part : ColumnName → List ℕ
column_part name = safe_form name.table ++ number_sign ∷ safe_form name.column

-- the safe names with semicolons between them
abbrev pub column_list : List (List ℕ) → List ℕ
column_list columns = join_with_byte semicolon (map safe_form columns)

-- `T#ref-A;B`
abbrev pub ref_part : RefName → List ℕ
ref_part name = safe_form name.table ++ number_sign ∷ (codes "ref-" ++ column_list name.columns)

-- `A=C`
abbrev pub pairing : List ℕ → List ℕ → List ℕ
pairing column target = safe_form column ++ equals_sign ∷ safe_form target

-- `T#rel-A=C;B=D`
abbrev pub rel_part : RelName → List ℕ
rel_part name =
    safe_form name.table ++ number_sign ∷ (codes "rel-" ++ (pairing name.left name.left_target ++ semicolon ∷ pairing name.right name.right_target))

abbrev pub table_iri : List ℕ → List ℕ → List ℕ
table_iri base table = base ++ table_part table

abbrev pub column_iri : List ℕ → ColumnName → List ℕ
column_iri base name = base ++ column_part name

abbrev pub ref_iri : List ℕ → RefName → List ℕ
ref_iri base name = base ++ ref_part name

abbrev pub rel_iri : List ℕ → RelName → List ℕ
rel_iri base name = base ++ rel_part name
