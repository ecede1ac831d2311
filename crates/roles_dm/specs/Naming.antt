-- The names that the terms of a graph tell. All names are good ones: not empty, not beginning with U+FEFF, of scalar values.
use Rattle.std.specs.Prelude.{◌≡◌, ◌≢◌, ℕ, List, [], MatchOption, Option}
use Rattle.value_dm.specs.Texts.{IsText}
use Rattle.schema_dm.specs.Naming.{Name}
use Rattle.names_dm.specs.declared.names.ColumnName.{ColumnName}
use Rattle.names_dm.specs.declared.term.Term.{Term}
use Rattle.names_dm.specs.declared.term.Term.TheVariants as term
use Rattle.names_dm.specs.Names.{column_iri}
use Rattle.names_dm.specs.declared.names.RefName.{RefName}
use Rattle.names_dm.specs.declared.names.RelName.{RelName}
use Rattle.facts_dm.specs.Facts.{Link, link_iri, ref_link, rel_link, table_term}
use Rattle.layouts_dm.specs.Layouts.{IsGoodLink, IsGoodName}

abbrev pub IsGoodColumn : ColumnName → Type 0
IsGoodColumn c = IsGoodName c.table × IsGoodName c.column

-- the term is the IRI of the column
abbrev pub column_term : List ℕ → ColumnName → Term
column_term base c = term.Iri (column_iri base c)

-- the table whose IRI the term is, if there is one
abbrev pub NamesTable : List ℕ → Term → Option Name → Type 0
NamesTable base x found = MatchOption found ((t : Name) → IsGoodName t → x ≢ table_term base t) (λ t. IsGoodName t × (x ≡ table_term base t))

-- the column whose IRI the term is, if there is one
abbrev pub NamesColumn : List ℕ → Term → Option ColumnName → Type 0
NamesColumn base x found = MatchOption found ((c : ColumnName) → IsGoodColumn c → x ≢ column_term base c) (λ c. IsGoodColumn c × (x ≡ column_term base c))

-- the IRI of a reference or relation
abbrev pub link_term : List ℕ → Link → Term
link_term base l = term.Iri (link_iri base l)

-- a reference of good names, on a column
abbrev pub IsGoodReference : RefName → Type 0
IsGoodReference r = IsGoodLink (ref_link r) × (r.columns ≢ [])

-- the reference whose IRI the term is, if there is one
abbrev pub NamesReference : List ℕ → Term → Option RefName → Type 0
NamesReference base x found = MatchOption found ((r : RefName) → IsGoodReference r → x ≢ link_term base (ref_link r)) (λ r. IsGoodReference r × (x ≡ link_term base (ref_link r)))

-- the relation whose IRI the term is, if there is one
abbrev pub NamesRelation : List ℕ → Term → Option RelName → Type 0
NamesRelation base x found = MatchOption found ((q : RelName) → IsGoodLink (rel_link q) → x ≢ link_term base (rel_link q)) (λ q. IsGoodLink (rel_link q) × (x ≡ link_term base (rel_link q)))

abbrev pub AreTexts : RelName → Type 0
AreTexts q = IsText q.table × IsText q.left × IsText q.left_target × IsText q.right × IsText q.right_target
