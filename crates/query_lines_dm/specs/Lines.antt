-- What a query over tables is answered, as text.
use Rattle.std.specs.Prelude.{◌≡◌, ◌↔◌, ℕ, List, Option, map}
use Rattle.members_dm.specs.Membership.{IsIn}
use Rattle.schema_dm.specs.Naming.{Name}
use Rattle.names_dm.specs.Variables.{variable_of}
use Rattle.names_dm.specs.declared.term.Term.{Term}
use Rattle.table_csv.specs.Databases.{Data}
use Rattle.algebra_dm.specs.Attributes.{AreAttributes}
use Rattle.algebra_dm.specs.Tuples.{IsTuple, Tuple}
use Rattle.algebra_dm.specs.declared.query.Query.{Query}
use Rattle.query_rows_dm.specs.Grids.{term_in}
use Rattle.tsv_dm.specs.Lines.{IsTsv}

-- a term for each variable of a header, or none where it is unbound
abbrev pub TermRow : Type 0
TermRow = List (Option Term)

-- the text is the header's line and the lines of exactly the rows with the property (SPARQL 1.1 Query Results CSV and TSV
-- Formats, section 4)
pub record AreLinesOf (header : List (List ℕ)) (IsRow : TermRow → Type 0) (text : List ℕ) : Type 0 where
  pub rows : List TermRow
  pub exact : (row : TermRow) → IsIn row rows ↔ IsRow row
  pub lines : IsTsv header rows text

-- the row is what a tuple of the query has under the names: the natural literal of a value (R2RML, section 10.2), and no term
-- for NULL
abbrev pub IsTermRow : Data → Query → List Name → TermRow → Type 0
IsTermRow D q names row = (w : Tuple) × IsTuple D q w × (row ≡ map (λ a. term_in (w a)) names)

-- the text has the variables of the query's attributes, in the order of their bytes, and then the query's tuples
pub record AreQueryLines (D : Data) (q : Query) (text : List ℕ) : Type 0 where
  pub names : List Name
  pub attributes : AreAttributes D.tables q names
  pub lines : AreLinesOf (map variable_of names) (IsTermRow D q names) text
