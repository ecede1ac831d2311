-- What `bench` tells of a database: its rows, the triples of its map graph, and the tuples of two queries.
use Rattle.std.specs.Prelude.{◌≡◌, ◌++◌, ℕ, pos, List, [], ◌∷◌, length, sum_by, codes, decimal}
use Rattle.schema_dm.specs.Naming.{Name}
use Rattle.value_dm.specs.declared.value.Value.TheVariants.{Integer}
use Rattle.table_csv.specs.Cells.{Row}
use Rattle.table_csv.specs.Databases.{Data}
use Rattle.names_dm.specs.Statements.{Statement}
use Rattle.ntriples_reader_dm.specs.Document.{IsDocument}
use Rattle.graphs_dm.specs.Graphs.{IsGraphText}
use Rattle.graphs_dm.specs.declared.graph_name.GraphName.TheVariants.{Map}
use Rattle.algebra_dm.specs.Attributes.{AreAttributes}
use Rattle.algebra_dm.specs.declared.query.Query.{Query}
use Rattle.algebra_dm.specs.declared.query.Query.TheVariants as queries
use Rattle.query_rows_dm.specs.Answers.{AreRows}

-- what the graph's IRIs begin with
abbrev pub base_text : List ℕ
base_text = codes "http://example.com/"

-- (diff (project (table Note) text size) (ne (table Note) size integer "1"))
abbrev pub answer_query : Query
answer_query = queries.Diff
    (queries.Project (queries.Table (codes "Note")) (codes "text" ∷ codes "size" ∷ []))
    (queries.Ne (queries.Table (codes "Note")) (codes "size") (Integer (pos 1)))

-- (join (rename (table Person) id person) (table Member))
abbrev pub joined_query : Query
joined_query = queries.Join (queries.Rename (queries.Table (codes "Person")) (codes "id") (codes "person")) (queries.Table (codes "Member"))

-- the number of rows of all tables
abbrev pub row_count : Data → ℕ
row_count D = sum_by length D.rows

-- the text of the database's map graph has so many triples
pub record HasTriples (base : List ℕ) (D : Data) (count : ℕ) : Type 0 where
  pub text : List ℕ
  pub triples : List Statement
  pub is_text : IsGraphText Map base D text
  pub says : IsDocument text triples
  pub counted : count ≡ length triples

-- the rows are those of the query's tuples, each once
abbrev pub AreRowsOfQuery : Data → Query → List Row → Type 0
AreRowsOfQuery D q rows = (names : List Name) → AreAttributes D.tables q names → AreRows D q names rows

-- the query has so many tuples
pub record HasTuples (D : Data) (q : Query) (count : ℕ) : Type 0 where
  pub rows : List Row
  pub are : AreRowsOfQuery D q rows
  pub counted : count ≡ length rows

-- the five lines
abbrev pub bench_text : ℕ → ℕ → ℕ → ℕ → List ℕ
bench_text rows triples answers joined =
    codes "rows " ++ decimal rows ++ codes "\ntriples " ++ decimal triples ++ codes "\ninverted equal\nanswer " ++ decimal answers
    ++ codes " equal\njoined " ++ decimal joined ++ codes " equal\n"

-- the text is the lines of these counts
pub record IsBenchText (D : Data) (text : List ℕ) : Type 0 where
  pub triples : ℕ
  pub answers : ℕ
  pub joined : ℕ
  pub has_triples : HasTriples base_text D triples
  pub has_answers : HasTuples D answer_query answers
  pub has_joined : HasTuples D joined_query joined
  pub lines : text ≡ bench_text (row_count D) triples answers joined
