-- What the program promises of its commands, for files that are well-formed.
use Rattle.std.specs.Prelude.{◌≡◌, ◌≢◌, ◌⊎◌, ℕ, ◌≤◌, List, [], ◌∷◌, length, map, Some, Err, IsTrue, encode_utf8_all, ◌↔◌}
use Rattle.std.specs.Io.KnownBytes.{Appends}
use Rattle.std.specs.FinMap.{get}
use Rattle.std.specs.List.{flat_map}
use Rattle.members_dm.specs.Places.{IsListing}
use Rattle.value_dm.specs.declared.mode.NullMode.{NullMode}
use Rattle.value_dm.specs.Texts.{IsText}
use Rattle.names_dm.specs.Namespaces.{is_base}
use Rattle.names_dm.specs.Statements.{Statement}
use Rattle.schema_dm.specs.declared.table.Table.{Table}
use Rattle.outside_dm.specs.Shelves.{Files, ShelfState, longest}
use Rattle.outside_dm.specs.Sinks.{SinkState}
use Rattle.outside_dm.specs.Storing.{Batch, StoresAll}
use Rattle.ddl_dm.specs.Canonical.{canonical_text, plain_table}
use Rattle.ddl_dm.specs.Schema.{IsDdl}
use Rattle.table_csv.specs.Cells.{Row}
use Rattle.table_csv.specs.Databases.{Data, IsDatabase}
use Rattle.table_csv.specs.TableFiles.{IsTableFile}
use Rattle.table_csv.specs.CanonicalText.{IsFileOfSame}
use Rattle.table_csv.specs.Plain.{IsPlain, PlainTable}
use Rattle.inverse_dm.specs.Answers.{Refuses, StandsWithin}
use Rattle.inverse_dm.specs.Parts.{shape_of as shapes_of}
use Rattle.inverse_dm.specs.declared.error.InverseError.{InverseError}
use Rattle.keys_dm.specs.Violations.{KeepsKeys, ViolatesAt}
use Rattle.keys_dm.specs.declared.violation.Violation.{Violation}
use Rattle.append_dm.specs.Appended.{IsBatchFor, appended}
use Rattle.append_dm.specs.Batches.{Enlarges, IsBatchText}
use Rattle.clean_dm.specs.Kept.{AreRowsOfPart, with_rows}
use Rattle.clean_dm.specs.Parts.{IsLargestPart}
use Rattle.clean_dm.specs.Removing.{IsCleaning, IsLeft}
use Rattle.clean_dm.specs.declared.removal.Removal.{Removal}
use Rattle.ntriples_dm.specs.Written.{triple_text}
use Rattle.ntriples_reader_dm.specs.Document.{IsDocument, limit}
use Rattle.consistency_dm.specs.Conflicts.{IsVerdict}
use Rattle.consistency_dm.specs.declared.verdict.Verdict.{Verdict}
use Rattle.consistency_dm.specs.declared.verdict.Verdict.TheVariants.{Yes}
use Rattle.algebra_dm.specs.Nodes.{IsFaultless}
use Rattle.algebra_dm.specs.Certain.{KeepsKeysOf}
use Rattle.algebra_dm.specs.declared.error.QueryError.{QueryError}
use Rattle.algebra_dm.specs.declared.error.QueryError.TheVariants as query
use Rattle.algebra_dm.specs.declared.query.Mode.{Mode}
use Rattle.algebra_dm.specs.declared.query.Query.{Query}
use Rattle.query_text_dm.specs.Answer.{IsAnswer, IsTextOfQuery}
use Rattle.query_lines_dm.specs.Lines.{AreQueryLines}
use Rattle.pattern_lines_dm.specs.Lines.{AreSolutionLines}
use Rattle.sparql_text_dm.specs.Answer.{IsAnswer as IsParsedAs, IsTextOf}
use Rattle.sparql_text_dm.specs.declared.error.SparqlError.{SparqlError}
use Rattle.sparql_text_dm.specs.declared.error.SparqlError.TheVariants as sparql
use Rattle.sparql_text_dm.specs.declared.parsed.Parsed.{Parsed}
use Rattle.table_patterns_dm.specs.TablePatterns.{graph_of}
use Rattle.graphs_dm.specs.Graphs.{AreTriplesOf, IsGraphText}
use Rattle.graphs_dm.specs.Interpreted.{IsInterpretedWhereKept}
use Rattle.graphs_dm.specs.declared.graph_name.GraphName.{GraphName}
use Rattle.graphs_dm.specs.declared.graph_name.GraphName.TheVariants as graph
use Rattle.bench_dm.specs.Generated.{generated}
use Rattle.bench_lines_dm.specs.Bench.{IsBenchText}
use Rattle.cmd_dm.specs.Answered.{AreAnswersIn, IsPatternText}
use Rattle.cmd_dm.specs.Check.{check_text}
use Rattle.cmd_dm.specs.Consistent.{verdict_text}
use Rattle.cmd_dm.specs.Ending.{NoFault, Wrote}
use Rattle.cmd_dm.specs.Folder.{schema_file, table_file, AreFilesOf, AreFolderFiles, shape_of}
use Rattle.cmd_dm.specs.Clean.{clean_work}
use Rattle.cmd_dm.specs.Reasons.{batch_reason, inverse_status, key_reason, query_status, sparql_status}
use Rattle.cmd_dm.specs.Script.{Work}
use Rattle.cmd_dm.specs.declared.command.Command.{Command}
use Rattle.cmd_dm.specs.declared.command.Command.TheVariants.{Direct, Map, MapKeys, Check, Show, Consistent, Clean, Append, Invert, Rows, Translate, Ask, Sparql, Bench}
use Rattle.cmd_dm.specs.declared.status.Status.{Status}
use Rattle.cmd_dm.specs.declared.status.Status.TheVariants.{Ok as Done, Refused, Memory}

-- the files have this file, and it is no longer than a load takes
pub record HoldsFile (files : Files) (name bytes : List ℕ) : Type 0 where
  pub held : get files name ≡ Some bytes
  pub short : length bytes ≤ longest

-- the file of a table is there and is one of these rows
pub record HoldsTable (files : Files) (folder : List ℕ) (mode : NullMode) (table : Table) (rows : List Row) : Type 0 where
  pub bytes : List ℕ
  pub holds : HoldsFile files (table_file folder table.name) bytes
  pub reads : IsTableFile table.columns mode bytes rows

abbrev pub HoldsTables : Files → List ℕ → NullMode → List Table → List (List Row) → Type 0
HoldsTables files folder mode [] [] = Unit {0}
HoldsTables files folder mode (table ∷ tables) (rows ∷ others) = HoldsTable files folder mode table rows × HoldsTables files folder mode tables others
HoldsTables files folder mode _ _ = ⊥

-- the files of a folder are there and are this database
pub record HoldsDatabase (files : Files) (folder : List ℕ) (mode : NullMode) (D : Data) : Type 0 where
  pub bytes : List ℕ
  pub holds : HoldsFile files (schema_file folder) bytes
  pub reads : IsDdl bytes D.tables
  pub tables : HoldsTables files folder mode D.tables D.rows

-- without a fault the run ends with this status or for want of memory
abbrev pub EndsSo : Status → ShelfState → ShelfState → SinkState → SinkState → Status → Type 0
EndsSo wanted old new before after status = NoFault old new before after → (status ≡ wanted) ⊎ (status ≡ Memory)

-- without a fault the run ends well or for want of memory; and where it ends well, the output holds what it held, followed by
-- the text that is such
pub record WritesText (IsText : List ℕ → Type 0) (old new : ShelfState) (before after : SinkState) (status : Status) : Type 0 where
  pub no_fault : EndsSo Done old new before after status
  pub written : status ≡ Done → (text : List ℕ) × (IsText text × Appends before.held after.held text)

-- where no key is violated the text of the graph is written; else without a fault the run is refused for the violation that
-- stands first
pub record WritesKept (name : GraphName) (base : List ℕ) (D : Data) (old new : ShelfState) (before after : SinkState) (status : Status) : Type 0 where
  pub kept : KeepsKeys D → WritesText (IsGraphText name base D) old new before after status
  pub violated : (first : Violation) (others : List Violation) → IsListing (ViolatesAt D) (first ∷ others) → EndsSo (Refused (key_reason first)) old new before after status

-- the text of the map-keys graph is written, whose triples have an interpretation exactly where no key is violated
pub record WritesMarked (base : List ℕ) (D : Data) (old new : ShelfState) (before after : SinkState) (status : Status) : Type 0 where
  pub writes : WritesText (IsGraphText graph.MapKeys base D) old new before after status
  pub contradicts : IsInterpretedWhereKept base D

-- `direct` and `map` write their graphs where no key is violated, and `map-keys` its graph of every database
abbrev pub WritesGraph : GraphName → List ℕ → Data → ShelfState → ShelfState → SinkState → SinkState → Status → Type 0
WritesGraph graph.Direct base D old new before after status = WritesKept graph.Direct base D old new before after status
WritesGraph graph.Map base D old new before after status = WritesKept graph.Map base D old new before after status
WritesGraph graph.MapKeys base D old new before after status = WritesMarked base D old new before after status

-- and that where the shelf tells files that are well-formed, and the base is one that IRIs can begin with
abbrev pub WritesFolder : GraphName → List ℕ → List ℕ → NullMode → ShelfState → ShelfState → SinkState → SinkState → Status → Type 0
WritesFolder name base folder nulls old new before after status =
    (files : Files) (D : Data) → old.files ≡ Some files → IsTrue (is_base base) → HoldsDatabase files folder nulls D → WritesGraph name base D old new before after status

-- `check`: the lines of the violations, which are all in order, and of their count are written
abbrev pub Checks : Data → ShelfState → ShelfState → SinkState → SinkState → Status → Type 0
Checks D old new before after status =
    WritesText (λ text. (found : List Violation) × IsListing (ViolatesAt D) found × (text ≡ check_text D.tables found)) old new before after status

-- what `clean` writes of a database with this schema file: the removals in their order; the files of the rows that they leave, which
-- are the largest part of the database that keeps its keys, and keep them; and the lines
pub record IsCleanWork (out schema : List ℕ) (D : Data) (work : Work) : Type 0 where
  pub removals : List Removal
  pub rows : List (List Row)
  pub files : Batch
  pub cleaning : IsCleaning D removals
  pub left : AreRowsOfPart D (IsLeft removals) rows
  pub largest : IsLargestPart D (IsLeft removals)
  pub kept : KeepsKeys (with_rows D rows)
  pub tables : AreFilesOf out (map shape_of D.tables) rows files
  pub is : work ≡ clean_work out (record { schema = schema; database = D }) removals files

-- `clean`: without a fault the run ends well or for want of memory; and where it ends well, all of that was stored and put
pub record Cleans (out schema : List ℕ) (D : Data) (old new : ShelfState) (before after : SinkState) (status : Status) : Type 0 where
  pub no_fault : EndsSo Done old new before after status
  pub written : status ≡ Done → (work : Work) × (IsCleanWork out schema D work × Wrote work old new before after)

-- `append`: where both the database and the database with the batch behind its rows keep their keys, the text of the new triples is
-- written, which are those of the batch's rows and complete the old map graph to the new one. Else without a fault the run is
-- refused for the violation that stands first in the database, or in both together where the database alone has none
pub record WritesBatch (base : List ℕ) (D batch : Data) (old new : ShelfState) (before after : SinkState) (status : Status) : Type 0 where
  pub kept : KeepsKeys D → KeepsKeys (appended D batch) → WritesText (IsBatchText base D (appended D batch)) old new before after status
  pub enlarges : KeepsKeys D → KeepsKeys (appended D batch) → Enlarges base D (appended D batch)
  pub violated : (first : Violation) (others : List Violation) → IsListing (ViolatesAt D) (first ∷ others) → EndsSo (Refused (key_reason first)) old new before after status
  pub batch_violated : KeepsKeys D → (first : Violation) (others : List Violation) → IsListing (ViolatesAt (appended D batch)) (first ∷ others)
      → EndsSo (Refused (batch_reason first)) old new before after status

-- the entries are read, in the mode Plain, as the rows of the tables, each table's in some order
abbrev pub AreReadBack : List PlainTable → Batch → Type 0
AreReadBack [] [] = Unit {0}
AreReadBack (plain ∷ tables) (entry ∷ entries) = IsFileOfSame plain.shape.columns plain.rows entry.1 × AreReadBack tables entries
AreReadBack _ _ = ⊥

-- the files are those of the tables in the folder, and they are read back: the schema's file declares the tables, and the others
-- are their rows
pub record AreStored (folder : List ℕ) (tables : List PlainTable) (files : Batch) : Type 0 where
  pub are : AreFolderFiles folder tables files
  pub declared : IsDdl (encode_utf8_all (canonical_text (shapes_of tables))) (map plain_table (shapes_of tables))
  pub read : AreReadBack tables are.entries

-- `invert`: without a fault the run ends well or for want of memory; and where it ends well, the files of the tables were stored
pub record StoresTables (out : List ℕ) (tables : List PlainTable) (old new : ShelfState) (before after : SinkState) (status : Status) : Type 0 where
  pub no_fault : EndsSo Done old new before after status
  pub stored : status ≡ Done → (files : Batch) × (AreStored out tables files × StoresAll files old.files new.files)

-- the tables are stored that the triples stand for; where they stand for none within the limits, the run is refused
pub record Inverts (base out : List ℕ) (triples : List Statement) (old new : ShelfState) (before after : SinkState) (status : Status) : Type 0 where
  pub stands : (tables : List PlainTable) → StandsWithin base triples tables → StoresTables out tables old new before after status
  pub refused : (error : InverseError) → Refuses base triples error → EndsSo (inverse_status error) old new before after status

-- the bytes are the text of the map graph of a database that keeps its keys, or of the map-keys graph of any
abbrev pub IsGraphFile : List ℕ → Data → List ℕ → Type 0
IsGraphFile base D bytes = (KeepsKeys D × IsGraphText graph.Map base D bytes) ⊎ IsGraphText graph.MapKeys base D bytes

-- of such bytes the tables of the database are stored, without keys and NOT NULL, and with the rows of each table in some order
pub record GivesBack (base out : List ℕ) (D : Data) (old new : ShelfState) (before after : SinkState) (status : Status) : Type 0 where
  pub some : (plain : List PlainTable) × IsPlain D plain
  pub stores : (plain : List PlainTable) → IsPlain D plain → StoresTables out plain old new before after status

-- where the bytes are the text of a query that has no fault over the tables, such a text is written
abbrev pub WritesAnswer : (Query → List ℕ → Type 0) → List Table → List ℕ → ShelfState → ShelfState → SinkState → SinkState → Status → Type 0
WritesAnswer IsText tables bytes old new before after status =
    (q : Query) → IsTextOfQuery bytes q → IsFaultless tables q → WritesText (IsText q) old new before after status

-- where they are none the run is refused for the first fault
abbrev pub RefusesFault : List Table → List ℕ → ShelfState → ShelfState → SinkState → SinkState → Status → Type 0
RefusesFault tables bytes old new before after status =
    (error : QueryError) → error ≢ query.Memory → IsAnswer tables bytes (Err error) → EndsSo (query_status error) old new before after status

-- of a query without a fault such a text is written; for the first fault the run is refused
pub record AnswersQuery (IsText : Query → List ℕ → Type 0) (tables : List Table) (bytes : List ℕ) (old new : ShelfState) (before after : SinkState) (status : Status) : Type 0 where
  pub answered : WritesAnswer IsText tables bytes old new before after status
  pub refused : RefusesFault tables bytes old new before after status

-- the folder's schema declares these tables, and the bytes are those of the query's file
pub record HoldsQuestion (files : Files) (folder name : List ℕ) (tables : List Table) (bytes : List ℕ) : Type 0 where
  pub schema : List ℕ
  pub holds : HoldsFile files (schema_file folder) schema
  pub reads : IsDdl schema tables
  pub asks : HoldsFile files (encode_utf8_all name) bytes

-- `ask`: the solutions of the query's pattern over the triples of a graph file are written; and where the file has the text of the
-- graph that the mode speaks of, of a database with these tables that keeps the keys that the mode speaks of, these are exactly the
-- lines of the query's tuples, as `rows` writes them
pub record AnswersOver (mode : Mode) (base : List ℕ) (tables : List Table) (bytes text : List ℕ) (triples : List Statement) (old new : ShelfState) (before after : SinkState) (status : Status) : Type 0 where
  pub solutions : WritesAnswer (λ q lines. AreAnswersIn mode base tables q triples lines) tables bytes old new before after status
  pub rows : (D : Data) → IsText base → IsDatabase D → D.tables ≡ tables → KeepsKeysOf mode D → IsGraphText (graph_of mode) base D text
      → WritesAnswer (AreQueryLines D) tables bytes old new before after status

-- `sparql`: where the pattern's text is no header and pattern, the run is refused for the first fault
abbrev pub RefusesPattern : List ℕ → ShelfState → ShelfState → SinkState → SinkState → Status → Type 0
RefusesPattern bytes old new before after status =
    (error : SparqlError) → error ≢ sparql.Memory → IsParsedAs bytes (Err error) → EndsSo (sparql_status error) old new before after status

-- where it is one, the lines of the pattern's solutions over the triples of the graph's file are written
abbrev pub WritesSolutions : List ℕ → List Statement → ShelfState → ShelfState → SinkState → SinkState → Status → Type 0
WritesSolutions bytes triples old new before after status =
    (parsed : Parsed) → IsTextOf bytes parsed → WritesText (AreSolutionLines triples parsed.pattern parsed.header) old new before after status

-- `show`: the lines of the triples in their written form, in their order, are written
abbrev pub Shows : List Statement → ShelfState → ShelfState → SinkState → SinkState → Status → Type 0
Shows triples old new before after status = WritesText (λ text. text ≡ flat_map triple_text triples) old new before after status

-- `consistent`: the line of the one right verdict on the triples is written
abbrev pub Judges : List Statement → ShelfState → ShelfState → SinkState → SinkState → Status → Type 0
Judges triples old new before after status =
    WritesText (λ text. (verdict : Verdict) × IsVerdict triples verdict × (text ≡ verdict_text verdict)) old new before after status

-- of triples that are exactly the map-keys graph's of a database, in whatever order, the right verdict is `Yes` exactly where no
-- key is violated; and so it is of a file with the text that `map-keys` writes
pub record TellsKeys (bytes : List ℕ) (triples : List Statement) : Type 0 where
  pub listed : (base : List ℕ) (D : Data) (verdict : Verdict) → IsTrue (is_base base) → IsDatabase D → AreTriplesOf graph.MapKeys base D triples
      → IsVerdict triples verdict → (verdict ≡ Yes) ↔ KeepsKeys D
  pub written : (base : List ℕ) (D : Data) (verdict : Verdict) → IsTrue (is_base base) → IsText base → IsDatabase D → IsGraphText graph.MapKeys base D bytes
      → IsVerdict triples verdict → (verdict ≡ Yes) ↔ KeepsKeys D

-- what each command promises where the shelf tells its files and they are well-formed; `bench` writes the lines of what is counted of
-- the benchmark's database
abbrev pub Promises : Command → ShelfState → ShelfState → SinkState → SinkState → Status → Type 0
Promises (Direct base folder nulls) old new before after status = WritesFolder graph.Direct base folder nulls old new before after status
Promises (Map base folder nulls) old new before after status = WritesFolder graph.Map base folder nulls old new before after status
Promises (MapKeys base folder nulls) old new before after status = WritesFolder graph.MapKeys base folder nulls old new before after status
Promises (Check folder nulls) old new before after status =
    (files : Files) (D : Data) → old.files ≡ Some files → HoldsDatabase files folder nulls D → Checks D old new before after status
Promises (Clean folder out nulls) old new before after status =
    (files : Files) (D : Data) → old.files ≡ Some files → (held : HoldsDatabase files folder nulls D) → Cleans out held.bytes D old new before after status
Promises (Append base folder more nulls) old new before after status =
    (files : Files) (D batch : Data) → old.files ≡ Some files → IsTrue (is_base base) → HoldsDatabase files folder nulls D → IsBatchFor D batch → HoldsTables files more nulls D.tables batch.rows
    → WritesBatch base D batch old new before after status
Promises (Invert base name out) old new before after status =
    (files : Files) (bytes : List ℕ) (triples : List Statement) → old.files ≡ Some files → IsTrue (is_base base) → HoldsFile files (encode_utf8_all name) bytes → IsDocument bytes triples → length triples ≤ limit
    → Inverts base out triples old new before after status
    × ((D : Data) → IsText base → IsDatabase D → IsGraphFile base D bytes → GivesBack base out D old new before after status)
Promises (Rows folder name nulls) old new before after status =
    (files : Files) (D : Data) (bytes : List ℕ) → old.files ≡ Some files → HoldsDatabase files folder nulls D → HoldsFile files (encode_utf8_all name) bytes
    → AnswersQuery (AreQueryLines D) D.tables bytes old new before after status
Promises (Translate mode base folder name) old new before after status =
    (files : Files) (tables : List Table) (bytes : List ℕ) → old.files ≡ Some files → IsTrue (is_base base) → HoldsQuestion files folder name tables bytes
    → AnswersQuery (IsPatternText mode base tables) tables bytes old new before after status
Promises (Ask mode base folder document name) old new before after status =
    (files : Files) (tables : List Table) (bytes : List ℕ) → old.files ≡ Some files → IsTrue (is_base base) → HoldsQuestion files folder name tables bytes
    → RefusesFault tables bytes old new before after status
    × ((text : List ℕ) (triples : List Statement) → HoldsFile files (encode_utf8_all document) text → IsDocument text triples → length triples ≤ limit
    → AnswersOver mode base tables bytes text triples old new before after status)
Promises (Sparql document name) old new before after status =
    (files : Files) (bytes : List ℕ) → old.files ≡ Some files → HoldsFile files (encode_utf8_all name) bytes
    → RefusesPattern bytes old new before after status
    × ((text : List ℕ) (triples : List Statement) → HoldsFile files (encode_utf8_all document) text → IsDocument text triples → length triples ≤ limit
    → WritesSolutions bytes triples old new before after status)
Promises (Show name) old new before after status =
    (files : Files) (bytes : List ℕ) (triples : List Statement) → old.files ≡ Some files → HoldsFile files (encode_utf8_all name) bytes → IsDocument bytes triples → length triples ≤ limit
    → Shows triples old new before after status
Promises (Consistent name) old new before after status =
    (files : Files) (bytes : List ℕ) (triples : List Statement) → old.files ≡ Some files → HoldsFile files (encode_utf8_all name) bytes → IsDocument bytes triples → length triples ≤ limit
    → Judges triples old new before after status × TellsKeys bytes triples
Promises (Bench n) old new before after status = (files : Files) → old.files ≡ Some files → WritesText (IsBenchText (generated n)) old new before after status
