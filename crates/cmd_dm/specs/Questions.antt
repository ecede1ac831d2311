-- What a command asks of the bytes that it loaded and of what they mean, and which answers are right. No question has
-- two right answers.
use Rattle.std.specs.Prelude.{◌≡◌, ℕ, IsTrue, List, Result, Ok, Err}
use Rattle.members_dm.specs.Membership.{NoRepeats}
use Rattle.members_dm.specs.Places.{IsListing}
use Rattle.value_dm.specs.declared.mode.NullMode.{NullMode}
use Rattle.names_dm.specs.Namespaces.{is_base}
use Rattle.names_dm.specs.Statements.{Statement}
use Rattle.ntriples_reader_dm.specs.Answer.{IsAnswer}
use Rattle.ntriples_reader_dm.specs.declared.fault.GraphError.{GraphError}
use Rattle.schema_dm.specs.Naming.{column_names}
use Rattle.schema_dm.specs.Schemas.{IsSchema}
use Rattle.schema_dm.specs.declared.draft.Column.{Column}
use Rattle.schema_dm.specs.declared.table.Table.{Table}
use Rattle.ddl_dm.specs.declared.ddl.DdlError.{DdlError}
use Rattle.ddl_dm.specs.Schema.{IsDdl, IsDdlFault}
use Rattle.table_csv.specs.Cells.{Row}
use Rattle.table_csv.specs.Databases.{Data}
use Rattle.table_csv.specs.Plain.{PlainTable}
use Rattle.table_csv.specs.TableFiles.{IsFirstFault, IsTableFile, records_of}
use Rattle.table_csv.specs.declared.fault.TableError.{TableError}
use Rattle.consistency_dm.specs.Conflicts.{IsVerdict}
use Rattle.consistency_dm.specs.declared.verdict.Verdict.{Verdict}
use Rattle.keys_dm.specs.Violations.{ViolatesAt}
use Rattle.keys_dm.specs.declared.violation.Violation.{Violation}
use Rattle.graphs_dm.specs.Graphs.{IsGraphText}
use Rattle.graphs_dm.specs.declared.graph_name.GraphName.{GraphName}
use Rattle.outside_dm.specs.Storing.{Batch}
use Rattle.schema_dm.specs.declared.table.ShapeTable.{ShapeTable}
use Rattle.append_dm.specs.Appended.{appended}
use Rattle.append_dm.specs.Batches.{IsBatchText}
use Rattle.clean_dm.specs.Kept.{AreRowsOfPart}
use Rattle.clean_dm.specs.Removing.{IsCleaning, IsLeft}
use Rattle.clean_dm.specs.declared.removal.Removal.{Removal}
use Rattle.inverse_dm.specs.Answers.{Refuses, StandsWithin}
use Rattle.inverse_dm.specs.declared.error.InverseError.{InverseError}
use Rattle.algebra_dm.specs.declared.error.QueryError.{QueryError}
use Rattle.algebra_dm.specs.declared.query.Mode.{Mode}
use Rattle.algebra_dm.specs.declared.query.Query.{Query}
use Rattle.query_text_dm.specs.Answer.{IsAnswer as IsReadAs}
use Rattle.query_lines_dm.specs.Lines.{AreQueryLines}
use Rattle.pattern_lines_dm.specs.Lines.{AreSolutionLines}
use Rattle.sparql_text_dm.specs.Answer.{IsAnswer as IsParsedAs}
use Rattle.sparql_text_dm.specs.declared.error.SparqlError.{SparqlError}
use Rattle.sparql_text_dm.specs.declared.parsed.Parsed.{Parsed}
use Rattle.bench_lines_dm.specs.Bench.{IsBenchText}
use Rattle.cmd_dm.specs.Answered.{AreAnswersIn, IsPatternText}
use Rattle.cmd_dm.specs.Folder.{AreFilesOf, AreFolderFiles}
use Rattle.cmd_dm.specs.Reasons.{ddl_status, graph_status, inverse_status, query_status, sparql_status, table_status}
use Rattle.cmd_dm.specs.declared.status.Reason.{Reason}
use Rattle.cmd_dm.specs.declared.status.Status.TheVariants.{Refused}

pub data Question : Type 0 where
  -- the tables that the bytes declare
  schema_of : List ℕ → Question
  -- the rows that the bytes are, of the table with these columns, whose names differ, and with this number
  rows_of : List Column → NullMode → ℕ → List ℕ → Question
  -- all violated keys, in order
  violations_of : Data → Question
  -- the triples of the bytes
  triples_of : List ℕ → Question
  -- whether the triples contradict themselves
  verdict_of : List Statement → Question
  -- the text of the graph of this name
  graph_of : GraphName → List ℕ → Data → Question
  -- the text of the triples by which the batch enlarges the map graph of the database
  batch_of : List ℕ → Data → Data → Question
  -- the removals by which the database is cleaned
  removals_of : Data → Question
  -- the rows that the removals leave, of each table
  left_of : Data → List Removal → Question
  -- the files of the tables with these rows in the folder
  files_of : List ℕ → List ShapeTable → List (List Row) → Question
  -- the files in the folder of the tables that the triples stand for, where the base is one that IRIs can begin with
  inverse_of : List ℕ → List Statement → List ℕ → Question
  -- the query of the bytes over these tables
  query_of : List Table → List ℕ → Question
  -- the lines of the query's rows
  lines_of : Data → Query → Question
  -- the text of the query's pattern over the graph that the mode speaks of, where the tables are a schema's
  pattern_of : Mode → List ℕ → List Table → Query → Question
  -- the lines of the solutions of this pattern over the triples, where the tables are a schema's
  answers_of : Mode → List ℕ → List Table → Query → List Statement → Question
  -- the header and the pattern of the bytes
  parsed_of : List ℕ → Question
  -- the lines of the solutions of a pattern with its header over the triples
  solutions_of : Parsed → List Statement → Question
  -- the lines of what is counted of the database
  bench_of : Data → Question

-- what an answer to the question is: a value, or why the bytes are refused
abbrev pub AnswerTo : Question → Type 0
AnswerTo (schema_of bytes) = Result (List Table) Reason
AnswerTo (rows_of columns mode number bytes) = Result (List Row) Reason
AnswerTo (violations_of D) = List Violation
AnswerTo (triples_of bytes) = Result (List Statement) Reason
AnswerTo (verdict_of triples) = Verdict
AnswerTo (graph_of name base D) = List ℕ
AnswerTo (batch_of base D batch) = List ℕ
AnswerTo (removals_of D) = List Removal
AnswerTo (left_of D removals) = List (List Row)
AnswerTo (files_of folder tables rows) = Batch
AnswerTo (inverse_of base triples folder) = Result Batch Reason
AnswerTo (query_of tables bytes) = Result Query Reason
AnswerTo (lines_of D q) = List ℕ
AnswerTo (pattern_of mode base tables q) = List ℕ
AnswerTo (answers_of mode base tables q triples) = List ℕ
AnswerTo (parsed_of bytes) = Result Parsed Reason
AnswerTo (solutions_of parsed triples) = List ℕ
AnswerTo (bench_of D) = List ℕ

abbrev pub IsSchemaAnswer : List ℕ → Result (List Table) Reason → Type 0
IsSchemaAnswer bytes (Ok tables) = IsDdl bytes tables
IsSchemaAnswer bytes (Err reason) = (error : DdlError) × IsDdlFault bytes error × (ddl_status error ≡ Refused reason)

abbrev pub IsRowsAnswer : List Column → NullMode → ℕ → List ℕ → Result (List Row) Reason → Type 0
IsRowsAnswer columns mode number bytes (Ok rows) = IsTableFile columns mode bytes rows
IsRowsAnswer columns mode number bytes (Err reason) =
    (error : TableError) × IsFirstFault columns mode (records_of bytes) error × (table_status number error ≡ Refused reason)

abbrev pub IsTriplesAnswer : List ℕ → Result (List Statement) Reason → Type 0
IsTriplesAnswer bytes (Ok triples) = IsAnswer bytes (Ok triples)
IsTriplesAnswer bytes (Err reason) = (error : GraphError) × IsAnswer bytes (Err error) × (graph_status error ≡ Refused reason)

-- the files are those of tables that the triples stand for
pub record AreInverse (base : List ℕ) (triples : List Statement) (folder : List ℕ) (files : Batch) : Type 0 where
  pub tables : List PlainTable
  pub stands : StandsWithin base triples tables
  pub of_tables : AreFolderFiles folder tables files

abbrev pub IsInverseAnswer : List ℕ → List Statement → List ℕ → Result Batch Reason → Type 0
IsInverseAnswer base triples folder (Ok files) = AreInverse base triples folder files
IsInverseAnswer base triples folder (Err reason) = (error : InverseError) × Refuses base triples error × (inverse_status error ≡ Refused reason)

abbrev pub IsQueryAnswer : List Table → List ℕ → Result Query Reason → Type 0
IsQueryAnswer tables bytes (Ok q) = IsReadAs tables bytes (Ok q)
IsQueryAnswer tables bytes (Err reason) = (error : QueryError) × IsReadAs tables bytes (Err error) × (query_status error ≡ Refused reason)

abbrev pub IsParsedAnswer : List ℕ → Result Parsed Reason → Type 0
IsParsedAnswer bytes (Ok parsed) = IsParsedAs bytes (Ok parsed)
IsParsedAnswer bytes (Err reason) = (error : SparqlError) × IsParsedAs bytes (Err error) × (sparql_status error ≡ Refused reason)

-- the answer is right
abbrev pub Answers : (question : Question) → AnswerTo question → Type 0
Answers (schema_of bytes) answer = IsSchemaAnswer bytes answer
Answers (rows_of columns mode number bytes) answer = NoRepeats (column_names columns) × IsRowsAnswer columns mode number bytes answer
Answers (violations_of D) found = IsListing (ViolatesAt D) found
Answers (triples_of bytes) answer = IsTriplesAnswer bytes answer
Answers (verdict_of triples) verdict = IsVerdict triples verdict
Answers (graph_of name base D) text = IsGraphText name base D text
Answers (batch_of base D batch) text = IsBatchText base D (appended D batch) text
Answers (removals_of D) removals = IsCleaning D removals
Answers (left_of D removals) rows = AreRowsOfPart D (IsLeft removals) rows
Answers (files_of folder tables rows) files = AreFilesOf folder tables rows files
Answers (inverse_of base triples folder) answer = IsTrue (is_base base) × IsInverseAnswer base triples folder answer
Answers (query_of tables bytes) answer = IsQueryAnswer tables bytes answer
Answers (lines_of D q) text = AreQueryLines D q text
Answers (pattern_of mode base tables q) text = IsSchema tables × IsPatternText mode base tables q text
Answers (answers_of mode base tables q triples) text = IsSchema tables × AreAnswersIn mode base tables q triples text
Answers (parsed_of bytes) answer = IsParsedAnswer bytes answer
Answers (solutions_of parsed triples) text = AreSolutionLines triples parsed.pattern parsed.header text
Answers (bench_of D) text = IsBenchText D text
