-- The refusals of input: the code of each cause, and what it names. Bytes, statements, lines, tables, records, columns, rows and keys
-- are counted from 1.
use Rattle.std.specs.Prelude.{ℕ}
use Rattle.schema_dm.specs.declared.refusal.SchemaCause.{SchemaCause}
use Rattle.schema_dm.specs.declared.refusal.SchemaCause.TheVariants.{NoTable, TooManyTables, BadName, NoColumn, TooManyColumns, DuplicateTable, DuplicateColumn, UnknownColumn, UnknownTable, TwoPrimaryKeys, NotAKey, KindMismatch, SameColumnsTwice, NameClash}
use Rattle.ddl_dm.specs.declared.ddl.DdlError.{DdlError}
use Rattle.ddl_dm.specs.declared.ddl.DdlError.TheVariants as ddl
use Rattle.ntriples_reader_dm.specs.declared.fault.GraphError.{GraphError}
use Rattle.ntriples_reader_dm.specs.declared.fault.GraphError.TheVariants as graph
use Rattle.inverse_dm.specs.declared.error.InverseError.{InverseError}
use Rattle.inverse_dm.specs.declared.error.InverseError.TheVariants as inverse
use Rattle.algebra_dm.specs.declared.error.QueryError.{QueryError}
use Rattle.algebra_dm.specs.declared.error.QueryError.TheVariants as query
use Rattle.table_csv.specs.declared.fault.TableError.{TableError}
use Rattle.table_csv.specs.declared.fault.TableError.TheVariants as table
use Rattle.keys_dm.specs.declared.violation.Violation.{Violation}
use Rattle.keys_dm.specs.declared.violation.ViolationKind.{ViolationKind}
use Rattle.keys_dm.specs.declared.violation.ViolationKind.TheVariants.{NullKey, RepeatedKey, RepeatedUnique, Dangling}
use Rattle.cmd_dm.specs.declared.status.Reason.{Reason}
use Rattle.sparql_text_dm.specs.declared.error.SparqlError.{SparqlError}
use Rattle.sparql_text_dm.specs.declared.error.SparqlError.TheVariants as sparql
use Rattle.cmd_dm.specs.declared.status.Status.{Status}
use Rattle.cmd_dm.specs.declared.status.Status.TheVariants.{Refused, Memory}

-- the code, and then the table, the place and the column
abbrev pub reason : ℕ → ℕ → ℕ → ℕ → Reason
reason code table place column = record { code = code; table = table; place = place; column = column }

abbrev pub bad_base : Reason
bad_base = reason 26 0 0 0

abbrev pub cause_code : SchemaCause → ℕ
cause_code NoTable = 2
cause_code NoColumn = 3
cause_code DuplicateTable = 4
cause_code DuplicateColumn = 5
cause_code UnknownColumn = 6
cause_code UnknownTable = 7
cause_code TwoPrimaryKeys = 8
cause_code NotAKey = 9
cause_code KindMismatch = 10
cause_code SameColumnsTwice = 11
cause_code NameClash = 12
cause_code TooManyTables = 13
cause_code TooManyColumns = 14
cause_code BadName = 41

-- the status of statements that are no schema
abbrev pub ddl_status : DdlError → Status
ddl_status (ddl.NotUtf8 place) = Refused (reason 15 0 place 0)
ddl_status (ddl.BadToken place) = Refused (reason 16 0 place 0)
ddl_status (ddl.Unexpected place) = Refused (reason 17 0 place 0)
ddl_status (ddl.UnknownType place) = Refused (reason 18 0 place 0)
ddl_status (ddl.AlterUnknown statement) = Refused (reason 43 0 statement 0)
ddl_status (ddl.Schema error) = Refused (reason (cause_code error.cause) error.table 0 0)
ddl_status ddl.Memory = Memory

-- the status of a file that isn't one of rows of the table of this number
abbrev pub table_status : ℕ → TableError → Status
table_status number table.NoHeader = Refused (reason 19 number 0 0)
table_status number (table.BadHeader column) = Refused (reason 20 number 0 column)
table_status number (table.FieldCount place) = Refused (reason 21 number place 0)
table_status number (table.TextNotUtf8 place column) = Refused (reason 22 number place column)
table_status number (table.BadValue place column) = Refused (reason 23 number place column)
table_status number (table.NullRefused place column) = Refused (reason 24 number place column)
table_status number table.TooManyRows = Refused (reason 25 number 0 0)
table_status number table.Memory = Memory

-- the status of bytes that are no document of triples
abbrev pub graph_status : GraphError → Status
graph_status (graph.BadLine line) = Refused (reason 28 0 line 0)
graph_status graph.TooManyTriples = Refused (reason 29 0 0 0)
graph_status graph.Memory = Memory

-- the status of triples that give no tables
abbrev pub inverse_status : InverseError → Status
inverse_status inverse.NoTables = Refused (reason 44 0 0 0)
inverse_status (inverse.Unexplained place) = Refused (reason 30 0 place 0)
inverse_status (inverse.TwoValues place) = Refused (reason 31 0 place 0)
inverse_status (inverse.TwoTables place) = Refused (reason 32 0 place 0)
inverse_status (inverse.NoKeyValue place) = Refused (reason 33 0 place 0)
inverse_status inverse.TooManyTables = Refused (reason 13 0 0 0)
inverse_status inverse.TooManyColumns = Refused (reason 14 0 0 0)
inverse_status inverse.TooManyRows = Refused (reason 25 0 0 0)
inverse_status inverse.Memory = Memory

-- the status of a text that is no query over the tables of a schema
abbrev pub query_status : QueryError → Status
query_status (query.BadQuery place) = Refused (reason 34 0 place 0)
query_status (query.TooDeep place) = Refused (reason 40 0 place 0)
query_status query.NoSuchTable = Refused (reason 35 0 0 0)
query_status query.NoSuchColumn = Refused (reason 36 0 0 0)
query_status query.NameTaken = Refused (reason 37 0 0 0)
query_status query.NotSameColumns = Refused (reason 38 0 0 0)
query_status query.EmptyProject = Refused (reason 39 0 0 0)
query_status query.TooWide = Refused (reason 45 0 0 0)
query_status query.Memory = Memory

-- the status of a text that is no pattern with a header
abbrev pub sparql_status : SparqlError → Status
sparql_status (sparql.BadPattern place) = Refused (reason 47 0 place 0)
sparql_status (sparql.TooNested place) = Refused (reason 48 0 place 0)
sparql_status sparql.Memory = Memory

abbrev pub kind_reason : ℕ → ℕ → ViolationKind → Reason
kind_reason table row NullKey = reason 42 table row 0
kind_reason table row RepeatedKey = reason 42 table row 0
kind_reason table row (RepeatedUnique key) = reason 46 table row key
kind_reason table row (Dangling key) = reason 42 table row key

-- the reason of a violated key: the row is the place, and the column is the number of the UNIQUE or foreign key, or 0 for the
-- primary key
abbrev pub key_reason : Violation → Reason
key_reason violation = kind_reason violation.table violation.row violation.kind

abbrev pub batch_kind_reason : ℕ → ℕ → ViolationKind → Reason
batch_kind_reason table row NullKey = reason 50 table row 0
batch_kind_reason table row RepeatedKey = reason 50 table row 0
batch_kind_reason table row (RepeatedUnique key) = reason 51 table row key
batch_kind_reason table row (Dangling key) = reason 50 table row key

-- the same of a key that is violated where a batch stands behind the rows, which are counted in both together
abbrev pub batch_reason : Violation → Reason
batch_reason violation = batch_kind_reason violation.table violation.row violation.kind
