-- What the steps do that read schemas, tables and keys.
use Rattle.std.proofs.Common.{◌≡◌, ◌∙◌, refl, sym, ap, subst, inl, inr, ◌⊎◌, arith, ℕ, suc, zero, ◌+◌, List, [], ◌∷◌, ◌++◌, drop, take, length, Some, Ok, Err, append-nil}
use Rattle.std.specs.Prelude.{IsTrue, slice_get}
use Rattle.std.specs.List.{AllZip}
use Rattle.std.proofs.lemmas.List.{append_assoc, drop_all, take_more}
use Rattle.std.proofs.lemmas.Option.{get_or_from_slice_get, slice_get_within}
use Rattle.members_dm.specs.Membership.{NoRepeats}
use Rattle.value_dm.specs.declared.mode.NullMode.{NullMode}
use Rattle.schema_dm.specs.Naming.{column_names}
use Rattle.schema_dm.specs.declared.draft.Column.{Column}
use Rattle.schema_dm.specs.declared.table.Table.{Table}
use Rattle.ddl_dm.specs.Schema.{IsDdl, IsDdlFault, IsSchemaRead}
use Rattle.ddl_dm.specs.declared.ddl.DdlError.{DdlError}
use Rattle.ddl_dm.specs.declared.ddl.DdlError.TheVariants as ddl
use Rattle.names_dm.specs.Namespaces.{is_base}
use Rattle.names_dm.specs.Statements.{Statement}
use Rattle.algebra_dm.specs.declared.error.QueryError.{QueryError}
use Rattle.algebra_dm.specs.declared.error.QueryError.TheVariants as query
use Rattle.algebra_dm.specs.declared.query.Query.{Query}
use Rattle.query_text_dm.specs.Answer.{IsAnswer as IsReadAs}
use Rattle.inverse_dm.specs.Answers.{Refuses}
use Rattle.inverse_dm.specs.declared.error.InverseError.{InverseError}
use Rattle.inverse_dm.specs.declared.error.InverseError.TheVariants as inverse
use Rattle.outside_dm.specs.Storing.{Batch}
use Rattle.ntriples_reader_dm.specs.Answer.{IsAnswer}
use Rattle.ntriples_reader_dm.specs.declared.fault.GraphError.{GraphError}
use Rattle.ntriples_reader_dm.specs.declared.fault.GraphError.TheVariants as graph
use Rattle.outside_dm.specs.Shelves.{ShelfState}
use Rattle.outside_dm.specs.Sinks.{SinkState}
use Rattle.table_csv.specs.Cells.{Row}
use Rattle.table_csv.specs.TableFiles.{IsFirstFault, IsTableFile, records_of}
use Rattle.table_csv.specs.declared.fault.TableError.{TableError}
use Rattle.table_csv.specs.declared.fault.TableError.TheVariants as table
use Rattle.table_csv.proofs.Zips.{zipped_behind}
use Rattle.sparql_text_dm.specs.Answer.{IsAnswer as IsParsedAs}
use Rattle.sparql_text_dm.specs.declared.error.SparqlError.{SparqlError}
use Rattle.sparql_text_dm.specs.declared.error.SparqlError.TheVariants as sparql
use Rattle.sparql_text_dm.specs.declared.parsed.Parsed.{Parsed}
use Rattle.cmd_dm.specs.Ending.{Target, Ends, Leads}
use Rattle.cmd_dm.specs.Folder.{table_file}
use Rattle.cmd_dm.specs.Questions.{AreInverse, inverse_of, parsed_of, query_of, schema_of, rows_of, triples_of}
use Rattle.cmd_dm.specs.Reasons.{cause_code, ddl_status, graph_status, inverse_status, query_status, reason, sparql_status, table_status}
use Rattle.cmd_dm.specs.Script.{Script, load}
use Rattle.cmd_dm.specs.Steps.{inverse_step, on_answer, parsed_text_step, query_text_step, rows_step, schema_step, tables_step, triples_step}
use Rattle.cmd_dm.proofs.Endings.{ends_after, ends_memory, ends_refused, leads_ask, leads_refl}
use Rattle.cmd_dm.specs.declared.status.File.TheVariants as file
use Rattle.cmd_dm.specs.declared.status.Reason.{Reason}
use Rattle.cmd_dm.specs.declared.status.Status.{Status}
use Rattle.cmd_dm.specs.declared.status.Status.TheVariants.{Memory, Refused}

-- ---- schemas

pub schema_reads : (bytes : List ℕ) (tables : List Table) → IsDdl bytes tables → (state : ShelfState) (next : List Table → Script) → Leads (schema_step bytes next) state (next tables) state
unfolding schema_step
schema_reads bytes tables is state next = leads_ask (schema_of bytes) (Ok tables) (λ answer. on_answer answer next) state is

schema_refuses : (bytes : List ℕ) (error : DdlError) (why : Reason) → IsDdlFault bytes error → ddl_status error ≡ Refused why → (state : ShelfState) (target : Target) (next : List Table → Script) (out : SinkState) →
    Ends target (schema_step bytes next) state state out out (Refused why)
unfolding schema_step
schema_refuses bytes error why fault told state target next out =
    ends_after (leads_ask (schema_of bytes) (Err why) (λ answer. on_answer answer next) state (error, fault, told)) (ends_refused target why state out)

pub schema_ends : (bytes : List ℕ) (error : DdlError) → IsSchemaRead bytes (Err error) → (state : ShelfState) (target : Target) (next : List Table → Script) (out : SinkState) →
    Ends target (schema_step bytes next) state state out out (ddl_status error)
schema_ends bytes (ddl.NotUtf8 place) h state target next out = schema_refuses bytes (ddl.NotUtf8 place) (reason 15 0 place 0) h.0 refl state target next out
schema_ends bytes (ddl.BadToken place) h state target next out = schema_refuses bytes (ddl.BadToken place) (reason 16 0 place 0) h.0 refl state target next out
schema_ends bytes (ddl.Unexpected place) h state target next out = schema_refuses bytes (ddl.Unexpected place) (reason 17 0 place 0) h.0 refl state target next out
schema_ends bytes (ddl.UnknownType place) h state target next out = schema_refuses bytes (ddl.UnknownType place) (reason 18 0 place 0) h.0 refl state target next out
schema_ends bytes (ddl.AlterUnknown number) h state target next out = schema_refuses bytes (ddl.AlterUnknown number) (reason 43 0 number 0) h.0 refl state target next out
schema_ends bytes (ddl.Schema error) h state target next out =
    schema_refuses bytes (ddl.Schema error) (reason (cause_code error.cause) error.table 0 0) h.0 refl state target next out
schema_ends bytes ddl.Memory h state target next out = ends_memory target (schema_step bytes next) state out

-- ---- rows

module _ (columns : List Column) (mode : NullMode) (number : ℕ) (bytes : List ℕ) (distinct : NoRepeats (column_names columns)) where
  pub rows_read : (rows : List Row) → IsTableFile columns mode bytes rows → (state : ShelfState) (next : List Row → Script) → Leads (rows_step columns mode number bytes next) state (next rows) state
  unfolding rows_step
  rows_read rows is state next = leads_ask (rows_of columns mode number bytes) (Ok rows) (λ answer. on_answer answer next) state (distinct, is)

  rows_refuse : (error : TableError) (why : Reason) → IsFirstFault columns mode (records_of bytes) error → table_status number error ≡ Refused why →
      (state : ShelfState) (target : Target) (next : List Row → Script) (out : SinkState) → Ends target (rows_step columns mode number bytes next) state state out out (Refused why)
  unfolding rows_step
  rows_refuse error why fault told state target next out =
      ends_after (leads_ask (rows_of columns mode number bytes) (Err why) (λ answer. on_answer answer next) state (distinct, (error, fault, told))) (ends_refused target why state out)

  pub rows_end : (error : TableError) → IsFirstFault columns mode (records_of bytes) error → (state : ShelfState) (target : Target) (next : List Row → Script) (out : SinkState) →
      Ends target (rows_step columns mode number bytes next) state state out out (table_status number error)
  rows_end table.NoHeader h state target next out = rows_refuse table.NoHeader (reason 19 number 0 0) h refl state target next out
  rows_end (table.BadHeader column) h state target next out = rows_refuse (table.BadHeader column) (reason 20 number 0 column) h refl state target next out
  rows_end (table.FieldCount place) h state target next out = rows_refuse (table.FieldCount place) (reason 21 number place 0) h refl state target next out
  rows_end (table.TextNotUtf8 place column) h state target next out = rows_refuse (table.TextNotUtf8 place column) (reason 22 number place column) h refl state target next out
  rows_end (table.BadValue place column) h state target next out = rows_refuse (table.BadValue place column) (reason 23 number place column) h refl state target next out
  rows_end (table.NullRefused place column) h state target next out = rows_refuse (table.NullRefused place column) (reason 24 number place column) h refl state target next out
  rows_end table.TooManyRows h state target next out = rows_refuse table.TooManyRows (reason 25 number 0 0) h refl state target next out
  rows_end table.Memory h state target next out = ends_memory target (rows_step columns mode number bytes next) state out

-- ---- triples

pub triples_read : (bytes : List ℕ) (triples : List Statement) → IsAnswer bytes (Ok triples) → (state : ShelfState) (next : List Statement → Script) → Leads (triples_step bytes next) state (next triples) state
unfolding triples_step
triples_read bytes triples is state next = leads_ask (triples_of bytes) (Ok triples) (λ answer. on_answer answer next) state is

triples_refuse : (bytes : List ℕ) (error : GraphError) (why : Reason) → IsAnswer bytes (Err error) → graph_status error ≡ Refused why → (state : ShelfState) (target : Target) (next : List Statement → Script) (out : SinkState) →
    Ends target (triples_step bytes next) state state out out (Refused why)
unfolding triples_step
triples_refuse bytes error why fault told state target next out =
    ends_after (leads_ask (triples_of bytes) (Err why) (λ answer. on_answer answer next) state (error, fault, told)) (ends_refused target why state out)

pub triples_end : (bytes : List ℕ) (error : GraphError) → IsAnswer bytes (Err error) → (state : ShelfState) (target : Target) (next : List Statement → Script) (out : SinkState) →
    Ends target (triples_step bytes next) state state out out (graph_status error)
triples_end bytes (graph.BadLine line) h state target next out = triples_refuse bytes (graph.BadLine line) (reason 28 0 line 0) h refl state target next out
triples_end bytes graph.TooManyTriples h state target next out = triples_refuse bytes graph.TooManyTriples (reason 29 0 0 0) h refl state target next out
triples_end bytes graph.Memory h state target next out = ends_memory target (triples_step bytes next) state out

-- ---- queries

module _ (tables : List Table) (bytes : List ℕ) where
  pub query_reads : (q : Query) → IsReadAs tables bytes (Ok q) → (state : ShelfState) (next : Query → Script) → Leads (query_text_step tables bytes next) state (next q) state
  unfolding query_text_step
  query_reads q is state next = leads_ask (query_of tables bytes) (Ok q) (λ answer. on_answer answer next) state is

  query_refuses : (error : QueryError) (why : Reason) → IsReadAs tables bytes (Err error) → query_status error ≡ Refused why → (state : ShelfState) (target : Target) (next : Query → Script) (out : SinkState) →
      Ends target (query_text_step tables bytes next) state state out out (Refused why)
  unfolding query_text_step
  query_refuses error why fault told state target next out =
      ends_after (leads_ask (query_of tables bytes) (Err why) (λ answer. on_answer answer next) state (error, fault, told)) (ends_refused target why state out)

  pub query_ends : (error : QueryError) → IsReadAs tables bytes (Err error) → (state : ShelfState) (target : Target) (next : Query → Script) (out : SinkState) →
      Ends target (query_text_step tables bytes next) state state out out (query_status error)
  query_ends (query.BadQuery place) h state target next out = query_refuses (query.BadQuery place) (reason 34 0 place 0) h refl state target next out
  query_ends (query.TooDeep place) h state target next out = query_refuses (query.TooDeep place) (reason 40 0 place 0) h refl state target next out
  query_ends query.NoSuchTable h state target next out = query_refuses query.NoSuchTable (reason 35 0 0 0) h refl state target next out
  query_ends query.NoSuchColumn h state target next out = query_refuses query.NoSuchColumn (reason 36 0 0 0) h refl state target next out
  query_ends query.NameTaken h state target next out = query_refuses query.NameTaken (reason 37 0 0 0) h refl state target next out
  query_ends query.NotSameColumns h state target next out = query_refuses query.NotSameColumns (reason 38 0 0 0) h refl state target next out
  query_ends query.EmptyProject h state target next out = query_refuses query.EmptyProject (reason 39 0 0 0) h refl state target next out
  query_ends query.TooWide h state target next out = query_refuses query.TooWide (reason 45 0 0 0) h refl state target next out
  query_ends query.Memory h state target next out = ends_memory target (query_text_step tables bytes next) state out

-- ---- patterns

module _ (bytes : List ℕ) where
  pub parsed_reads : (parsed : Parsed) → IsParsedAs bytes (Ok parsed) → (state : ShelfState) (next : Parsed → Script) → Leads (parsed_text_step bytes next) state (next parsed) state
  unfolding parsed_text_step
  parsed_reads parsed is state next = leads_ask (parsed_of bytes) (Ok parsed) (λ answer. on_answer answer next) state is

  parsed_refuses : (error : SparqlError) (why : Reason) → IsParsedAs bytes (Err error) → sparql_status error ≡ Refused why → (state : ShelfState) (target : Target) (next : Parsed → Script) (out : SinkState) →
      Ends target (parsed_text_step bytes next) state state out out (Refused why)
  unfolding parsed_text_step
  parsed_refuses error why fault told state target next out =
      ends_after (leads_ask (parsed_of bytes) (Err why) (λ answer. on_answer answer next) state (error, fault, told)) (ends_refused target why state out)

  pub parsed_ends : (error : SparqlError) → IsParsedAs bytes (Err error) → (state : ShelfState) (target : Target) (next : Parsed → Script) (out : SinkState) →
      Ends target (parsed_text_step bytes next) state state out out (sparql_status error)
  parsed_ends (sparql.BadPattern place) h state target next out = parsed_refuses (sparql.BadPattern place) (reason 47 0 place 0) h refl state target next out
  parsed_ends (sparql.TooNested place) h state target next out = parsed_refuses (sparql.TooNested place) (reason 48 0 place 0) h refl state target next out
  parsed_ends sparql.Memory h state target next out = ends_memory target (parsed_text_step bytes next) state out

-- ---- inverses

-- memory ran out, or the triples are refused
abbrev pub EndsInverse : List ℕ → List Statement → Status → Type 0
EndsInverse base triples status = (status ≡ Memory) ⊎ ((error : InverseError) × Refuses base triples error × (status ≡ inverse_status error))

pub inverse_told : (base : List ℕ) (triples : List Statement) (error : InverseError) (status : Status) → status ≡ inverse_status error → (error ≡ inverse.Memory) ⊎ Refuses base triples error → EndsInverse base triples status
inverse_told base triples error status is (inl memory) = inl (is ∙ ap inverse_status memory)
inverse_told base triples error status is (inr h) = inr (error, h, is)

module _ (base : List ℕ) (good : IsTrue (is_base base)) (triples : List Statement) (folder : List ℕ) where
  pub inverse_gives : (files : Batch) → AreInverse base triples folder files → (state : ShelfState) (next : Batch → Script) → Leads (inverse_step base triples folder next) state (next files) state
  unfolding inverse_step
  inverse_gives files are state next = leads_ask (inverse_of base triples folder) (Ok files) (λ answer. on_answer answer next) state (good, are)

  inverse_refuses : (error : InverseError) (why : Reason) → Refuses base triples error → inverse_status error ≡ Refused why → (state : ShelfState) (target : Target) (next : Batch → Script) (out : SinkState) →
      Ends target (inverse_step base triples folder next) state state out out (Refused why)
  unfolding inverse_step
  inverse_refuses error why refuses told state target next out =
      ends_after (leads_ask (inverse_of base triples folder) (Err why) (λ answer. on_answer answer next) state (good, (error, refuses, told))) (ends_refused target why state out)

  pub inverse_ends : (error : InverseError) → Refuses base triples error → (state : ShelfState) (target : Target) (next : Batch → Script) (out : SinkState) →
      Ends target (inverse_step base triples folder next) state state out out (inverse_status error)
  inverse_ends inverse.NoTables h state target next out = inverse_refuses inverse.NoTables (reason 44 0 0 0) h refl state target next out
  inverse_ends (inverse.Unexplained place) h state target next out = inverse_refuses (inverse.Unexplained place) (reason 30 0 place 0) h refl state target next out
  inverse_ends (inverse.TwoValues place) h state target next out = inverse_refuses (inverse.TwoValues place) (reason 31 0 place 0) h refl state target next out
  inverse_ends (inverse.TwoTables place) h state target next out = inverse_refuses (inverse.TwoTables place) (reason 32 0 place 0) h refl state target next out
  inverse_ends (inverse.NoKeyValue place) h state target next out = inverse_refuses (inverse.NoKeyValue place) (reason 33 0 place 0) h refl state target next out
  inverse_ends inverse.TooManyTables h state target next out = inverse_refuses inverse.TooManyTables (reason 13 0 0 0) h refl state target next out
  inverse_ends inverse.TooManyColumns h state target next out = inverse_refuses inverse.TooManyColumns (reason 14 0 0 0) h refl state target next out
  inverse_ends inverse.TooManyRows h state target next out = inverse_refuses inverse.TooManyRows (reason 25 0 0 0) h refl state target next out
  inverse_ends inverse.Memory h state target next out = absurd h

  -- how a run ends without tables
  pub ends_without : (status : Status) → EndsInverse base triples status → (state : ShelfState) (target : Target) (next : Batch → Script) (out : SinkState) →
      Ends target (inverse_step base triples folder next) state state out out status
  ends_without status (inl memory) state target next out = subst (λ (s : Status). Ends target (inverse_step base triples folder next) state state out out s) (sym memory) (ends_memory target (inverse_step base triples folder next) state out)
  ends_without status (inr h) state target next out = subst (λ (s : Status). Ends target (inverse_step base triples folder next) state state out out s) (sym h.2) (inverse_ends h.0 h.1 state target next out)

-- ---- tables

-- what is left of a list from an item on
pub drop_from : {X : Type 0} (xs : List X) (i : ℕ) (x : X) → slice_get xs i ≡ Some x → drop i xs ≡ x ∷ drop (suc i) xs
drop_from [] i x at = cc at
drop_from (y ∷ ys) zero x at = cc at
drop_from (y ∷ ys) (suc i) x at = drop_from ys i x at

module _ (folder : List ℕ) (mode : NullMode) (tables : List Table) (old : ShelfState) where
  -- the rows of the first tables have been read: this is what is left
  abbrev pub ReadSoFar : ℕ → List (List Row) → ShelfState → Type 0
  ReadSoFar place list state =
      (next : List (List Row) → Script) → Leads (tables_step folder mode 0 tables next) old (tables_step folder mode place (drop place tables) (λ others. next (list ++ others))) state

  pub none_read : ReadSoFar 0 [] old
  none_read = λ next. leads_refl (tables_step folder mode 0 tables next) old

  -- what comes behind the file of the table at the place
  abbrev pub behind : ℕ → List (List Row) → (List (List Row) → Script) → List Row → Script
  behind place list next = λ rows. tables_step folder mode (place + 1) (drop (place + 1) tables) (λ others. next (list ++ rows ∷ others))

  -- the next step is to load the file of the table at the place
  pub leads_to_table : (place : ℕ) (list : List (List Row)) (state : ShelfState) (at : Table) → slice_get tables place ≡ Some at → ReadSoFar place list state → (next : List (List Row) → Script) →
      Leads (tables_step folder mode 0 tables next) old (load (file.Table (place + 1)) (table_file folder at.name) (λ bytes. rows_step at.columns mode (place + 1) bytes (behind place list next))) state
  unfolding tables_step
  leads_to_table place list state at is so_far next =
      subst (λ (rest : List Table). Leads (tables_step folder mode 0 tables next) old (tables_step folder mode place rest (λ others. next (list ++ others))) state) (drop_from tables place at is ∙ ap (λ n. at ∷ drop n tables) one_on) (so_far next)
    where
      one_on : suc place ≡ place + 1
      one_on = omega arith

  -- and with its rows one more table has been read
  pub one_more_read : (place : ℕ) (list : List (List Row)) (rows : List Row) (state : ShelfState) →
      ((next : List (List Row) → Script) → Leads (tables_step folder mode 0 tables next) old (behind place list next rows) state) → ReadSoFar (place + 1) (list ++ rows ∷ []) state
  one_more_read place list rows state leads next =
      subst (λ (go : List (List Row) → Script). Leads (tables_step folder mode 0 tables next) old (tables_step folder mode (place + 1) (drop (place + 1) tables) go) state)
      (λ i. λ others. next (sym (append_assoc list (rows ∷ []) others) i)) (leads next)

  pub all_read : (place : ℕ) (list : List (List Row)) (state : ShelfState) → place ≡ length tables → ReadSoFar place list state → (next : List (List Row) → Script) → Leads (tables_step folder mode 0 tables next) old (next list) state
  unfolding tables_step
  all_read place list state whole so_far next =
      subst (λ (l : List (List Row)). Leads (tables_step folder mode 0 tables next) old (next l) state) (append-nil list)
      (subst (λ (rest : List Table). Leads (tables_step folder mode 0 tables next) old (tables_step folder mode place rest (λ others. next (list ++ others))) state)
      (drop_all place tables (omega (arith, whole))) (so_far next))

-- one more item and its item of the other list
pub zip_more : {A B : Type 0} (R : A → B → Type 0) (xs : List A) (ys : List B) (i : ℕ) (x : A) (y : B) → slice_get xs i ≡ Some x → AllZip R (take i xs) ys → R x y → AllZip R (take (i + 1) xs) (ys ++ y ∷ [])
zip_more {A} R xs ys i x y at h r =
    subst (λ (front : List A). AllZip R front (ys ++ y ∷ []))
    (sym (take_more xs i x (slice_get_within xs i x at) ∙ ap (λ z. take i xs ++ z ∷ []) (get_or_from_slice_get xs i x x at))) (zipped_behind R (take i xs) ys x y h r)
