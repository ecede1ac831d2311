-- Something comes of each command, over all files.
use Rattle.std.proofs.Common.{◌≡◌, ◌∙◌, ◌++◌, ◌≤◌, arith, append_assoc, ⊎_elim, ℕ, ◌+◌, List, [], ◌∷◌, length, Option, Some, None, Result, Ok, Err, refl, true, false, Bool, nat_lt, subst, sym, cond, inl, inr}
use Rattle.std.specs.Prelude.{IfSome, IsTrue, MatchBool, encode_utf8_all, map, option_to_list}
use Rattle.std.specs.List.{AllZip, flat_map}
use Rattle.std.specs.FinMap.{get}
use Rattle.std.proofs.lemmas.Bool.{cases_lt, le-ltb, lt-ltb}
use Rattle.std.proofs.lemmas.List.{append-nil}
use Rattle.members_dm.specs.Membership.{IsIn, NoRepeats}
use Rattle.members_dm.specs.Places.{IsListing}
use Rattle.value_dm.specs.declared.mode.NullMode.{NullMode}
use Rattle.names_dm.specs.Namespaces.{is_base}
use Rattle.names_dm.specs.Statements.{Statement}
use Rattle.ntriples_dm.specs.Written.{triple_text}
use Rattle.ntriples_reader_dm.specs.Document.{AreTriples, limit}
use Rattle.ntriples_reader_dm.specs.Lines.{lines}
use Rattle.ntriples_reader_dm.specs.declared.fault.GraphError.TheVariants as read
use Rattle.ntriples_reader_dm.proofs.Cuts.{one_more_line}
use Rattle.outside_dm.specs.Shelves.{Files, longest}
use Rattle.schema_dm.specs.Naming.{column_names}
use Rattle.schema_dm.specs.Schemas.{IsSchema}
use Rattle.schema_dm.specs.declared.draft.Column.{Column}
use Rattle.schema_dm.specs.declared.table.Table.{Table}
use Rattle.schema_dm.proofs.Lawful.{lawful_schema}
use Rattle.ddl_dm.specs.Meaning.{drafts_of}
use Rattle.ddl_dm.specs.Schema.{IsDdl, IsDdlFault}
use Rattle.ddl_dm.specs.declared.ddl.DdlError.{DdlError}
use Rattle.ddl_dm.specs.declared.ddl.DdlError.TheVariants as ddl
use Rattle.ddl_dm.proofs.OneAnswer.{IsRightSchema, IsSchemaAnswered}
use Rattle.ddl_dm.proofs.SomeAnswer.{schema_some}
use Rattle.table_csv.specs.Cells.{AreRowsOf, Row}
use Rattle.table_csv.specs.Databases.{Data, IsDatabase, rows_at}
use Rattle.table_csv.specs.TableFiles.{IsFirstFault, records_of}
use Rattle.table_csv.specs.declared.fault.TableError.{TableError}
use Rattle.table_csv.specs.declared.fault.TableError.TheVariants as table
use Rattle.table_csv.proofs.FittingRows.{read_rows_fit}
use Rattle.table_csv.proofs.HeaderLemmas.{fields_differ}
use Rattle.table_csv.proofs.SomeAnswer.{file_some}
use Rattle.consistency_dm.proofs.FirstConflicts.{verdict_some}
use Rattle.keys_dm.specs.declared.violation.Violation.{Violation}
use Rattle.keys_dm.proofs.DatabaseLevels.{none_listed}
use Rattle.keys_dm.proofs.SomeListing.{violations_some}
use Rattle.keys_dm.specs.Violations.{KeepsKeys, ViolatesAt}
use Rattle.graphs_dm.specs.Graphs.{IsDefined}
use Rattle.graphs_dm.specs.declared.graph_name.GraphName.{GraphName}
use Rattle.graphs_dm.specs.declared.graph_name.GraphName.TheVariants as graph
use Rattle.graphs_dm.proofs.GraphLevels.{some_text}
use Rattle.outside_dm.specs.Storing.{Batch}
use Rattle.table_csv.proofs.OneText.{text_some}
use Rattle.append_dm.specs.Appended.{IsBatchFor, appended}
use Rattle.clean_dm.specs.Removing.{IsLeft}
use Rattle.clean_dm.proofs.RowsLeft.{rows_some}
use Rattle.clean_dm.proofs.SomeCleaning.{cleaning_some}
use Rattle.algebra_dm.specs.declared.error.QueryError.{QueryError}
use Rattle.algebra_dm.specs.declared.error.QueryError.TheVariants as query
use Rattle.algebra_dm.specs.declared.query.Mode.{Mode}
use Rattle.algebra_dm.specs.declared.query.Query.{Query}
use Rattle.algebra_dm.specs.Nodes.{IsWellFormed}
use Rattle.query_text_dm.specs.Answer.{IsAnswer as IsReadAs}
use Rattle.query_lines_dm.proofs.SomeLines.{query_lines_some}
use Rattle.query_lines_dm.proofs.SomeQuery.{query_some, read_formed}
use Rattle.bench_lines_dm.proofs.OneText.{bench_text_some}
use Rattle.cmd_dm.specs.Append.{append_script, batch_keys_step, batch_script, few_step, further_rows_step, further_tables_step, more_step, on_batch_violations}
use Rattle.cmd_dm.specs.Ask.{answers_script, ask_script, pattern_script, question_script, translate_script}
use Rattle.cmd_dm.specs.Clean.{clean_script, clean_work}
use Rattle.cmd_dm.specs.Folder.{AreFilesOf, schema_file, shape_of, table_file}
use Rattle.cmd_dm.specs.GraphScript.{graph_script}
use Rattle.cmd_dm.specs.Invert.{files_work, invert_script}
use Rattle.cmd_dm.proofs.Inverses.{inverse_answer_some}
use Rattle.cmd_dm.specs.Plans.{IsOutcome, IsWithin}
use Rattle.cmd_dm.specs.Questions.{IsSchemaAnswer, IsRowsAnswer, IsTriplesAnswer, IsQueryAnswer, IsParsedAnswer, solutions_of, answers_of, batch_of, lines_of, graph_of, verdict_of, violations_of, files_of, left_of, removals_of}
use Rattle.cmd_dm.specs.Bench.{bench_script}
use Rattle.cmd_dm.specs.Reasons.{bad_base, batch_reason, cause_code, key_reason, reason}
use Rattle.cmd_dm.specs.Script.{Script, Outcome, usage, refused, absent, too_long, done, text_work, AfterLoad, Comes, ask, refuse, write}
use Rattle.cmd_dm.specs.Steps.{base_step, database_step, declared_step, folder_step, graph_step, inverse_step, kept_step, keys_step, on_answer, on_violations, parsed_step, parsed_text_step, query_step, query_text_step, rows_step, schema_step, tables_step, triples_step}
use Rattle.cmd_dm.specs.Check.{check_text}
use Rattle.cmd_dm.specs.Consistent.{consistent_script, verdict_text}
use Rattle.cmd_dm.specs.Rows.{rows_script}
use Rattle.cmd_dm.specs.Show.{show_script}
use Rattle.cmd_dm.specs.Sparql.{solutions_script, sparql_script}
use Rattle.pattern_lines_dm.proofs.SomeLines.{solution_lines_some}
use Rattle.sparql_text_dm.specs.Answer.{IsAnswer as IsParsedAs}
use Rattle.sparql_text_dm.specs.declared.error.SparqlError.{SparqlError}
use Rattle.sparql_text_dm.specs.declared.error.SparqlError.TheVariants as sparql
use Rattle.sparql_text_dm.specs.declared.parsed.Parsed.{Parsed}
use Rattle.sparql_text_dm.proofs.SomeAnswer.{some_answer}
use Rattle.cmd_dm.specs.declared.command.Command.{Command}
use Rattle.cmd_dm.proofs.Answered.{answers_some, pattern_text_some}
use Rattle.cmd_dm.proofs.Batches.{batch_text_some}
use Rattle.cmd_dm.proofs.Further.{FewBehind, few_alone, few_cons, in_all}
use Rattle.cmd_dm.proofs.Subjects.{document_subjects}
use Rattle.cmd_dm.specs.declared.command.Command.TheVariants.{Direct, Map, MapKeys, Check, Show, Consistent, Clean, Append, Invert, Rows, Translate, Ask, Sparql, Bench}
use Rattle.cmd_dm.specs.declared.status.File.{File}
use Rattle.cmd_dm.specs.declared.status.File.TheVariants.{Schema, Table as TableFile, Graph, Query as QueryFile, Pattern as PatternFile, More}
use Rattle.cmd_dm.specs.declared.status.Reason.{Reason}
use Rattle.cmd_dm.specs.declared.steps.LoadedFolder.{LoadedFolder}

-- ---- answers

schema_fault_some : (bytes : List ℕ) (error : DdlError) → IsSchemaAnswered (Err error) → IsDdlFault bytes error → (why : Reason) × IsSchemaAnswer bytes (Err why)
schema_fault_some bytes (ddl.NotUtf8 place) some h = (reason 15 0 place 0, (ddl.NotUtf8 place, h, refl))
schema_fault_some bytes (ddl.BadToken place) some h = (reason 16 0 place 0, (ddl.BadToken place, h, refl))
schema_fault_some bytes (ddl.Unexpected place) some h = (reason 17 0 place 0, (ddl.Unexpected place, h, refl))
schema_fault_some bytes (ddl.UnknownType place) some h = (reason 18 0 place 0, (ddl.UnknownType place, h, refl))
schema_fault_some bytes (ddl.AlterUnknown number) some h = (reason 43 0 number 0, (ddl.AlterUnknown number, h, refl))
schema_fault_some bytes (ddl.Schema error) some h = (reason (cause_code error.cause) error.table 0 0, (ddl.Schema error, h, refl))
schema_fault_some bytes ddl.Memory some h = absurd some

schema_answer_some : (bytes : List ℕ) → ¬ ((answer : Result (List Table) Reason) → ¬ IsSchemaAnswer bytes answer)
schema_answer_some bytes none = schema_some bytes by_answer
  where
    by_answer : (answer : Result (List Table) DdlError) → IsSchemaAnswered answer → ¬ IsRightSchema bytes answer
    by_answer (Ok tables) some right = none (Ok tables) right
    by_answer (Err error) some right = let why = schema_fault_some bytes error some right in none (Err why.0) why.1

rows_fault_some : (columns : List Column) (mode : NullMode) (number : ℕ) (bytes : List ℕ) (error : TableError) → ¬ (error ≡ table.Memory) → IsFirstFault columns mode (records_of bytes) error
    → (why : Reason) × IsRowsAnswer columns mode number bytes (Err why)
rows_fault_some columns mode number bytes table.NoHeader other h = (reason 19 number 0 0, (table.NoHeader, h, refl))
rows_fault_some columns mode number bytes (table.BadHeader column) other h = (reason 20 number 0 column, (table.BadHeader column, h, refl))
rows_fault_some columns mode number bytes (table.FieldCount place) other h = (reason 21 number place 0, (table.FieldCount place, h, refl))
rows_fault_some columns mode number bytes (table.TextNotUtf8 place column) other h = (reason 22 number place column, (table.TextNotUtf8 place column, h, refl))
rows_fault_some columns mode number bytes (table.BadValue place column) other h = (reason 23 number place column, (table.BadValue place column, h, refl))
rows_fault_some columns mode number bytes (table.NullRefused place column) other h = (reason 24 number place column, (table.NullRefused place column, h, refl))
rows_fault_some columns mode number bytes table.TooManyRows other h = (reason 25 number 0 0, (table.TooManyRows, h, refl))
rows_fault_some columns mode number bytes table.Memory other h = absurd (other refl)

rows_answer_some : (columns : List Column) (mode : NullMode) (number : ℕ) (bytes : List ℕ) → NoRepeats (column_names columns) → ¬ ((answer : Result (List Row) Reason) → ¬ IsRowsAnswer columns mode number bytes answer)
rows_answer_some columns mode number bytes distinct none =
    file_some columns mode (fields_differ columns distinct) (records_of bytes) (λ rows is. none (Ok rows) is) (λ error other h.
    let why = rows_fault_some columns mode number bytes error other h in
    none (Err why.0) why.1)

query_fault_some : (tables : List Table) (bytes : List ℕ) (error : QueryError) → ¬ (◌≡◌ {A = Result Query QueryError} (Err error) (Err query.Memory)) → IsReadAs tables bytes (Err error) → (why : Reason) × IsQueryAnswer tables bytes (Err why)
query_fault_some tables bytes (query.BadQuery place) other h = (reason 34 0 place 0, (query.BadQuery place, h, refl))
query_fault_some tables bytes (query.TooDeep place) other h = (reason 40 0 place 0, (query.TooDeep place, h, refl))
query_fault_some tables bytes query.NoSuchTable other h = (reason 35 0 0 0, (query.NoSuchTable, h, refl))
query_fault_some tables bytes query.NoSuchColumn other h = (reason 36 0 0 0, (query.NoSuchColumn, h, refl))
query_fault_some tables bytes query.NameTaken other h = (reason 37 0 0 0, (query.NameTaken, h, refl))
query_fault_some tables bytes query.NotSameColumns other h = (reason 38 0 0 0, (query.NotSameColumns, h, refl))
query_fault_some tables bytes query.EmptyProject other h = (reason 39 0 0 0, (query.EmptyProject, h, refl))
query_fault_some tables bytes query.TooWide other h = (reason 45 0 0 0, (query.TooWide, h, refl))
query_fault_some tables bytes query.Memory other h = absurd (other refl)

query_answer_some : (tables : List Table) (bytes : List ℕ) → ¬ ((answer : Result Query Reason) → ¬ IsQueryAnswer tables bytes answer)
query_answer_some tables bytes none = query_some tables bytes by_answer
  where
    by_answer : (answer : Result Query QueryError) → ¬ (answer ≡ Err query.Memory) → ¬ IsReadAs tables bytes answer
    by_answer (Ok q) other right = none (Ok q) right
    by_answer (Err error) other right = let why = query_fault_some tables bytes error other right in none (Err why.0) why.1

parsed_fault_some : (bytes : List ℕ) (error : SparqlError) → ¬ (◌≡◌ {A = Result Parsed SparqlError} (Err error) (Err sparql.Memory)) → IsParsedAs bytes (Err error) → (why : Reason) × IsParsedAnswer bytes (Err why)
parsed_fault_some bytes (sparql.BadPattern place) other h = (reason 47 0 place 0, (sparql.BadPattern place, h, refl))
parsed_fault_some bytes (sparql.TooNested place) other h = (reason 48 0 place 0, (sparql.TooNested place, h, refl))
parsed_fault_some bytes sparql.Memory other h = absurd (other refl)

parsed_answer_some : (bytes : List ℕ) → ¬ ((answer : Result Parsed Reason) → ¬ IsParsedAnswer bytes answer)
parsed_answer_some bytes none = some_answer bytes by_answer
  where
    by_answer : (answer : Result Parsed SparqlError) → ¬ (answer ≡ Err sparql.Memory) → ¬ IsParsedAs bytes answer
    by_answer (Ok parsed) other right = none (Ok parsed) right
    by_answer (Err error) other right = let why = parsed_fault_some bytes error other right in none (Err why.0) why.1

-- what stands behind the lines that were read is read too, or its first fault is an answer
lines_some : (bytes : List ℕ) (front rest : List (List ℕ)) (triples : List Statement) → lines bytes ≡ front ++ rest → AreTriples front triples → length triples ≤ limit
    → ¬ ((answer : Result (List Statement) Reason) → ¬ IsTriplesAnswer bytes answer)
lines_some bytes front [] triples whole says within none =
    none (Ok triples) (subst (λ (ls : List (List ℕ)). AreTriples ls triples) (sym (whole ∙ append-nil front)) says, within)
lines_some bytes front (line ∷ rest) triples whole says within none =
    none (Err (reason 28 0 (length front + 1) 0)) (
      read.BadLine (length front + 1),
      record {
        front = front;
        bad = line;
        rest = rest;
        triples = triples;
        whole = whole;
        says = says;
        within = within;
        never = λ x is.
            let more : List Statement = triples ++ option_to_list x in
            let said = one_more_line front triples line x says is in
            let parted : lines bytes ≡ (front ++ line ∷ []) ++ rest = whole ∙ sym (append_assoc front (line ∷ []) rest) in
            ⊎_elim
            (λ above. none (Err (reason 29 0 0 0)) (read.TooManyTriples, record { front = front ++ line ∷ []; rest = rest; triples = more; whole = parted; says = said; above = above }, refl))
            (λ small. lines_some bytes (front ++ line ∷ []) rest more parted said small none)
            (cases_lt limit (length more));
        counted = refl;
      },
      refl,
    )

triples_answer_some : (bytes : List ℕ) → ¬ ((answer : Result (List Statement) Reason) → ¬ IsTriplesAnswer bytes answer)
triples_answer_some bytes none = lines_some bytes [] (lines bytes) [] refl refl (omega arith) none

-- ---- steps

abbrev SomeComes : Files → Script → Type 0
SomeComes files script = ¬ ((outcome : Outcome) → ¬ Comes files script outcome)

some_loaded : (file : File) (content : Option (List ℕ)) (rest : List ℕ → Outcome → Type 0) →
    ((bytes : List ℕ) → ¬ ((o : Outcome) → ¬ rest bytes o)) → ¬ ((o : Outcome) → ¬ AfterLoad file content (λ bytes. rest bytes o) o)
some_loaded file None rest some none = none (absent file) refl
some_loaded file (Some bytes) rest some none =
    elim (nat_lt longest (length bytes)) as (λ b. ((o : Outcome) → ¬ MatchBool b (o ≡ too_long file) (rest bytes o)) → ⊥) [
      | true ↦ λ none. none (too_long file) refl
      | false ↦ λ none. some bytes none
    ] none

-- each table has rows that its columns allow
abbrev Fit : List Table → List (List Row) → Type 0
Fit tables rows = AllZip (λ table rows. AreRowsOf table.columns rows) tables rows

tables_some : (files : Files) (folder : List ℕ) (mode : NullMode) (before : ℕ) (tables : List Table) (next : List (List Row) → Script) → ((t : Table) → IsIn t tables → NoRepeats (column_names t.columns))
    → ((rows : List (List Row)) → Fit tables rows → SomeComes files (next rows)) → SomeComes files (tables_step folder mode before tables next)
unfolding tables_step rows_step
tables_some files folder mode before [] next distinct some none = some [] tt none
tables_some files folder mode before (t ∷ tables) next distinct some none =
    let differ : NoRepeats (column_names t.columns) = distinct t (inl refl) in
    let step : List Row → Script = λ rows. tables_step folder mode (before + 1) tables (λ others. next (rows ∷ others)) in
    let further : (rows : List Row) → AreRowsOf t.columns rows → SomeComes files (step rows) =
    λ rows fit. tables_some files folder mode (before + 1) tables (λ others. next (rows ∷ others)) (λ u m. distinct u (inr m)) (λ others fits. some (rows ∷ others) (fit, fits)) in
    some_loaded (TableFile (before + 1)) (get files (table_file folder t.name)) (λ bytes o. Comes files (rows_step t.columns mode (before + 1) bytes step) o)
    (λ bytes none. rows_answer_some t.columns mode (before + 1) bytes differ (λ answer right. on_rows bytes differ step further answer right (λ o comes. none o (answer, ((differ, right), comes))))) none
  where
    on_rows : (bytes : List ℕ) → NoRepeats (column_names t.columns) → (step : List Row → Script) → ((rows : List Row) → AreRowsOf t.columns rows → SomeComes files (step rows))
        → (answer : Result (List Row) Reason) → IsRowsAnswer t.columns mode (before + 1) bytes answer → SomeComes files (on_answer answer step)
    on_rows bytes differ step further (Ok rows) right none = further rows (read_rows_fit t.columns mode (records_of bytes) rows (fields_differ t.columns differ) right) none
    on_rows bytes differ step further (Err why) right none = none (refused why) refl

-- tables that are declared are a schema
pub declared_schema : (bytes : List ℕ) (tables : List Table) → IsDdl bytes tables → IsSchema tables
declared_schema bytes tables h = subst IsSchema (sym h.2.2) (lawful_schema (drafts_of h.0) h.2.1)

folder_some : (files : Files) (folder : List ℕ) (mode : NullMode) (next : LoadedFolder → Script) → ((loaded : LoadedFolder) → IsDatabase loaded.database → SomeComes files (next loaded)) → SomeComes files (folder_step folder mode next)
unfolding folder_step schema_step
folder_some files folder mode next some none =
    some_loaded Schema (get files (schema_file folder)) (λ bytes o. Comes files (schema_step bytes (λ tables. tables_step folder mode 0 tables (λ rows. next (record { schema = bytes; database = record { tables = tables; rows = rows } })))) o)
    (λ bytes none. schema_answer_some bytes (λ answer right. on_tables bytes answer right (λ o comes. none o (answer, (right, comes))))) none
  where
    on_tables : (bytes : List ℕ) (answer : Result (List Table) Reason) → IsSchemaAnswer bytes answer
        → SomeComes files (on_answer answer (λ tables. tables_step folder mode 0 tables (λ rows. next (record { schema = bytes; database = record { tables = tables; rows = rows } }))))
    on_tables bytes (Ok tables) right none =
        let schema = declared_schema bytes tables right in
        tables_some files folder mode 0 tables (λ rows. next (record { schema = bytes; database = record { tables = tables; rows = rows } })) (λ t m. (schema.each t m).distinct)
        (λ rows fit. some (record { schema = bytes; database = record { tables = tables; rows = rows } }) (record { schema = schema; rows = fit })) none
    on_tables bytes (Err why) right none = none (refused why) refl

database_some : (files : Files) (folder : List ℕ) (mode : NullMode) (next : Data → Script) → ((D : Data) → IsDatabase D → SomeComes files (next D)) → SomeComes files (database_step folder mode next)
unfolding database_step
database_some files folder mode next some none = folder_some files folder mode (λ loaded. next loaded.database) (λ loaded. some loaded.database) none

-- ---- commands

keys_some : (files : Files) (D : Data) (next : Unit {0} → Script) → (KeepsKeys D → SomeComes files (next tt)) → SomeComes files (keys_step D next)
unfolding keys_step
keys_some files D next some none = violations_some D (λ found listed. on_found found listed (λ o comes. none o (found, (listed, comes))))
  where
    on_found : (found : List Violation) → IsListing (ViolatesAt D) found → SomeComes files (on_violations found next)
    on_found [] listed none = some ((none_listed D [] listed).0 refl) none
    on_found (violation ∷ others) listed none = none (refused (key_reason violation)) refl

-- behind this step the graph is defined
kept_some : (files : Files) (name : GraphName) (D : Data) (next : Unit {0} → Script) → (IsDefined name D → SomeComes files (next tt)) → SomeComes files (kept_step name D next)
unfolding kept_step
kept_some files graph.Direct D next some none = keys_some files D next (λ kept. some tt) none
kept_some files graph.Map D next some none = keys_some files D next some none
kept_some files graph.MapKeys D next some none = some tt none

base_some : (files : Files) (word : List ℕ) (next : List ℕ → Script) → SomeComes files (next word) → SomeComes files (base_step word next)
unfolding base_step
base_some files word next some = by_base (is_base word)
  where
    by_base : (good : Bool) → SomeComes files (cond good (next word) (refuse bad_base))
    by_base true none = some none
    by_base false none = none (refused bad_base) refl

graph_some : (files : Files) (name : GraphName) (base folder : List ℕ) (nulls : NullMode) → SomeComes files (graph_script name base folder nulls)
graph_some files name base folder nulls =
    let put : List ℕ → Data → Script = λ base D. ask (graph_of name base D) (λ text. write (text_work text)) in
    let last : List ℕ → Data → Script = λ base D. kept_step name D (λ _. put base D) in
    base_some files base (λ base. database_step folder nulls (last base)) (database_some files folder nulls (last base) (λ D database.
    kept_some files name D (λ _. put base D) (λ defined none.
    let text = some_text name base D database defined in
    none (done (text_work text.0)) (text.0, (text.1, refl)))))

show_some : (files : Files) (name : List ℕ) → SomeComes files (show_script name)
unfolding graph_step triples_step
show_some files name none =
    let next : List Statement → Script = λ triples. write (text_work (flat_map triple_text triples)) in
    some_loaded Graph (get files (encode_utf8_all name)) (λ bytes o. Comes files (triples_step bytes next) o)
    (λ bytes none. triples_answer_some bytes (λ answer right. on_triples next answer (λ o comes. none o (answer, (right, comes))))) none
  where
    on_triples : (next : List Statement → Script) → (answer : Result (List Statement) Reason) → SomeComes files (on_answer answer (λ triples. write (text_work (flat_map triple_text triples))))
    on_triples next (Ok triples) none = none (done (text_work (flat_map triple_text triples))) refl
    on_triples next (Err why) none = none (refused why) refl

consistent_some : (files : Files) (name : List ℕ) → SomeComes files (consistent_script name)
unfolding graph_step triples_step
consistent_some files name none =
    let judge : List Statement → Script = λ triples. ask (verdict_of triples) (λ verdict. write (text_work (verdict_text verdict))) in
    some_loaded Graph (get files (encode_utf8_all name)) (λ bytes o. Comes files (triples_step bytes judge) o)
    (λ bytes none. triples_answer_some bytes (λ answer right. on_triples bytes answer right (λ o comes. none o (answer, (right, comes))))) none
  where
    on_triples : (bytes : List ℕ) (answer : Result (List Statement) Reason) → IsTriplesAnswer bytes answer
        → SomeComes files (on_answer answer (λ triples. ask (verdict_of triples) (λ verdict. write (text_work (verdict_text verdict)))))
    on_triples bytes (Ok triples) right none =
        verdict_some triples (document_subjects (lines bytes) triples right.0) (λ verdict is. none (done (text_work (verdict_text verdict))) (verdict, (is, refl)))
    on_triples bytes (Err why) right none = none (refused why) refl

-- tables with rows have files
files_some : (folder : List ℕ) (tables : List Table) (rows : List (List Row)) → length rows ≡ length tables → (files : Batch) × AreFilesOf folder (map shape_of tables) rows files
files_some folder [] [] long = ([], tt)
files_some folder [] (r ∷ rows) long = absurd (omega arith)
files_some folder (t ∷ tables) [] long = absurd (omega arith)
files_some folder (t ∷ tables) (r ∷ rows) long =
    let text = text_some t.columns r in
    let rest = files_some folder tables rows (omega arith) in
    ((table_file folder t.name, text.0) ∷ rest.0, (record { name = refl; text = text.1 }, rest.1))

clean_some : (files : Files) (folder out : List ℕ) (nulls : NullMode) → SomeComes files (clean_script folder out nulls)
clean_some files folder out nulls =
    folder_some files folder nulls (λ loaded.
    ask (removals_of loaded.database) (λ removals. ask (left_of loaded.database removals) (λ rows.
    ask (files_of out (map shape_of loaded.database.tables) rows) (λ batch. write (clean_work out loaded removals batch)))))
    (λ loaded database none. cleaning_some loaded.database (λ removals cleaning. rows_some loaded.database (IsLeft removals) (λ rows left.
    let made = files_some out loaded.database.tables rows left.many in
    none (done (clean_work out loaded removals made.0)) (removals, (cleaning, (rows, (left, (made.0, (made.1, refl)))))))))

base_some_good : (files : Files) (word : List ℕ) (next : List ℕ → Script) → (IsTrue (is_base word) → SomeComes files (next word)) → SomeComes files (base_step word next)
unfolding base_step
base_some_good files word next some = by_base (is_base word) (λ good. some good)
  where
    by_base : (good : Bool) → (good ≡ true → SomeComes files (next word)) → SomeComes files (cond good (next word) (refuse bad_base))
    by_base true some none = some refl none
    by_base false some none = none (refused bad_base) refl

invert_some : (files : Files) (base name out : List ℕ) → SomeComes files (invert_script base name out)
unfolding graph_step triples_step inverse_step
invert_some files base name out =
    let store : Batch → Script = λ stored. write (files_work stored) in
    base_some_good files base (λ base. graph_step name (λ triples. inverse_step base triples out store)) (λ good.
    some_loaded Graph (get files (encode_utf8_all name)) (λ bytes o. Comes files (triples_step bytes (λ triples. inverse_step base triples out store)) o)
    (λ bytes none. triples_answer_some bytes (λ answer right. on_triples good store (λ stored none. none (done (files_work stored)) refl) answer (λ o comes. none o (answer, (right, comes))))))
  where
    on_inverse : (store : Batch → Script) → ((stored : Batch) → SomeComes files (store stored)) → (answer : Result Batch Reason) → SomeComes files (on_answer answer store)
    on_inverse store some (Ok stored) none = some stored none
    on_inverse store some (Err why) none = none (refused why) refl

    on_triples : IsTrue (is_base base) → (store : Batch → Script) → ((stored : Batch) → SomeComes files (store stored)) → (answer : Result (List Statement) Reason)
        → SomeComes files (on_answer answer (λ triples. inverse_step base triples out store))
    on_triples good store some (Ok triples) none =
        inverse_answer_some base good triples out (λ answer right. on_inverse store some answer (λ o comes. none o (answer, ((good, right), comes))))
    on_triples good store some (Err why) none = none (refused why) refl

query_rows_some : (files : Files) (folder name : List ℕ) (nulls : NullMode) → SomeComes files (rows_script folder name nulls)
unfolding query_step query_text_step
query_rows_some files folder name nulls =
    let told : Data → Query → Script = λ D q. ask (lines_of D q) (λ text. write (text_work text)) in
    database_some files folder nulls (λ D. query_step D.tables name (told D)) (λ D database.
    some_loaded QueryFile (get files (encode_utf8_all name)) (λ bytes o. Comes files (query_text_step D.tables bytes (told D)) o)
    (λ bytes none. query_answer_some D.tables bytes (λ answer right. on_query D answer (λ o comes. none o (answer, (right, comes))))))
  where
    on_query : (D : Data) (answer : Result Query Reason) → SomeComes files (on_answer answer (λ q. ask (lines_of D q) (λ text. write (text_work text))))
    on_query D (Ok q) none = query_lines_some D q (λ text lines. none (done (text_work text)) (text, (lines, refl)))
    on_query D (Err why) none = none (refused why) refl

-- ---- questions

declared_some : (files : Files) (folder : List ℕ) (next : List Table → Script) → ((tables : List Table) → IsSchema tables → SomeComes files (next tables)) → SomeComes files (declared_step folder next)
unfolding declared_step schema_step
declared_some files folder next some none =
    some_loaded Schema (get files (schema_file folder)) (λ bytes o. Comes files (schema_step bytes next) o)
    (λ bytes none. schema_answer_some bytes (λ answer right. on_tables bytes answer right (λ o comes. none o (answer, (right, comes))))) none
  where
    on_tables : (bytes : List ℕ) (answer : Result (List Table) Reason) → IsSchemaAnswer bytes answer → SomeComes files (on_answer answer next)
    on_tables bytes (Ok tables) right none = some tables (declared_schema bytes tables right) none
    on_tables bytes (Err why) right none = none (refused why) refl

asked_some : (files : Files) (tables : List Table) (name : List ℕ) (next : Query → Script) → ((q : Query) → IsWellFormed tables q → SomeComes files (next q)) → SomeComes files (query_step tables name next)
unfolding query_step query_text_step
asked_some files tables name next some none =
    some_loaded QueryFile (get files (encode_utf8_all name)) (λ bytes o. Comes files (query_text_step tables bytes next) o)
    (λ bytes none. query_answer_some tables bytes (λ answer right. on_query bytes answer right (λ o comes. none o (answer, (right, comes))))) none
  where
    on_query : (bytes : List ℕ) (answer : Result Query Reason) → IsQueryAnswer tables bytes answer → SomeComes files (on_answer answer next)
    on_query bytes (Ok q) right none = some q (read_formed tables bytes q right) none
    on_query bytes (Err why) right none = none (refused why) refl

question_some : (files : Files) (base folder name : List ℕ) (next : List ℕ → List Table → Query → Script)
    → ((tables : List Table) (q : Query) → IsSchema tables → IsWellFormed tables q → SomeComes files (next base tables q)) → SomeComes files (question_script base folder name next)
question_some files base folder name next some =
    base_some files base (λ base. declared_step folder (λ tables. query_step tables name (λ q. next base tables q)))
    (declared_some files folder (λ tables. query_step tables name (λ q. next base tables q)) (λ tables schema.
    asked_some files tables name (λ q. next base tables q) (λ q formed. some tables q schema formed)))

translate_some : (files : Files) (mode : Mode) (base folder name : List ℕ) → SomeComes files (translate_script mode base folder name)
translate_some files mode base folder name =
    question_some files base folder name (pattern_script mode) (λ tables q schema formed none.
    pattern_text_some mode base tables q schema formed (λ text is. none (done (text_work text)) (text, ((schema, is), refl))))

ask_some : (files : Files) (mode : Mode) (base folder document name : List ℕ) → SomeComes files (ask_script mode base folder document name)
unfolding graph_step triples_step
ask_some files mode base folder document name =
    question_some files base folder name (answers_script mode document) (λ tables q schema formed none.
    some_loaded Graph (get files (encode_utf8_all document)) (λ bytes o. Comes files (triples_step bytes (put tables q)) o)
    (λ bytes none. triples_answer_some bytes (λ answer right. on_triples tables q schema formed answer (λ o comes. none o (answer, (right, comes))))) none)
  where
    put : List Table → Query → List Statement → Script
    put tables q triples = ask (answers_of mode base tables q triples) (λ text. write (text_work text))

    on_triples : (tables : List Table) (q : Query) → IsSchema tables → IsWellFormed tables q → (answer : Result (List Statement) Reason) → SomeComes files (on_answer answer (put tables q))
    on_triples tables q schema formed (Ok triples) none = answers_some mode base tables q schema formed triples (λ text is. none (done (text_work text)) (text, ((schema, is), refl)))
    on_triples tables q schema formed (Err why) none = none (refused why) refl

-- ---- patterns

sparql_some : (files : Files) (document name : List ℕ) → SomeComes files (sparql_script document name)
unfolding graph_step triples_step parsed_step parsed_text_step
sparql_some files document name =
    some_loaded PatternFile (get files (encode_utf8_all name)) (λ bytes o. Comes files (parsed_text_step bytes (solutions_script document)) o)
    (λ bytes none. parsed_answer_some bytes (λ answer right. on_parsed answer (λ o comes. none o (answer, (right, comes)))))
  where
    put : Parsed → List Statement → Script
    put parsed triples = ask (solutions_of parsed triples) (λ text. write (text_work text))

    on_triples : (parsed : Parsed) (answer : Result (List Statement) Reason) → SomeComes files (on_answer answer (put parsed))
    on_triples parsed (Ok triples) none = solution_lines_some triples parsed.pattern parsed.header (λ text lines. none (done (text_work text)) (text, (lines, refl)))
    on_triples parsed (Err why) none = none (refused why) refl

    on_parsed : (answer : Result Parsed Reason) → SomeComes files (on_answer answer (solutions_script document))
    on_parsed (Ok parsed) none =
        some_loaded Graph (get files (encode_utf8_all document)) (λ bytes o. Comes files (triples_step bytes (put parsed)) o)
        (λ bytes none. triples_answer_some bytes (λ answer right. on_triples parsed answer (λ o comes. none o (answer, (right, comes))))) none
    on_parsed (Err why) none = none (refused why) refl

-- ---- batches

few_some : (files : Files) (number count : ℕ) (next : Unit {0} → Script) → (count ≤ 4194304 → SomeComes files (next tt)) → SomeComes files (few_step number count next)
unfolding few_step
few_some files number count next some none =
    let over : Script = refuse (reason 25 number 0 0) in
    ⊎_elim
    (λ above. none (refused (reason 25 number 0 0)) (subst (λ (b : Bool). Comes files (cond b over (next tt)) (refused (reason 25 number 0 0))) (sym (lt-ltb 4194304 count above)) refl))
    (λ within. some within (λ o comes. none o (subst (λ (b : Bool). Comes files (cond b over (next tt)) o) (sym (le-ltb 4194304 count within)) comes)))
    (cases_lt 4194304 count)

further_some : (files : Files) (folder : List ℕ) (mode : NullMode) (many : ℕ) (held : List (List Row)) (before : ℕ) (tables : List Table) (next : List (List Row) → Script)
    → ((t : ℕ) → length (rows_at held t) ≤ 4194304) → ((t : Table) → IsIn t tables → NoRepeats (column_names t.columns))
    → ((rows : List (List Row)) → Fit tables rows → FewBehind held before rows → SomeComes files (next rows)) → SomeComes files (further_tables_step folder mode many held before tables next)
unfolding further_tables_step further_rows_step rows_step
further_some files folder mode many held before [] next alone distinct some none = some [] tt (λ t. let few = alone (before + t) in omega (arith, few)) none
further_some files folder mode many held before (t ∷ tables) next alone distinct some none =
    let differ : NoRepeats (column_names t.columns) = distinct t (inl refl) in
    let step : List Row → Script = λ rows. further_tables_step folder mode many held (before + 1) tables (λ others. next (rows ∷ others)) in
    let further : (rows : List Row) → AreRowsOf t.columns rows → length (rows_at held before) + length rows ≤ 4194304 → SomeComes files (step rows) =
    λ rows fit few. further_some files folder mode many held (before + 1) tables (λ others. next (rows ∷ others)) alone (λ u m. distinct u (inr m))
    (λ others fits fews. some (rows ∷ others) (fit, fits) (few_cons held before rows others few fews)) in
    some_loaded (More (before + 1)) (get files (table_file folder t.name))
    (λ bytes o. Comes files (further_rows_step t.columns mode (before + 1 + many) (length (rows_at held before)) bytes step) o)
    (λ bytes none. rows_answer_some t.columns mode (before + 1 + many) bytes differ (λ answer right. on_rows bytes differ step further answer right (λ o comes. none o (answer, ((differ, right), comes))))) none
  where
    on_rows : (bytes : List ℕ) → NoRepeats (column_names t.columns) → (step : List Row → Script)
        → ((rows : List Row) → AreRowsOf t.columns rows → length (rows_at held before) + length rows ≤ 4194304 → SomeComes files (step rows))
        → (answer : Result (List Row) Reason) → IsRowsAnswer t.columns mode (before + 1 + many) bytes answer
        → SomeComes files (on_answer answer (λ rows. few_step (before + 1 + many) (length (rows_at held before) + length rows) (λ _. step rows)))
    on_rows bytes differ step further (Ok rows) right none =
        let fit = read_rows_fit t.columns mode (records_of bytes) rows (fields_differ t.columns differ) right in
        few_some files (before + 1 + many) (length (rows_at held before) + length rows) (λ _. step rows) (further rows fit) none
    on_rows bytes differ step further (Err why) right none = none (refused why) refl

more_some : (files : Files) (folder : List ℕ) (mode : NullMode) (D : Data) (next : Data → Script) → IsDatabase D
    → ((batch : Data) → IsDatabase batch → IsBatchFor D batch → SomeComes files (next batch)) → SomeComes files (more_step folder mode D next)
unfolding more_step
more_some files folder mode D next database some =
    further_some files folder mode (length D.tables) D.rows 0 D.tables (λ rows. next (record { tables = D.tables; rows = rows })) (λ t. let few = few_alone D database t in omega (arith, few))
    (λ t m. (database.schema.each t m).distinct)
    (λ rows fit fews. some (record { tables = D.tables; rows = rows }) (record { schema = database.schema; rows = fit }) (record { tables = refl; few = in_all D.rows rows fews }))

batch_keys_some : (files : Files) (whole : Data) (next : Unit {0} → Script) → (KeepsKeys whole → SomeComes files (next tt)) → SomeComes files (batch_keys_step whole next)
unfolding batch_keys_step
batch_keys_some files whole next some none = violations_some whole (λ found listed. on_found found listed (λ o comes. none o (found, (listed, comes))))
  where
    on_found : (found : List Violation) → IsListing (ViolatesAt whole) found → SomeComes files (on_batch_violations found next)
    on_found [] listed none = some ((none_listed whole [] listed).0 refl) none
    on_found (violation ∷ others) listed none = none (refused (batch_reason violation)) refl

append_some : (files : Files) (base folder more : List ℕ) (nulls : NullMode) → SomeComes files (append_script base folder more nulls)
append_some files base folder more nulls =
    let last : List ℕ → Data → Data → Script = λ base D batch. batch_script base D batch in
    base_some_good files base (λ base. database_step folder nulls (λ D. more_step more nulls D (last base D))) (λ good.
    database_some files folder nulls (λ D. more_step more nulls D (last base D)) (λ D database.
    more_some files more nulls D (last base D) database (λ batch batch_is fits.
    let put : Script = ask (batch_of base D batch) (λ text. write (text_work text)) in
    keys_some files D (λ _. batch_keys_step (appended D batch) (λ _. put)) (λ kept.
    batch_keys_some files (appended D batch) (λ _. put) (λ whole_kept none.
    let text = batch_text_some base good D batch database batch_is fits kept whole_kept in
    none (done (text_work text.0)) (text.0, (text.1, refl)))))))

bench_some : (files : Files) (n : ℕ) → n ≤ 50000 → SomeComes files (bench_script n)
bench_some files n small none = bench_text_some n small (λ text is. none (done (text_work text)) (text, (is, refl)))

-- something comes of words
pub words_some : (files : Files) (command : Option Command) → IfSome command IsWithin → ¬ ((outcome : Outcome) → ¬ IsOutcome files command outcome)
words_some files None within none = none usage refl
words_some files (Some (Direct base folder nulls)) within none = graph_some files graph.Direct base folder nulls none
words_some files (Some (Map base folder nulls)) within none = graph_some files graph.Map base folder nulls none
words_some files (Some (MapKeys base folder nulls)) within none = graph_some files graph.MapKeys base folder nulls none
words_some files (Some (Clean folder out nulls)) within none = clean_some files folder out nulls none
words_some files (Some (Append base folder more nulls)) within none = append_some files base folder more nulls none
words_some files (Some (Invert base name out)) within none = invert_some files base name out none
words_some files (Some (Rows folder name nulls)) within none = query_rows_some files folder name nulls none
words_some files (Some (Translate mode base folder name)) within none = translate_some files mode base folder name none
words_some files (Some (Ask mode base folder document name)) within none = ask_some files mode base folder document name none
words_some files (Some (Sparql document name)) within none = sparql_some files document name none
words_some files (Some (Show name)) within none = show_some files name none
words_some files (Some (Consistent name)) within none = consistent_some files name none
words_some files (Some (Check folder nulls)) within none =
    database_some files folder nulls (λ D. ask (violations_of D) (λ found. write (text_work (check_text D.tables found))))
    (λ D database none. violations_some D (λ found listed. none (done (text_work (check_text D.tables found))) (found, (listed, refl)))) none
words_some files (Some (Bench n)) within none = bench_some files n within none
