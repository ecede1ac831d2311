-- What follows of how a run ended for the words as a whole.
use Rattle.std.proofs.Common.{◌≡◌, ◌∙◌, refl, sym, ap, subst, inl, inr, ◌⊎◌, ℕ, ◌+◌, ◌≤◌, List, [], ◌∷◌, length, Option, Some, None, Result, Ok, Err, true, false, Bool, cond, arith, zero, suc, ◌<◌, nat_lt}
use Rattle.std.specs.Prelude.{◌↔◌, IsTrue, IfSome, MatchBool, encode_utf8_all, map}
use Rattle.std.specs.List.{AllZip, flat_map}
use Rattle.std.specs.FinMap.{get}
use Rattle.std.specs.Io.KnownBytes.{Appends}
use Rattle.std.proofs.lemmas.Bool.{le-ltb}
use Rattle.members_dm.specs.Membership.{IsIn, NoRepeats}
use Rattle.members_dm.specs.Places.{IsListing}
use Rattle.members_dm.proofs.PlacesLemmas.{listing_unique}
use Rattle.value_dm.specs.declared.mode.NullMode.{NullMode}
use Rattle.value_dm.specs.Texts.{IsText}
use Rattle.names_dm.specs.Namespaces.{is_base}
use Rattle.names_dm.proofs.SafeForms.{is_iri-base}
use Rattle.names_dm.specs.Statements.{Statement}
use Rattle.ntriples_dm.specs.Written.{triple_text}
use Rattle.ntriples_reader_dm.specs.Document.{IsDocument, limit}
use Rattle.schema_dm.specs.Naming.{column_names}
use Rattle.schema_dm.specs.declared.table.Table.{Table}
use Rattle.facts_dm.proofs.NamingInstance.{naming_laws}
use Rattle.outside_dm.specs.Shelves.{Files, ShelfState, longest}
use Rattle.outside_dm.specs.Sinks.{SinkState}
use Rattle.table_csv.specs.Cells.{Row}
use Rattle.table_csv.specs.Databases.{Data, IsDatabase, rows_at}
use Rattle.table_csv.specs.Cells.{AreRowsOf}
use Rattle.table_csv.specs.TableFiles.{records_of}
use Rattle.table_csv.proofs.FittingRows.{read_rows_fit}
use Rattle.table_csv.proofs.HeaderLemmas.{fields_differ}
use Rattle.consistency_dm.specs.Conflicts.{IsVerdict}
use Rattle.consistency_dm.specs.declared.verdict.Verdict.{Verdict}
use Rattle.append_dm.specs.Appended.{IsBatchFor, appended}
use Rattle.append_dm.specs.Batches.{IsBatchText}
use Rattle.clean_dm.specs.Removing.{IsLeft}
use Rattle.clean_dm.proofs.KeptRows.{kept_keeps}
use Rattle.clean_dm.proofs.OneCleaning.{cleaning_is_largest}
use Rattle.consistency_dm.specs.declared.verdict.Verdict.TheVariants.{Yes}
use Rattle.consistency_dm.proofs.FirstConflicts.{one_verdict}
use Rattle.keys_dm.specs.Violations.{KeepsKeys, ViolatesAt}
use Rattle.keys_dm.specs.declared.violation.Violation.{Violation}
use Rattle.keys_dm.proofs.DatabaseLevels.{none_listed}
use Rattle.graphs_dm.specs.Graphs.{AreTriplesOf, IsGraphText}
use Rattle.graph_texts_dm.proofs.Texts.{exactly}
use Rattle.graph_layouts_dm.proofs.KeysStand.{keys_stand}
use Rattle.graph_layouts_dm.proofs.MapGraphStands.{map_stands}
use Rattle.graph_layouts_dm.proofs.SomePlain.{some_plain}
use Rattle.graphs_dm.proofs.NodeLaws.{own_nodes}
use Rattle.keys_dm.proofs.OneMatch.{kept_matches}
use Rattle.outside_dm.specs.Storing.{Batch, StoresAll}
use Rattle.table_csv.specs.Plain.{IsPlain, PlainTable}
use Rattle.layouts_dm.specs.LayoutTables.{StandsFor}
use Rattle.inverse_dm.specs.Answers.{Refuses, StandsWithin}
use Rattle.inverse_dm.specs.declared.error.InverseError.{InverseError}
use Rattle.inverse_dm.specs.declared.error.InverseError.TheVariants as inverse
use Rattle.algebra_dm.specs.Certain.{KeepsKeysOf}
use Rattle.algebra_dm.specs.Nodes.{IsWellFormed}
use Rattle.algebra_dm.specs.declared.error.QueryError.{QueryError}
use Rattle.algebra_dm.specs.declared.error.QueryError.TheVariants as query
use Rattle.algebra_dm.specs.declared.query.Mode.{Mode}
use Rattle.algebra_dm.specs.declared.query.Query.{Query as Asked}
use Rattle.query_text_dm.specs.Answer.{IsAnswer}
use Rattle.query_lines_dm.specs.Lines.{AreQueryLines}
use Rattle.query_lines_dm.proofs.SomeQuery.{read_formed}
use Rattle.table_patterns_dm.specs.TablePatterns.{graph_of as mode_graph}
use Rattle.graphs_dm.proofs.Contradictions.{interpreted_below}
use Rattle.graphs_dm.specs.declared.graph_name.GraphName.{GraphName}
use Rattle.graphs_dm.specs.declared.graph_name.GraphName.TheVariants as graph
use Rattle.cmd_dm.specs.Append.{append_script, batch_keys_step, batch_script, few_step, further_rows_step, further_tables_step, more_step, on_batch_violations}
use Rattle.cmd_dm.specs.Answered.{AreAnswersIn, IsPatternText}
use Rattle.cmd_dm.specs.Ask.{answers_script, ask_script, pattern_script, question_script, translate_script}
use Rattle.cmd_dm.specs.Check.{check_script, check_text}
use Rattle.bench_dm.specs.Generated.{generated}
use Rattle.bench_lines_dm.specs.Bench.{IsBenchText}
use Rattle.cmd_dm.specs.Bench.{bench_script}
use Rattle.cmd_dm.specs.Consistent.{consistent_script, verdict_text}
use Rattle.cmd_dm.specs.Rows.{rows_script}
use Rattle.cmd_dm.specs.Show.{show_script}
use Rattle.cmd_dm.specs.Sparql.{solutions_script, sparql_script}
use Rattle.pattern_lines_dm.specs.Lines.{AreSolutionLines}
use Rattle.sparql_text_dm.specs.Answer.{IsAnswer as IsParsedAs}
use Rattle.sparql_text_dm.specs.declared.error.SparqlError.{SparqlError}
use Rattle.sparql_text_dm.specs.declared.error.SparqlError.TheVariants as sparql
use Rattle.sparql_text_dm.specs.declared.parsed.Parsed.{Parsed}
use Rattle.cmd_dm.specs.GraphScript.{graph_script}
use Rattle.cmd_dm.specs.Ending.{Ends, NoFault, Target, to_output, to_both, to_shelf}
use Rattle.cmd_dm.specs.Invert.{files_work, invert_script}
use Rattle.cmd_dm.proofs.Inverses.{inverse_answer_unique, inverse_files, files_some}
use Rattle.cmd_dm.proofs.StoredTables.{are_stored}
use Rattle.bench_lines_dm.proofs.PlainLimits.{plain_within}
use Rattle.cmd_dm.specs.Folder.{schema_file, table_file, shape_of}
use Rattle.cmd_dm.specs.Headline.{HoldsFile, HoldsTables, HoldsDatabase, EndsSo, WritesText, WritesKept, WritesFolder, Checks, Shows, Judges, Promises, Cleans, IsCleanWork, TellsKeys, Inverts, StoresTables, AreStored, GivesBack, IsGraphFile, AnswersOver, AnswersQuery, HoldsQuestion, RefusesFault, RefusesPattern, WritesAnswer, WritesBatch, WritesSolutions}
use Rattle.cmd_dm.specs.Plans.{IsOutcome, NamesFile, ask_file, folder_file, graph_file, plan_of, rows_file, sparql_file}
use Rattle.cmd_dm.specs.Questions.{IsInverseAnswer, IsParsedAnswer, IsQueryAnswer, answers_of, solutions_of, batch_of, lines_of, violations_of, verdict_of, graph_of, removals_of, left_of, files_of}
use Rattle.cmd_dm.specs.Clean.{clean_script, clean_work}
use Rattle.cmd_dm.specs.Reasons.{bad_base, batch_reason, inverse_status, key_reason, query_status, reason, sparql_status}
use Rattle.cmd_dm.specs.Script.{Script, Work, Outcome, usage, refused, done, text_work, too_long, status_of, Comes, AfterLoad, MayLoad, ask, write, refuse}
use Rattle.cmd_dm.specs.Steps.{base_step, schema_step, rows_step, tables_step, database_step, declared_step, folder_step, graph_step, inverse_step, kept_step, keys_step, triples_step, parsed_step, parsed_text_step, query_step, query_text_step, on_answer, on_violations}
use Rattle.cmd_dm.proofs.Answered.{as_rows}
use Rattle.cmd_dm.proofs.Batches.{batch_enlarges_so}
use Rattle.cmd_dm.proofs.Endings.{ends_exact, status_comes}
use Rattle.cmd_dm.proofs.Further.{FewBehind, few_first, few_rest, from_first}
use Rattle.cmd_dm.proofs.Outcomes.{outcome_unique, schema_answer_unique, rows_answer_unique, triples_answer_unique, parsed_answer_unique, query_answer_unique}
use Rattle.cmd_dm.proofs.LawfulQueries.{read_lawful}
use Rattle.cmd_dm.proofs.SomeOutcome.{declared_schema}
use Rattle.cmd_dm.specs.declared.command.Command.{Command}
use Rattle.cmd_dm.specs.declared.command.Command.TheVariants.{Direct, Map, MapKeys, Check, Show, Consistent, Clean, Append, Invert, Rows, Translate, Ask, Sparql, Bench}
use Rattle.cmd_dm.specs.declared.status.File.{File}
use Rattle.cmd_dm.specs.declared.status.File.TheVariants.{Schema, Table as TableFile, Query, Graph, Pattern, More}
use Rattle.cmd_dm.specs.declared.status.Reason.{Reason}
use Rattle.cmd_dm.specs.declared.steps.LoadedFolder.{LoadedFolder}
use Rattle.cmd_dm.specs.declared.status.Status.{Status}
use Rattle.cmd_dm.specs.declared.status.Status.TheVariants.{Usage, ReadFault, Memory, Refused}

-- one thing comes of words
pub words_unique : (files : Files) (command : Option Command) (o p : Outcome) → IsOutcome files command o → IsOutcome files command p → o ≡ p
words_unique files None o p h k = h ∙ sym k
words_unique files (Some command) o p h k = outcome_unique files (plan_of command).script o p h k

-- without a fault a run ends with what comes of its words
pub words_exact : (words : Option Command) (status : Status) {s t : ShelfState} {o p : SinkState} (files : Files) (outcome : Outcome) →
    (words ≡ None → status ≡ Usage) →
    ((command : Command) → words ≡ Some command → Ends (plan_of command).target (plan_of command).script s t o p status) →
    s.files ≡ Some files → IsOutcome files words outcome → NoFault s t o p → (status ≡ status_of outcome) ⊎ (status ≡ Memory)
words_exact None status files outcome none ends told comes calm = inl (none refl ∙ ap status_of (sym comes))
words_exact (Some command) status files outcome none ends told comes calm = ends_exact (ends command refl) files outcome told comes calm

-- and unless memory ran out, something comes of them
pub words_come : (words : Option Command) (status : Status) {s t : ShelfState} {o p : SinkState} (files : Files) →
    ((command : Command) → words ≡ Some command → Ends (plan_of command).target (plan_of command).script s t o p status) →
    s.files ≡ Some files → NoFault s t o p → ((outcome : Outcome) × IsOutcome files words outcome) ⊎ (status ≡ Memory)
words_come None status files ends told calm = inl (usage, refl)
words_come (Some command) status files ends told calm = elim (status_comes _ _ _ _ _ _ _ (ends command refl) files told calm) [
  | inl h ↦ inl (h.0, h.1.0)
  | inr memory ↦ inr memory
]

-- ---- the names of files

base_may_load : (good : Bool) (on : Script) (file : File) (name : List ℕ) → MayLoad (cond good on (refuse bad_base)) file name → MayLoad on file name
base_may_load true on file name h = h
base_may_load false on file name h = absurd h

-- behind an answer only what is next behind its value is loaded
answer_may_load : {A : Type 0} (answer : Result A Reason) (next : A → Script) (file : File) (name : List ℕ) (P : Type 0) → ((value : A) → MayLoad (next value) file name → P) →
    MayLoad (on_answer answer next) file name → P
answer_may_load (Ok value) next file name P goes h = goes value h
answer_may_load (Err reason) next file name P goes h = absurd h

-- the files of tables alone are loaded
tables_may_load : (folder : List ℕ) (mode : NullMode) (before : ℕ) (tables : List Table) (next : List (List Row) → Script) (file : File) (name : List ℕ) →
    ((rows : List (List Row)) → ¬ MayLoad (next rows) file name) → MayLoad (tables_step folder mode before tables next) file name → (number : ℕ) × (TableFile number ≡ file)
unfolding tables_step rows_step
tables_may_load folder mode before [] next file name none h = absurd (none [] h)
tables_may_load folder mode before (table ∷ tables) next file name none (inl h) = (before + 1, h.0)
tables_may_load folder mode before (table ∷ tables) next file name none (inr h) =
    answer_may_load h.1.1.0 (λ rows. tables_step folder mode (before + 1) tables (λ others. next (rows ∷ others))) file name ((number : ℕ) × (TableFile number ≡ file))
    (λ rows. tables_may_load folder mode (before + 1) tables (λ others. next (rows ∷ others)) file name (λ others. none (rows ∷ others))) h.1.1.1.1

schema_may_load : (folder : List ℕ) (mode : NullMode) (next : LoadedFolder → Script) (name : List ℕ) →
    ((loaded : LoadedFolder) → ¬ MayLoad (next loaded) Schema name) → MayLoad (folder_step folder mode next) Schema name → name ≡ schema_file folder
unfolding folder_step schema_step
schema_may_load folder mode next name none (inl h) = sym h.1
schema_may_load folder mode next name none (inr h) =
    let loaded : List Table → List (List Row) → LoadedFolder = λ tables rows. record { schema = h.0; database = record { tables = tables; rows = rows } } in
    answer_may_load h.1.1.0 (λ tables. tables_step folder mode 0 tables (λ rows. next (loaded tables rows))) Schema name (name ≡ schema_file folder)
    (λ tables k.
    let table = tables_may_load folder mode 0 tables (λ rows. next (loaded tables rows)) Schema name (λ rows. none (loaded tables rows)) k in
    absurd (no_schema table.0 table.1)) h.1.1.1.1
  where
    no_schema : (number : ℕ) → TableFile number ≡ Schema → ⊥
    no_schema number e = absurd cc

folder_names : (folder : List ℕ) (mode : NullMode) (next : LoadedFolder → Script) (file : File) (name : List ℕ) →
    ((loaded : LoadedFolder) (file : File) → ¬ MayLoad (next loaded) file name) → MayLoad (folder_step folder mode next) file name → IfSome (folder_file folder file) (λ named. name ≡ named)
folder_names folder mode next Schema name none h = schema_may_load folder mode next name (λ loaded. none loaded Schema) h
folder_names folder mode next (TableFile number) name none h = tt
folder_names folder mode next Query name none h = tt
folder_names folder mode next Graph name none h = tt
folder_names folder mode next Pattern name none h = tt
folder_names folder mode next (More number) name none h = tt

database_names : (folder : List ℕ) (mode : NullMode) (next : Data → Script) (file : File) (name : List ℕ) →
    ((D : Data) (file : File) → ¬ MayLoad (next D) file name) → MayLoad (database_step folder mode next) file name → IfSome (folder_file folder file) (λ named. name ≡ named)
unfolding database_step
database_names folder mode next file name none h = folder_names folder mode (λ loaded. next loaded.database) file name (λ loaded. none loaded.database) h

-- what is done behind the keys
abbrev put_script : GraphName → List ℕ → Data → Script
put_script name base D = ask (graph_of name base D) (λ text. write (text_work text))

keys_load_nothing : (D : Data) (next : Unit {0} → Script) (file : File) (name : List ℕ) → ¬ MayLoad (next tt) file name → ¬ MayLoad (keys_step D next) file name
unfolding keys_step
keys_load_nothing D next file name none h = by_found h.0 h.1.1
  where
    by_found : (found : List Violation) → ¬ MayLoad (on_violations found next) file name
    by_found [] h = none h
    by_found (violation ∷ others) h = h

kept_loads_nothing : (graph_name : GraphName) (D : Data) (next : Unit {0} → Script) (file : File) (name : List ℕ) → ¬ MayLoad (next tt) file name → ¬ MayLoad (kept_step graph_name D next) file name
unfolding kept_step
kept_loads_nothing graph.Direct D next file name none h = keys_load_nothing D next file name none h
kept_loads_nothing graph.Map D next file name none h = keys_load_nothing D next file name none h
kept_loads_nothing graph.MapKeys D next file name none h = none h

-- what is done behind the database
abbrev mapped : GraphName → List ℕ → Data → Script
mapped name base D = kept_step name D (λ _. put_script name base D)

abbrev checked : Data → Script
checked D = ask (violations_of D) (λ found. write (text_work (check_text D.tables found)))

-- what is done behind the folder
abbrev cleaned : List ℕ → LoadedFolder → Script
cleaned out loaded =
    ask (removals_of loaded.database) (λ removals. ask (left_of loaded.database removals) (λ rows.
    ask (files_of out (map shape_of loaded.database.tables) rows) (λ batch. write (clean_work out loaded removals batch))))

graph_names : (graph_name : GraphName) (base folder : List ℕ) (nulls : NullMode) (file : File) (name : List ℕ) → MayLoad (graph_script graph_name base folder nulls) file name →
    IfSome (folder_file folder file) (λ named. name ≡ named)
unfolding base_step
graph_names graph_name base folder nulls file name h =
    database_names folder nulls (mapped graph_name base) file name (λ D file. kept_loads_nothing graph_name D (λ _. put_script graph_name base D) file name (λ h. h.1.1))
    (base_may_load (is_base base) (database_step folder nulls (mapped graph_name base)) file name h)

-- what is done behind the triples
abbrev judged : List Statement → Script
judged triples = ask (verdict_of triples) (λ verdict. write (text_work (verdict_text verdict)))

-- behind the graph nothing is loaded
graph_may_load : (document : List ℕ) (next : List Statement → Script) (file : File) (name : List ℕ) → ((triples : List Statement) → ¬ MayLoad (next triples) file name) → MayLoad (graph_step document next) file name →
    (file ≡ Graph) × (name ≡ encode_utf8_all document)
unfolding graph_step triples_step
graph_may_load document next file name none (inl h) = (sym h.0, sym h.1)
graph_may_load document next file name none (inr h) =
    answer_may_load h.1.1.0 next file name ((file ≡ Graph) × (name ≡ encode_utf8_all document)) (λ triples k. absurd (none triples k)) h.1.1.1.1

show_names : (document : List ℕ) (file : File) (name : List ℕ) → (file ≡ Graph) × (name ≡ encode_utf8_all document) → IfSome (graph_file document file) (λ named. name ≡ named)
show_names document Schema name h = tt
show_names document (TableFile number) name h = tt
show_names document Query name h = tt
show_names document Graph name h = h.1
show_names document Pattern name h = tt
show_names document (More number) name h = tt

-- behind the triples nothing is loaded
abbrev stored_from : List ℕ → List ℕ → List Statement → Script
stored_from base out triples = inverse_step base triples out (λ files. write (files_work files))

invert_names : (base document out : List ℕ) (file : File) (name : List ℕ) → MayLoad (invert_script base document out) file name → IfSome (graph_file document file) (λ named. name ≡ named)
unfolding base_step inverse_step
invert_names base document out file name h =
    show_names document file name
    (graph_may_load document (stored_from base out) file name
    (λ triples k. answer_may_load k.0 (λ files. write (files_work files)) file name ⊥ (λ files k. k) k.1.1)
    (base_may_load (is_base base) (graph_step document (stored_from base out)) file name h))

-- what is done behind the query, and behind the database
abbrev told_lines : Data → Asked → Script
told_lines D q = ask (lines_of D q) (λ text. write (text_work text))

abbrev asked : List ℕ → Data → Script
asked document D = query_step D.tables document (told_lines D)

-- behind the query nothing is loaded
query_may_load : (tables : List Table) (document : List ℕ) (next : Asked → Script) (file : File) (name : List ℕ) → ((q : Asked) → ¬ MayLoad (next q) file name) → MayLoad (query_step tables document next) file name →
    (file ≡ Query) × (name ≡ encode_utf8_all document)
unfolding query_step query_text_step
query_may_load tables document next file name none (inl h) = (sym h.0, sym h.1)
query_may_load tables document next file name none (inr h) =
    answer_may_load h.1.1.0 next file name ((file ≡ Query) × (name ≡ encode_utf8_all document)) (λ q k. absurd (none q k)) h.1.1.1.1

asked_may_load : (document : List ℕ) (D : Data) (file : File) (name : List ℕ) → MayLoad (asked document D) file name → (file ≡ Query) × (name ≡ encode_utf8_all document)
asked_may_load document D file name h = query_may_load D.tables document (told_lines D) file name (λ q k. k.1.1) h

-- the query is loaded behind the tables
tables_behind : (folder : List ℕ) (mode : NullMode) (before : ℕ) (tables : List Table) (next : List (List Row) → Script) (name : List ℕ) → MayLoad (tables_step folder mode before tables next) Query name →
    (rows : List (List Row)) × MayLoad (next rows) Query name
unfolding tables_step rows_step
tables_behind folder mode before [] next name h = ([], h)
tables_behind folder mode before (table ∷ tables) next name (inl h) = absurd (no_table (before + 1) h.0)
  where
    no_table : (number : ℕ) → TableFile number ≡ Query → ⊥
    no_table number e = absurd cc
tables_behind folder mode before (table ∷ tables) next name (inr h) =
    answer_may_load h.1.1.0 (λ rows. tables_step folder mode (before + 1) tables (λ others. next (rows ∷ others))) Query name ((rows : List (List Row)) × MayLoad (next rows) Query name)
    (λ rows k. let found = tables_behind folder mode (before + 1) tables (λ others. next (rows ∷ others)) name k in (rows ∷ found.0, found.1)) h.1.1.1.1

folder_behind : (folder : List ℕ) (mode : NullMode) (next : LoadedFolder → Script) (name : List ℕ) → MayLoad (folder_step folder mode next) Query name → (loaded : LoadedFolder) × MayLoad (next loaded) Query name
unfolding folder_step schema_step
folder_behind folder mode next name (inl h) = absurd (no_schema h.0)
  where
    no_schema : Schema ≡ Query → ⊥
    no_schema e = absurd cc
folder_behind folder mode next name (inr h) =
    let loaded : List Table → List (List Row) → LoadedFolder = λ tables rows. record { schema = h.0; database = record { tables = tables; rows = rows } } in
    answer_may_load h.1.1.0 (λ tables. tables_step folder mode 0 tables (λ rows. next (loaded tables rows))) Query name ((loaded : LoadedFolder) × MayLoad (next loaded) Query name)
    (λ tables k. let found = tables_behind folder mode 0 tables (λ rows. next (loaded tables rows)) name k in (loaded tables found.0, found.1)) h.1.1.1.1

rows_names : (folder document : List ℕ) (nulls : NullMode) (file : File) (name : List ℕ) → MayLoad (rows_script folder document nulls) file name → IfSome (rows_file folder document file) (λ named. name ≡ named)
unfolding database_step
rows_names folder document nulls Schema name h = schema_may_load folder nulls (λ loaded. asked document loaded.database) name (λ loaded k. no_query (asked_may_load document loaded.database Schema name k).0) h
  where
    no_query : Schema ≡ Query → ⊥
    no_query e = absurd cc
rows_names folder document nulls (TableFile number) name h = tt
rows_names folder document nulls Query name h = let found = folder_behind folder nulls (λ loaded. asked document loaded.database) name h in (asked_may_load document found.0.database Query name found.1).1
rows_names folder document nulls Graph name h = tt
rows_names folder document nulls Pattern name h = tt
rows_names folder document nulls (More number) name h = tt

-- the schema and the query are loaded by these names, and what is loaded behind them
question_may_load : (base folder document : List ℕ) (next : List ℕ → List Table → Asked → Script) (file : File) (name : List ℕ) (P : Type 0) → ((tables : List Table) (q : Asked) → MayLoad (next base tables q) file name → P)
    → ((file ≡ Schema) × (name ≡ schema_file folder) → P) → ((file ≡ Query) × (name ≡ encode_utf8_all document) → P) → MayLoad (question_script base folder document next) file name → P
unfolding base_step declared_step schema_step query_step query_text_step
question_may_load base folder document next file name P further at_schema at_query h =
    by_load (base_may_load (is_base base) (declared_step folder (λ tables. query_step tables document (λ q. next base tables q))) file name h)
  where
    by_query : (tables : List Table) → MayLoad (query_step tables document (λ q. next base tables q)) file name → P
    by_query tables (inl k) = at_query (sym k.0, sym k.1)
    by_query tables (inr k) = answer_may_load k.1.1.0 (λ q. next base tables q) file name P (λ q l. further tables q l) k.1.1.1.1

    by_load : MayLoad (declared_step folder (λ tables. query_step tables document (λ q. next base tables q))) file name → P
    by_load (inl k) = at_schema (sym k.0, sym k.1)
    by_load (inr k) = answer_may_load k.1.1.0 (λ tables. query_step tables document (λ q. next base tables q)) file name P by_query k.1.1.1.1

schema_named : (folder document : List ℕ) (file : File) (name : List ℕ) → (file ≡ Schema) × (name ≡ schema_file folder) → IfSome (rows_file folder document file) (λ named. name ≡ named)
schema_named folder document Schema name h = h.1
schema_named folder document (TableFile number) name h = tt
schema_named folder document Query name h = absurd (no_query h.0)
  where
    no_query : Query ≡ Schema → ⊥
    no_query e = absurd cc
schema_named folder document Graph name h = tt
schema_named folder document Pattern name h = tt
schema_named folder document (More number) name h = tt

query_named : (folder document : List ℕ) (file : File) (name : List ℕ) → (file ≡ Query) × (name ≡ encode_utf8_all document) → IfSome (rows_file folder document file) (λ named. name ≡ named)
query_named folder document Schema name h = absurd (no_schema h.0)
  where
    no_schema : Schema ≡ Query → ⊥
    no_schema e = absurd cc
query_named folder document (TableFile number) name h = tt
query_named folder document Query name h = h.1
query_named folder document Graph name h = tt
query_named folder document Pattern name h = tt
query_named folder document (More number) name h = tt

-- neither the schema's file nor the query's is the graph's
not_graph : (folder source document : List ℕ) (file : File) (name : List ℕ) → ¬ (file ≡ Graph) → IfSome (rows_file folder document file) (λ named. name ≡ named) → IfSome (ask_file folder source document file) (λ named. name ≡ named)
not_graph folder source document Schema name other h = h
not_graph folder source document (TableFile number) name other h = tt
not_graph folder source document Query name other h = h
not_graph folder source document Graph name other h = absurd (other refl)
not_graph folder source document Pattern name other h = tt
not_graph folder source document (More number) name other h = tt

graph_named : (folder source document : List ℕ) (file : File) (name : List ℕ) → (file ≡ Graph) × (name ≡ encode_utf8_all source) → IfSome (ask_file folder source document file) (λ named. name ≡ named)
graph_named folder source document file name h = subst (λ (f : File). IfSome (ask_file folder source document f) (λ named. name ≡ named)) (sym h.0) h.1

translate_names : (mode : Mode) (base folder document : List ℕ) (file : File) (name : List ℕ) → MayLoad (translate_script mode base folder document) file name → IfSome (rows_file folder document file) (λ named. name ≡ named)
translate_names mode base folder document file name h =
    question_may_load base folder document (pattern_script mode) file name (IfSome (rows_file folder document file) (λ named. name ≡ named))
    (λ tables q k. absurd k.1.1) (schema_named folder document file name) (query_named folder document file name) h

ask_names : (mode : Mode) (base folder source document : List ℕ) (file : File) (name : List ℕ) → MayLoad (ask_script mode base folder source document) file name
    → IfSome (ask_file folder source document file) (λ named. name ≡ named)
ask_names mode base folder source document file name h =
    question_may_load base folder document (answers_script mode source) file name (IfSome (ask_file folder source document file) (λ named. name ≡ named))
    (λ tables q k. graph_named folder source document file name
    (graph_may_load source (λ triples. ask (answers_of mode base tables q triples) (λ text. write (text_work text))) file name (λ triples l. l.1.1) k))
    (λ k. not_graph folder source document file name (λ e. schema_no_graph (sym k.0 ∙ e)) (schema_named folder document file name k))
    (λ k. not_graph folder source document file name (λ e. query_no_graph (sym k.0 ∙ e)) (query_named folder document file name k)) h
  where
    schema_no_graph : Schema ≡ Graph → ⊥
    schema_no_graph e = absurd cc

    query_no_graph : Query ≡ Graph → ⊥
    query_no_graph e = absurd cc

sparql_named : (document name : List ℕ) (file : File) (by : List ℕ) → (file ≡ Pattern) × (by ≡ encode_utf8_all name) → IfSome (sparql_file document name file) (λ named. by ≡ named)
sparql_named document name file by h = subst (λ (f : File). IfSome (sparql_file document name f) (λ named. by ≡ named)) (sym h.0) h.1

source_named : (document name : List ℕ) (file : File) (by : List ℕ) → (file ≡ Graph) × (by ≡ encode_utf8_all document) → IfSome (sparql_file document name file) (λ named. by ≡ named)
source_named document name file by h = subst (λ (f : File). IfSome (sparql_file document name f) (λ named. by ≡ named)) (sym h.0) h.1

sparql_names : (document name : List ℕ) (file : File) (by : List ℕ) → MayLoad (sparql_script document name) file by → IfSome (sparql_file document name file) (λ named. by ≡ named)
unfolding parsed_step parsed_text_step
sparql_names document name file by (inl h) = sparql_named document name file by (sym h.0, sym h.1)
sparql_names document name file by (inr h) =
    answer_may_load h.1.1.0 (solutions_script document) file by (IfSome (sparql_file document name file) (λ named. by ≡ named))
    (λ parsed k. source_named document name file by
    (graph_may_load document (λ triples. ask (solutions_of parsed triples) (λ text. write (text_work text))) file by (λ triples l. l.1.1) k)) h.1.1.1.1

-- behind the number of rows what is next alone is loaded
few_may_load : (number count : ℕ) (next : Unit {0} → Script) (file : File) (name : List ℕ) → MayLoad (few_step number count next) file name → MayLoad (next tt) file name
unfolding few_step
few_may_load number count next file name h = by_test (nat_lt 4194304 count) h
  where
    by_test : (over : Bool) → MayLoad (cond over (refuse (reason 25 number 0 0)) (next tt)) file name → MayLoad (next tt) file name
    by_test true h = absurd h
    by_test false h = h

-- the files of further rows alone are loaded
further_may_load : (folder : List ℕ) (mode : NullMode) (many : ℕ) (held : List (List Row)) (before : ℕ) (tables : List Table) (next : List (List Row) → Script) (file : File) (name : List ℕ) →
    ((rows : List (List Row)) → ¬ MayLoad (next rows) file name) → MayLoad (further_tables_step folder mode many held before tables next) file name → (number : ℕ) × (More number ≡ file)
unfolding further_tables_step further_rows_step rows_step
further_may_load folder mode many held before [] next file name none h = absurd (none [] h)
further_may_load folder mode many held before (table ∷ tables) next file name none (inl h) = (before + 1, h.0)
further_may_load folder mode many held before (table ∷ tables) next file name none (inr h) =
    let step : List Row → Script = λ rows. further_tables_step folder mode many held (before + 1) tables (λ others. next (rows ∷ others)) in
    let count : List Row → ℕ = λ rows. length (rows_at held before) + length rows in
    answer_may_load h.1.1.0 (λ rows. few_step (before + 1 + many) (count rows) (λ _. step rows)) file name ((number : ℕ) × (More number ≡ file))
    (λ rows k. further_may_load folder mode many held (before + 1) tables (λ others. next (rows ∷ others)) file name (λ others. none (rows ∷ others))
    (few_may_load (before + 1 + many) (count rows) (λ _. step rows) file name k)) h.1.1.1.1

batch_keys_load_nothing : (whole : Data) (next : Unit {0} → Script) (file : File) (name : List ℕ) → ¬ MayLoad (next tt) file name → ¬ MayLoad (batch_keys_step whole next) file name
unfolding batch_keys_step
batch_keys_load_nothing whole next file name none h = by_found h.0 h.1.1
  where
    by_found : (found : List Violation) → ¬ MayLoad (on_batch_violations found next) file name
    by_found [] h = none h
    by_found (violation ∷ others) h = h

-- what is done behind the keys
abbrev put_batch : List ℕ → Data → Data → Script
put_batch base D batch = ask (batch_of base D batch) (λ text. write (text_work text))

-- what is done behind the database
abbrev enlarged : List ℕ → List ℕ → NullMode → Data → Script
enlarged base more nulls D = more_step more nulls D (λ batch. batch_script base D batch)

enlarged_may_load : (base more : List ℕ) (nulls : NullMode) (D : Data) (file : File) (name : List ℕ) → MayLoad (enlarged base more nulls D) file name → (number : ℕ) × (More number ≡ file)
unfolding more_step
enlarged_may_load base more nulls D file name h =
    let batch : List (List Row) → Data = λ rows. record { tables = D.tables; rows = rows } in
    further_may_load more nulls (length D.tables) D.rows 0 D.tables (λ rows. batch_script base D (batch rows)) file name (λ rows.
    keys_load_nothing D (λ _. batch_keys_step (appended D (batch rows)) (λ _. put_batch base D (batch rows))) file name
    (batch_keys_load_nothing (appended D (batch rows)) (λ _. put_batch base D (batch rows)) file name (λ k. k.1.1))) h

append_names : (base folder more : List ℕ) (nulls : NullMode) (file : File) (name : List ℕ) → MayLoad (append_script base folder more nulls) file name → IfSome (folder_file folder file) (λ named. name ≡ named)
unfolding base_step database_step
append_names base folder more nulls Schema name h =
    schema_may_load folder nulls (λ loaded. enlarged base more nulls loaded.database) name
    (λ loaded k. let found = enlarged_may_load base more nulls loaded.database Schema name k in no_more found.0 found.1)
    (base_may_load (is_base base) (database_step folder nulls (enlarged base more nulls)) Schema name h)
  where
    no_more : (number : ℕ) → More number ≡ Schema → ⊥
    no_more number e = absurd cc
append_names base folder more nulls (TableFile number) name h = tt
append_names base folder more nulls Query name h = tt
append_names base folder more nulls Graph name h = tt
append_names base folder more nulls Pattern name h = tt
append_names base folder more nulls (More number) name h = tt

command_names : (command : Command) (file : File) (name : List ℕ) → MayLoad (plan_of command).script file name → NamesFile command file name
command_names (Direct base folder nulls) file name h = graph_names graph.Direct base folder nulls file name h
command_names (Map base folder nulls) file name h = graph_names graph.Map base folder nulls file name h
command_names (MapKeys base folder nulls) file name h = graph_names graph.MapKeys base folder nulls file name h
command_names (Rows folder document nulls) file name h = rows_names folder document nulls file name h
command_names (Translate mode base folder document) file name h = translate_names mode base folder document file name h
command_names (Ask mode base folder source document) file name h = ask_names mode base folder source document file name h
command_names (Show document) file name h =
    show_names document file name (graph_may_load document (λ triples. write (text_work (flat_map triple_text triples))) file name (λ triples k. k) h)
command_names (Sparql document pattern) file name h = sparql_names document pattern file name h
command_names (Consistent document) file name h = show_names document file name (graph_may_load document judged file name (λ triples k. k.1.1) h)
command_names (Append base folder more nulls) file name h = append_names base folder more nulls file name h
command_names (Invert base document out) file name h = invert_names base document out file name h
command_names (Clean folder out nulls) file name h = folder_names folder nulls (cleaned out) file name (λ loaded file h. h.1.1.1.1.1.1) h
command_names (Check folder nulls) file name h = database_names folder nulls checked file name (λ D file h. h.1.1) h
command_names (Bench n) file name h = absurd h.1.1

-- the file at which the shelf failed is the one that was told
pub names_failed : (command : Command) (file : File) {s t : ShelfState} {o p : SinkState} (status : Status) →
    Ends (plan_of command).target (plan_of command).script s t o p status → status ≡ ReadFault file → NamesFile command file t.failed
names_failed command file {s = s} {t = t} {o = o} {p = p} status ends is =
    let at = subst (λ (x : Status). Ends (plan_of command).target (plan_of command).script s t o p x) is ends in
    command_names command file t.failed at.means.2

-- ---- well-formed files

after_load : (file : File) (content : Option (List ℕ)) (bytes : List ℕ) (rest : List ℕ → Type 0) (outcome : Outcome) →
    content ≡ Some bytes → length bytes ≤ longest → AfterLoad file content rest outcome → rest bytes
after_load file content bytes rest outcome held short h =
    let there : AfterLoad file (Some bytes) rest outcome = subst (λ (c : Option (List ℕ)). AfterLoad file c rest outcome) held h in
    subst (λ (b : Bool). MatchBool b (outcome ≡ too_long file) (rest bytes)) (le-ltb longest (length bytes) short) there

-- an answer that is known is the one that was given
on_known : {A : Type 0} (files : Files) (answer : Result A Reason) (value : A) (next : A → Script) (outcome : Outcome) →
    answer ≡ Ok value → Comes files (on_answer answer next) outcome → Comes files (next value) outcome
on_known files answer value next outcome is h = subst (λ (a : Result _ Reason). Comes files (on_answer a next) outcome) is h

tables_come : (files : Files) (folder : List ℕ) (mode : NullMode) (before : ℕ) (tables : List Table) (rows : List (List Row)) (next : List (List Row) → Script) (outcome : Outcome) →
    HoldsTables files folder mode tables rows → Comes files (tables_step folder mode before tables next) outcome → Comes files (next rows) outcome
unfolding tables_step rows_step
tables_come files folder mode before [] [] next outcome held h = h
tables_come files folder mode before [] (r ∷ rows) next outcome held h = absurd held
tables_come files folder mode before (table ∷ tables) [] next outcome held h = absurd held
tables_come files folder mode before (table ∷ tables) (r ∷ rows) next outcome held h =
    let step : List Row → Script = λ found. tables_step folder mode (before + 1) tables (λ others. next (found ∷ others)) in
    let asked = after_load (TableFile (before + 1)) (get files (table_file folder table.name)) held.0.bytes (λ bytes. Comes files (rows_step table.columns mode (before + 1) bytes step) outcome) outcome
    held.0.holds.held held.0.holds.short h in
    let right = rows_answer_unique table.columns mode (before + 1) held.0.bytes asked.0 (Ok r) asked.1.0.0 asked.1.0.1 held.0.reads in
    tables_come files folder mode (before + 1) tables rows (λ others. next (r ∷ others)) outcome held.1 (on_known files asked.0 r step outcome right asked.1.1)

-- the folder is the one that its files are
folder_comes : (files : Files) (folder : List ℕ) (mode : NullMode) (D : Data) (next : LoadedFolder → Script) (outcome : Outcome) (held : HoldsDatabase files folder mode D) →
    Comes files (folder_step folder mode next) outcome → Comes files (next (record { schema = held.bytes; database = D })) outcome
unfolding folder_step schema_step
folder_comes files folder mode D next outcome held h =
    let step : List ℕ → List Table → Script = λ bytes tables. tables_step folder mode 0 tables (λ rows. next (record { schema = bytes; database = record { tables = tables; rows = rows } })) in
    let asked = after_load Schema (get files (schema_file folder)) held.bytes (λ bytes. Comes files (schema_step bytes (step bytes)) outcome) outcome held.holds.held held.holds.short h in
    let right = schema_answer_unique held.bytes asked.0 (Ok D.tables) asked.1.0 held.reads in
    tables_come files folder mode 0 D.tables D.rows (λ rows. next (record { schema = held.bytes; database = record { tables = D.tables; rows = rows } })) outcome held.tables
    (on_known files asked.0 D.tables (step held.bytes) outcome right asked.1.1)

-- the folder's database is the one that its files are
database_comes : (files : Files) (folder : List ℕ) (mode : NullMode) (D : Data) (next : Data → Script) (outcome : Outcome) →
    HoldsDatabase files folder mode D → Comes files (database_step folder mode next) outcome → Comes files (next D) outcome
unfolding database_step
database_comes files folder mode D next outcome held h = folder_comes files folder mode D (λ loaded. next loaded.database) outcome held h

-- ---- what is written

ends_so : {target : Target} {script : Script} {s t : ShelfState} {o p : SinkState} {status : Status} (files : Files) (outcome : Outcome) → Ends target script s t o p status → s.files ≡ Some files →
    ((other : Outcome) → Comes files script other → other ≡ outcome) → EndsSo (status_of outcome) s t o p status
ends_so files outcome ends told comes = λ calm. elim (status_comes _ _ _ _ _ _ _ ends files told calm) [
  | inl h ↦ inl (h.1.1 ∙ ap status_of (comes h.0 h.1.0))
  | inr memory ↦ inr memory
]

-- a run writes such a text whose script comes to one
writes_text : (IsText : List ℕ → Type 0) (script : Script) {s t : ShelfState} {o p : SinkState} (status : Status) (files : Files) → Ends to_output script s t o p status → s.files ≡ Some files →
    ((outcome : Outcome) → Comes files script outcome → (text : List ℕ) × (IsText text × (outcome ≡ done (text_work text)))) → WritesText IsText s t o p status
writes_text IsText script {s = s} {t = t} {o = o} {p = p} status files ends told comes = record {
  no_fault = λ calm. elim (status_comes _ _ _ _ _ _ _ ends files told calm) [
    | inl h ↦ inl (h.1.1 ∙ ap status_of (comes h.0 h.1.0).1.1)
    | inr memory ↦ inr memory
  ];
  written = λ well.
      let at = subst (λ (x : Status). Ends to_output script s t o p x) well ends in
      let work = at.means files told in
      let found = comes (done work.0) work.1.0 in
      let same : work.0.text ≡ found.0 = ap (λ (w : Work). w.text) (done_one work.0 (text_work found.0) found.1.1) in
      (found.0, (found.1.0, subst (λ (text : List ℕ). Appends o.held p.held text) same work.1.1.text));
}
  where
    done_one : (v w : Work) → ◌≡◌ {A = Outcome} (done v) (done w) → v ≡ w
    done_one v w e = cc

-- well-formed files are a database
held_rows : (files : Files) (folder : List ℕ) (mode : NullMode) (tables : List Table) (rows : List (List Row)) → ((t : Table) → IsIn t tables → NoRepeats (column_names t.columns)) → HoldsTables files folder mode tables rows
    → AllZip (λ table rows. AreRowsOf table.columns rows) tables rows
held_rows files folder mode [] [] distinct held = tt
held_rows files folder mode [] (r ∷ rows) distinct held = absurd held
held_rows files folder mode (t ∷ tables) [] distinct held = absurd held
held_rows files folder mode (t ∷ tables) (r ∷ rows) distinct held =
    (read_rows_fit t.columns mode (records_of held.0.bytes) r (fields_differ t.columns (distinct t (inl refl))) held.0.reads, held_rows files folder mode tables rows (λ u m. distinct u (inr m)) held.1)

held_database : (files : Files) (folder : List ℕ) (mode : NullMode) (D : Data) → HoldsDatabase files folder mode D → IsDatabase D
held_database files folder mode D held =
    let schema = declared_schema held.bytes D.tables held.reads in
    record { schema = schema; rows = held_rows files folder mode D.tables D.rows (λ t m. (schema.each t m).distinct) held.tables }

-- from well-formed files a command comes to what it does behind the database
behind_database : (name : GraphName) (base folder : List ℕ) (nulls : NullMode) (files : Files) (D : Data) → IsTrue (is_base base) → HoldsDatabase files folder nulls D → (outcome : Outcome) →
    Comes files (graph_script name base folder nulls) outcome → Comes files (mapped name base D) outcome
unfolding base_step
behind_database name base folder nulls files D good held outcome h =
    let loads : Comes files (database_step folder nulls (mapped name base)) outcome =
    subst (λ (b : Bool). Comes files (cond b (database_step folder nulls (mapped name base)) (refuse bad_base)) outcome) good h in
    database_comes files folder nulls D (mapped name base) outcome held loads

module _ (name : GraphName) (base folder : List ℕ) (nulls : NullMode) (files : Files) (D : Data)
    (behind_keys : (outcome : Outcome) → Comes files (graph_script name base folder nulls) outcome → Comes files (keys_step D (λ _. put_script name base D)) outcome) where
  -- where the keys are looked at, a command comes to what it does behind the list of violations
  behind_found : (found : List Violation) → ((asked : List Violation) → IsListing (ViolatesAt D) asked → asked ≡ found) → (outcome : Outcome) → Comes files (graph_script name base folder nulls) outcome →
      Comes files (on_violations found (λ _. put_script name base D)) outcome
  unfolding keys_step
  behind_found found one outcome h =
      let asked : (v : List Violation) × (IsListing (ViolatesAt D) v × Comes files (on_violations v (λ _. put_script name base D)) outcome) = behind_keys outcome h in
      subst (λ (v : List Violation). Comes files (on_violations v (λ _. put_script name base D)) outcome) (one asked.0 asked.1.0) asked.1.1

  writes_kept : {s t : ShelfState} {o p : SinkState} (status : Status) → Ends to_output (graph_script name base folder nulls) s t o p status → s.files ≡ Some files → WritesKept name base D s t o p status
  writes_kept status ends told = record {
    kept = λ kept. writes_text (IsGraphText name base D) (graph_script name base folder nulls) status files ends told (behind_found [] (λ asked listed. (none_listed D asked listed).1 kept));
    violated = λ first others listed. ends_so files (refused (key_reason first)) ends told
        (behind_found (first ∷ others) (λ asked also. listing_unique (ViolatesAt D) asked (first ∷ others) also listed));
  }

writes_graph : (name : GraphName) (base folder : List ℕ) (nulls : NullMode) {s t : ShelfState} {o p : SinkState} (status : Status) → Ends to_output (graph_script name base folder nulls) s t o p status →
    WritesFolder name base folder nulls s t o p status
unfolding kept_step
writes_graph graph.Direct base folder nulls status ends = λ files D told good held.
    writes_kept graph.Direct base folder nulls files D (behind_database graph.Direct base folder nulls files D good held) status ends told
writes_graph graph.Map base folder nulls status ends = λ files D told good held.
    writes_kept graph.Map base folder nulls files D (behind_database graph.Map base folder nulls files D good held) status ends told
writes_graph graph.MapKeys base folder nulls status ends = λ files D told good held.
    record {
      writes = writes_text (IsGraphText graph.MapKeys base D) (graph_script graph.MapKeys base folder nulls) status files ends told (behind_database graph.MapKeys base folder nulls files D good held);
      contradicts = interpreted_below base good D (held_database files folder nulls D held);
    }

checks : (folder : List ℕ) (nulls : NullMode) (files : Files) (D : Data) {s t : ShelfState} {o p : SinkState} (status : Status) →
    Ends to_output (check_script folder nulls) s t o p status → s.files ≡ Some files → HoldsDatabase files folder nulls D → Checks D s t o p status
checks folder nulls files D status ends told held =
    writes_text (λ text. (found : List Violation) × IsListing (ViolatesAt D) found × (text ≡ check_text D.tables found)) (check_script folder nulls) status files ends told (λ outcome h.
    let asked = database_comes files folder nulls D checked outcome held h in
    (check_text D.tables asked.0, ((asked.0, asked.1.0, refl), asked.1.1)))

-- files of tables are rows for no more tables than there are
held_within : (files : Files) (folder : List ℕ) (mode : NullMode) (tables : List Table) (rows : List (List Row)) → HoldsTables files folder mode tables rows → (t i : ℕ) → i < length (rows_at rows t) → t < length tables
held_within files folder mode [] [] held t i below = absurd (omega arith)
held_within files folder mode [] (r ∷ rows) held t i below = absurd held
held_within files folder mode (table ∷ tables) [] held t i below = absurd held
held_within files folder mode (table ∷ tables) (r ∷ rows) held zero i below = omega arith
held_within files folder mode (table ∷ tables) (r ∷ rows) held (suc t) i below = (let less = held_within files folder mode tables rows held.1 t i below in omega arith)

cleans : (folder out : List ℕ) (nulls : NullMode) (files : Files) (D : Data) {s t : ShelfState} {o p : SinkState} (status : Status) →
    Ends to_both (clean_script folder out nulls) s t o p status → s.files ≡ Some files → (held : HoldsDatabase files folder nulls D) → Cleans out held.bytes D s t o p status
cleans folder out nulls files D {s = s} {t = t} {o = o} {p = p} status ends told held = record {
  no_fault = λ calm. elim (status_comes _ _ _ _ _ _ _ ends files told calm) [
    | inl h ↦ inl (h.1.1 ∙ ap status_of (comes h.0 h.1.0).1.1)
    | inr memory ↦ inr memory
  ];
  written = λ well.
      let at = subst (λ (x : Status). Ends to_both (clean_script folder out nulls) s t o p x) well ends in
      let work = at.means files told in
      let found = comes (done work.0) work.1.0 in
      (work.0, (subst (λ (w : Work). IsCleanWork out held.bytes D w) (sym (done_one work.0 found.0 found.1.1)) found.1.0, work.1.1));
}
  where
    comes : (outcome : Outcome) → Comes files (clean_script folder out nulls) outcome → (work : Work) × (IsCleanWork out held.bytes D work × (outcome ≡ done work))
    comes outcome h =
        let asked = folder_comes files folder nulls D (cleaned out) outcome held h in
        let removals = asked.0 in
        let rows = asked.1.1.0 in
        let batch = asked.1.1.1.1.0 in
        let largest = cleaning_is_largest D removals asked.1.0 in (
          clean_work out (record { schema = held.bytes; database = D }) removals batch,
          (
            record {
              removals = removals;
              rows = rows;
              files = batch;
              cleaning = asked.1.0;
              left = asked.1.1.1.0;
              largest = largest;
              kept = kept_keeps D (IsLeft removals) rows asked.1.1.1.0 largest.lawful (held_within files folder nulls D.tables D.rows held.tables);
              tables = asked.1.1.1.1.1.0;
              is = refl;
            },
            asked.1.1.1.1.1.1,
          ),
        )

    done_one : (v w : Work) → ◌≡◌ {A = Outcome} (done v) (done w) → v ≡ w
    done_one v w e = cc

shows : (document : List ℕ) (files : Files) (bytes : List ℕ) (triples : List Statement) {s t : ShelfState} {o p : SinkState} (status : Status) → Ends to_output (show_script document) s t o p status →
    s.files ≡ Some files → HoldsFile files (encode_utf8_all document) bytes → IsDocument bytes triples → length triples ≤ limit → Shows triples s t o p status
unfolding graph_step triples_step
shows document files bytes triples status ends told held is few =
    let next : List Statement → Script = λ triples. write (text_work (flat_map triple_text triples)) in
    writes_text (λ text. text ≡ flat_map triple_text triples) (show_script document) status files ends told (λ outcome h.
    let asked = after_load Graph (get files (encode_utf8_all document)) bytes (λ bytes. Comes files (triples_step bytes next) outcome) outcome held.held held.short h in
    let right = triples_answer_unique bytes asked.0 (Ok triples) asked.1.0 (is, few) in
    (flat_map triple_text triples, (refl, on_known files asked.0 triples next outcome right asked.1.1)))

judges : (document : List ℕ) (files : Files) (bytes : List ℕ) (triples : List Statement) {s t : ShelfState} {o p : SinkState} (status : Status) → Ends to_output (consistent_script document) s t o p status →
    s.files ≡ Some files → HoldsFile files (encode_utf8_all document) bytes → IsDocument bytes triples → length triples ≤ limit → Judges triples s t o p status
unfolding graph_step triples_step
judges document files bytes triples status ends told held is few =
    writes_text (λ text. (verdict : Verdict) × IsVerdict triples verdict × (text ≡ verdict_text verdict)) (consistent_script document) status files ends told (λ outcome h.
    let asked = after_load Graph (get files (encode_utf8_all document)) bytes (λ bytes. Comes files (triples_step bytes judged) outcome) outcome held.held held.short h in
    let right = triples_answer_unique bytes asked.0 (Ok triples) asked.1.0 (is, few) in
    let found = on_known files asked.0 triples judged outcome right asked.1.1 in
    (verdict_text found.0, ((found.0, found.1.0, refl), found.1.1)))

tells_keys : (bytes : List ℕ) (triples : List Statement) → IsDocument bytes triples → TellsKeys bytes triples
tells_keys bytes triples document = record {
  listed = told;
  written = λ base D verdict good text database written is.
      told base D verdict good database (exactly base (is_iri-base base good, text) D database graph.MapKeys bytes triples written document) is;
}
  where
    told : (base : List ℕ) (D : Data) (verdict : Verdict) → IsTrue (is_base base) → IsDatabase D → AreTriplesOf graph.MapKeys base D triples
        → IsVerdict triples verdict → (verdict ≡ Yes) ↔ KeepsKeys D
    told base D verdict good database are is =
        let interpreted = (interpreted_below base good D database).interpreted triples are in (
          (λ yes_is. interpreted.0 (subst (IsVerdict triples) yes_is is)),
          (λ kept. one_verdict triples verdict Yes is (interpreted.1 kept)),
        )

-- ---- queries

-- why a text is no query
query_refusal : (tables : List Table) (bytes : List ℕ) (error : QueryError) (P : Status → Type 0) → ¬ (error ≡ query.Memory) → IsAnswer tables bytes (Err error)
    → ((reason : Reason) → IsQueryAnswer tables bytes (Err reason) → P (Refused reason)) → P (query_status error)
query_refusal tables bytes (query.BadQuery place) P other h goes = goes _ (query.BadQuery place, h, refl)
query_refusal tables bytes (query.TooDeep place) P other h goes = goes _ (query.TooDeep place, h, refl)
query_refusal tables bytes query.NoSuchTable P other h goes = goes _ (query.NoSuchTable, h, refl)
query_refusal tables bytes query.NoSuchColumn P other h goes = goes _ (query.NoSuchColumn, h, refl)
query_refusal tables bytes query.NameTaken P other h goes = goes _ (query.NameTaken, h, refl)
query_refusal tables bytes query.NotSameColumns P other h goes = goes _ (query.NotSameColumns, h, refl)
query_refusal tables bytes query.EmptyProject P other h goes = goes _ (query.EmptyProject, h, refl)
query_refusal tables bytes query.TooWide P other h goes = goes _ (query.TooWide, h, refl)
query_refusal tables bytes query.Memory P other h goes = absurd (other refl)

module _ (folder document : List ℕ) (nulls : NullMode) (files : Files) (D : Data) (bytes : List ℕ) (held : HoldsDatabase files folder nulls D) (there : HoldsFile files (encode_utf8_all document) bytes) where
  -- a run comes to what the answer leads to
  rows_come : (outcome : Outcome) → Comes files (rows_script folder document nulls) outcome → (answer : Result Asked Reason) × (IsQueryAnswer D.tables bytes answer × Comes files (on_answer answer (told_lines D)) outcome)
  unfolding query_step query_text_step
  rows_come outcome h =
      let behind = database_comes files folder nulls D (asked document) outcome held h in
      after_load Query (get files (encode_utf8_all document)) bytes (λ bytes. Comes files (query_text_step D.tables bytes (told_lines D)) outcome) outcome there.held there.short behind

  module _ {s t : ShelfState} {o p : SinkState} (status : Status) (ends : Ends to_output (rows_script folder document nulls) s t o p status) (told : s.files ≡ Some files) where
    writes_lines : (q : Asked) → IsAnswer D.tables bytes (Ok q) → WritesText (AreQueryLines D q) s t o p status
    writes_lines q is = writes_text (AreQueryLines D q) (rows_script folder document nulls) status files ends told (λ outcome h.
        let found = rows_come outcome h in
        let right = query_answer_unique D.tables bytes found.0 (Ok q) found.1.0 is in
        let known = on_known files found.0 q (told_lines D) outcome right found.1.1 in
        (known.0, (known.1.0, known.1.1)))

    refuses_query : (reason : Reason) → IsQueryAnswer D.tables bytes (Err reason) → EndsSo (Refused reason) s t o p status
    refuses_query reason right = ends_so files (refused reason) ends told (λ outcome h.
        let found = rows_come outcome h in
        let same = query_answer_unique D.tables bytes found.0 (Err reason) found.1.0 right in
        subst (λ (answer : Result Asked Reason). Comes files (on_answer answer (told_lines D)) outcome) same found.1.1)

    answers_query : AnswersQuery (AreQueryLines D) D.tables bytes s t o p status
    answers_query = record {
      answered = λ q text faultless. writes_lines q (text, faultless);
      refused = λ error other h. query_refusal D.tables bytes error (λ status'. EndsSo status' s t o p status) other h refuses_query;
    }

-- ---- questions

module _ (base folder document : List ℕ) (next : List ℕ → List Table → Asked → Script) (files : Files) (tables : List Table) (bytes : List ℕ) (good : IsTrue (is_base base))
    (held : HoldsQuestion files folder document tables bytes) where
  -- a run comes to what the answer leads to
  question_comes : (outcome : Outcome) → Comes files (question_script base folder document next) outcome → (answer : Result Asked Reason) × (IsQueryAnswer tables bytes answer × Comes files (on_answer answer (next base tables)) outcome)
  unfolding base_step declared_step schema_step query_step query_text_step
  question_comes outcome h =
      let step : List Table → Script = λ tables. query_step tables document (λ q. next base tables q) in
      let loads : Comes files (declared_step folder step) outcome = subst (λ (b : Bool). Comes files (cond b (declared_step folder step) (refuse bad_base)) outcome) good h in
      let asked = after_load Schema (get files (schema_file folder)) held.schema (λ bytes. Comes files (schema_step bytes step) outcome) outcome held.holds.held held.holds.short loads in
      let right = schema_answer_unique held.schema asked.0 (Ok tables) asked.1.0 held.reads in
      let behind = on_known files asked.0 tables step outcome right asked.1.1 in
      after_load Query (get files (encode_utf8_all document)) bytes (λ bytes. Comes files (query_text_step tables bytes (next base tables)) outcome) outcome held.asks.held held.asks.short behind

  module _ {s t : ShelfState} {o p : SinkState} (status : Status) (ends : Ends to_output (question_script base folder document next) s t o p status) (told : s.files ≡ Some files) where
    writes_answer : (IsText : List ℕ → Type 0) (q : Asked) → IsAnswer tables bytes (Ok q)
        → ((outcome : Outcome) → Comes files (next base tables q) outcome → (text : List ℕ) × (IsText text × (outcome ≡ done (text_work text)))) → WritesText IsText s t o p status
    writes_answer IsText q is writes = writes_text IsText (question_script base folder document next) status files ends told (λ outcome h.
        let found = question_comes outcome h in
        let right = query_answer_unique tables bytes found.0 (Ok q) found.1.0 is in
        writes outcome (on_known files found.0 q (next base tables) outcome right found.1.1))

    refuses_question : (reason : Reason) → IsQueryAnswer tables bytes (Err reason) → EndsSo (Refused reason) s t o p status
    refuses_question reason right = ends_so files (refused reason) ends told (λ outcome h.
        let found = question_comes outcome h in
        let same = query_answer_unique tables bytes found.0 (Err reason) found.1.0 right in
        subst (λ (answer : Result Asked Reason). Comes files (on_answer answer (next base tables)) outcome) same found.1.1)

    refuses_fault : RefusesFault tables bytes s t o p status
    refuses_fault error other h = query_refusal tables bytes error (λ status'. EndsSo status' s t o p status) other h refuses_question

module _ (mode : Mode) (base folder document : List ℕ) (files : Files) (tables : List Table) (bytes : List ℕ) (good : IsTrue (is_base base)) (held : HoldsQuestion files folder document tables bytes) where
  translates : {s t : ShelfState} {o p : SinkState} (status : Status) → Ends to_output (translate_script mode base folder document) s t o p status → s.files ≡ Some files
      → AnswersQuery (IsPatternText mode base tables) tables bytes s t o p status
  translates status ends told = record {
    answered = λ q text faultless. writes_answer base folder document (pattern_script mode) files tables bytes good held status ends told (IsPatternText mode base tables q) q (text, faultless)
        (λ outcome h. (h.0, (h.1.0.1, h.1.1)));
    refused = refuses_fault base folder document (pattern_script mode) files tables bytes good held status ends told;
  }

module _ (mode : Mode) (base folder source document : List ℕ) (files : Files) (tables : List Table) (bytes text : List ℕ) (triples : List Statement) (good : IsTrue (is_base base))
    (held : HoldsQuestion files folder document tables bytes) (there : HoldsFile files (encode_utf8_all source) text) (is : IsDocument text triples) (few : length triples ≤ limit) where
  -- behind the query a run comes to the lines of the solutions
  answer_comes : (q : Asked) (outcome : Outcome) → Comes files (answers_script mode source base tables q) outcome → (lines : List ℕ) × (AreAnswersIn mode base tables q triples lines × (outcome ≡ done (text_work lines)))
  unfolding graph_step triples_step
  answer_comes q outcome h =
      let put : List Statement → Script = λ triples. ask (answers_of mode base tables q triples) (λ text. write (text_work text)) in
      let asked = after_load Graph (get files (encode_utf8_all source)) text (λ bytes. Comes files (triples_step bytes put) outcome) outcome there.held there.short h in
      let right = triples_answer_unique text asked.0 (Ok triples) asked.1.0 (is, few) in
      let found = on_known files asked.0 triples put outcome right asked.1.1 in
      (found.0, (found.1.0.1, found.1.1))

  module _ {s t : ShelfState} {o p : SinkState} (status : Status) (ends : Ends to_output (ask_script mode base folder source document) s t o p status) (told : s.files ≡ Some files) where
    writes_solutions : WritesAnswer (λ q lines. AreAnswersIn mode base tables q triples lines) tables bytes s t o p status
    writes_solutions q query_is faultless =
        writes_answer base folder document (answers_script mode source) files tables bytes good held status ends told (AreAnswersIn mode base tables q triples) q (query_is, faultless) (answer_comes q)

    writes_as_rows : (D : Data) → IsText base → IsDatabase D → D.tables ≡ tables → KeepsKeysOf mode D → IsGraphText (mode_graph mode) base D text → WritesAnswer (AreQueryLines D) tables bytes s t o p status
    writes_as_rows D is_text database same keys written q query_is faultless =
        writes_answer base folder document (answers_script mode source) files tables bytes good held status ends told (AreQueryLines D q) q (query_is, faultless) (λ outcome h.
        let found = answer_comes q outcome h in
        let formed = subst (λ (ts : List Table). IsWellFormed ts q) (sym same) (read_formed tables bytes q (query_is, faultless)) in
        let here : AreAnswersIn mode base D.tables q triples found.0 = subst (λ (ts : List Table). AreAnswersIn mode base ts q triples found.0) (sym same) found.1.0 in
        let are = exactly base (is_iri-base base good, is_text) D database (mode_graph mode) text triples written is in
        (found.0, (as_rows mode base (naming_laws base good) D database keys q formed (read_lawful bytes q query_is) triples found.0 are here, found.1.1)))

    answers_over : AnswersOver mode base tables bytes text triples s t o p status
    answers_over = record { solutions = writes_solutions; rows = writes_as_rows }

-- ---- patterns

-- why a text is no pattern with a header
pattern_refusal : (bytes : List ℕ) (error : SparqlError) (P : Status → Type 0) → ¬ (error ≡ sparql.Memory) → IsParsedAs bytes (Err error)
    → ((reason : Reason) → IsParsedAnswer bytes (Err reason) → P (Refused reason)) → P (sparql_status error)
pattern_refusal bytes (sparql.BadPattern place) P other h goes = goes _ (sparql.BadPattern place, h, refl)
pattern_refusal bytes (sparql.TooNested place) P other h goes = goes _ (sparql.TooNested place, h, refl)
pattern_refusal bytes sparql.Memory P other h goes = absurd (other refl)

module _ (document name : List ℕ) (files : Files) (bytes : List ℕ) (there : HoldsFile files (encode_utf8_all name) bytes) where
  -- a run comes to what the answer leads to
  parsed_comes : (outcome : Outcome) → Comes files (sparql_script document name) outcome → (answer : Result Parsed Reason) × (IsParsedAnswer bytes answer × Comes files (on_answer answer (solutions_script document)) outcome)
  unfolding parsed_step parsed_text_step
  parsed_comes outcome h = after_load Pattern (get files (encode_utf8_all name)) bytes (λ bytes. Comes files (parsed_text_step bytes (solutions_script document)) outcome) outcome there.held there.short h

  -- and of a pattern to the lines of its solutions
  solutions_come : (parsed : Parsed) (text : List ℕ) (triples : List Statement) → IsParsedAs bytes (Ok parsed) → HoldsFile files (encode_utf8_all document) text → IsDocument text triples → length triples ≤ limit → (outcome : Outcome)
      → Comes files (sparql_script document name) outcome → (lines : List ℕ) × (AreSolutionLines triples parsed.pattern parsed.header lines × (outcome ≡ done (text_work lines)))
  unfolding graph_step triples_step
  solutions_come parsed text triples is held document_is few outcome h =
      let put : List Statement → Script = λ triples. ask (solutions_of parsed triples) (λ text. write (text_work text)) in
      let found = parsed_comes outcome h in
      let known = on_known files found.0 parsed (solutions_script document) outcome (parsed_answer_unique bytes found.0 (Ok parsed) found.1.0 is) found.1.1 in
      let asked = after_load Graph (get files (encode_utf8_all document)) text (λ bytes. Comes files (triples_step bytes put) outcome) outcome held.held held.short known in
      let lines = on_known files asked.0 triples put outcome (triples_answer_unique text asked.0 (Ok triples) asked.1.0 (document_is, few)) asked.1.1 in
      (lines.0, (lines.1.0, lines.1.1))

  module _ {s t : ShelfState} {o p : SinkState} (status : Status) (ends : Ends to_output (sparql_script document name) s t o p status) (told : s.files ≡ Some files) where
    refuses_parsed : (reason : Reason) → IsParsedAnswer bytes (Err reason) → EndsSo (Refused reason) s t o p status
    refuses_parsed reason right = ends_so files (refused reason) ends told (λ outcome h.
        let found = parsed_comes outcome h in
        let same = parsed_answer_unique bytes found.0 (Err reason) found.1.0 right in
        subst (λ (answer : Result Parsed Reason). Comes files (on_answer answer (solutions_script document)) outcome) same found.1.1)

    refuses_pattern : RefusesPattern bytes s t o p status
    refuses_pattern error other h = pattern_refusal bytes error (λ status'. EndsSo status' s t o p status) other h refuses_parsed

    writes_solution_lines : (text : List ℕ) (triples : List Statement) → HoldsFile files (encode_utf8_all document) text → IsDocument text triples → length triples ≤ limit → WritesSolutions bytes triples s t o p status
    writes_solution_lines text triples held document_is few parsed is =
        writes_text (AreSolutionLines triples parsed.pattern parsed.header) (sparql_script document name) status files ends told (solutions_come parsed text triples is held document_is few)

-- ---- tables that come back

abbrev store : Batch → Script
store files = write (files_work files)

module _ (base document out : List ℕ) (files : Files) (bytes : List ℕ) (triples : List Statement) (good : IsTrue (is_base base)) (held : HoldsFile files (encode_utf8_all document) bytes)
    (is : IsDocument bytes triples) (few : length triples ≤ limit) where
  -- a run comes to what the answer leads to
  invert_comes : (outcome : Outcome) → Comes files (invert_script base document out) outcome
      → (answer : Result Batch Reason) × (IsInverseAnswer base triples out answer × Comes files (on_answer answer store) outcome)
  unfolding base_step graph_step triples_step inverse_step
  invert_comes outcome h =
      let behind : List Statement → Script = λ triples. inverse_step base triples out store in
      let loads : Comes files (graph_step document behind) outcome = subst (λ (b : Bool). Comes files (cond b (graph_step document behind) (refuse bad_base)) outcome) good h in
      let asked = after_load Graph (get files (encode_utf8_all document)) bytes (λ bytes. Comes files (triples_step bytes behind) outcome) outcome held.held held.short loads in
      let right = triples_answer_unique bytes asked.0 (Ok triples) asked.1.0 (is, few) in
      let found = on_known files asked.0 triples behind outcome right asked.1.1 in
      (found.0, (found.1.0.1, found.1.1))

  stores_tables : (tables : List PlainTable) → StandsWithin base triples tables → {s t : ShelfState} {o p : SinkState} (status : Status) → Ends to_shelf (invert_script base document out) s t o p status → s.files ≡ Some files
      → StoresTables out tables s t o p status
  stores_tables tables within {s = s} {t = t} {o = o} {p = p} status ends told = record {
    no_fault = λ calm. elim (status_comes _ _ _ _ _ _ _ ends files told calm) [
      | inl h ↦ inl (h.1.1 ∙ ap status_of (comes h.0 h.1.0).1.1)
      | inr memory ↦ inr memory
    ];
    stored = λ well.
        let at = subst (λ (x : Status). Ends to_shelf (invert_script base document out) s t o p x) well ends in
        let work = at.means files told in
        let found = comes (done work.0) work.1.0 in
        let same : work.0.files ≡ found.0 = ap (λ (w : Work). w.files) (done_one work.0 (files_work found.0) found.1.1) in
        (found.0, (found.1.0, subst (λ (batch : Batch). StoresAll batch s.files t.files) same work.1.1.files));
  }
    where
      done_one : (v w : Work) → ◌≡◌ {A = Outcome} (done v) (done w) → v ≡ w
      done_one v w e = cc

      on_known_answer : (answer : Result Batch Reason) (outcome : Outcome) → IsInverseAnswer base triples out answer → Comes files (on_answer answer store) outcome
          → (batch : Batch) × (AreStored out tables batch × (outcome ≡ done (files_work batch)))
      on_known_answer (Ok batch) outcome right h =
          (batch, (are_stored out tables batch within.stands.of_shape within.limits (inverse_files base good triples out tables batch within.stands right), h))
      on_known_answer (Err why) outcome right h =
          let made = files_some out tables in
          absurd (apart made.0 why (inverse_answer_unique base good triples out (Ok made.0) (Err why) (record { tables = tables; stands = within; of_tables = made.1 }) right))
        where
          apart : (batch : Batch) (why : Reason) → ◌≡◌ {A = Result Batch Reason} (Ok batch) (Err why) → ⊥
          apart batch why e = cc

      comes : (outcome : Outcome) → Comes files (invert_script base document out) outcome → (batch : Batch) × (AreStored out tables batch × (outcome ≡ done (files_work batch)))
      comes outcome h = let asked = invert_comes outcome h in on_known_answer asked.0 outcome asked.1.0 asked.1.1

  refused_so : (reason : Reason) → IsInverseAnswer base triples out (Err reason) → {s t : ShelfState} {o p : SinkState} (status : Status) → Ends to_shelf (invert_script base document out) s t o p status → s.files ≡ Some files
      → EndsSo (Refused reason) s t o p status
  refused_so reason right status ends told = ends_so files (refused reason) ends told (λ outcome h.
      let asked = invert_comes outcome h in
      let same = inverse_answer_unique base good triples out asked.0 (Err reason) asked.1.0 right in
      subst (λ (answer : Result Batch Reason). Comes files (on_answer answer store) outcome) same asked.1.1)

  refuses_so : (error : InverseError) → Refuses base triples error → {s t : ShelfState} {o p : SinkState} (status : Status) → Ends to_shelf (invert_script base document out) s t o p status → s.files ≡ Some files
      → EndsSo (inverse_status error) s t o p status
  refuses_so inverse.NoTables h status ends told = refused_so _ (inverse.NoTables, h, refl) status ends told
  refuses_so (inverse.Unexplained place) h status ends told = refused_so _ (inverse.Unexplained place, h, refl) status ends told
  refuses_so (inverse.TwoValues place) h status ends told = refused_so _ (inverse.TwoValues place, h, refl) status ends told
  refuses_so (inverse.TwoTables place) h status ends told = refused_so _ (inverse.TwoTables place, h, refl) status ends told
  refuses_so (inverse.NoKeyValue place) h status ends told = refused_so _ (inverse.NoKeyValue place, h, refl) status ends told
  refuses_so inverse.TooManyTables h status ends told = refused_so _ (inverse.TooManyTables, h, refl) status ends told
  refuses_so inverse.TooManyColumns h status ends told = refused_so _ (inverse.TooManyColumns, h, refl) status ends told
  refuses_so inverse.TooManyRows h status ends told = refused_so _ (inverse.TooManyRows, h, refl) status ends told
  refuses_so inverse.Memory h status ends told = absurd h

  inverts : {s t : ShelfState} {o p : SinkState} (status : Status) → Ends to_shelf (invert_script base document out) s t o p status → s.files ≡ Some files → Inverts base out triples s t o p status
  inverts status ends told = record { stands = λ tables within. stores_tables tables within status ends told; refused = λ error h. refuses_so error h status ends told }

  gives_back : (D : Data) → IsText base → IsDatabase D → IsGraphFile base D bytes → {s t : ShelfState} {o p : SinkState} (status : Status) → Ends to_shelf (invert_script base document out) s t o p status → s.files ≡ Some files
      → GivesBack base out D s t o p status
  gives_back D text database graph_is status ends told = record {
    some = some_plain D database;
    stores = λ plain plain_is. stores_tables plain (record { stands = stands plain plain_is graph_is; limits = plain_within D database plain plain_is }) status ends told;
  }
    where
      stands : (plain : List PlainTable) → IsPlain D plain → IsGraphFile base D bytes → StandsFor base triples plain
      stands plain plain_is (inl kept) =
          map_stands base D database (own_nodes base D database) plain plain_is kept.0 (kept_matches D database.schema kept.0) triples (exactly base (is_iri-base base good, text) D database graph.Map bytes triples kept.1 is)
      stands plain plain_is (inr marked) =
          keys_stand base D database (own_nodes base D database) plain plain_is triples (exactly base (is_iri-base base good, text) D database graph.MapKeys bytes triples marked is)

-- ---- batches

-- the batch is the one that its files are
further_come : (files : Files) (folder : List ℕ) (mode : NullMode) (many : ℕ) (held : List (List Row)) (before : ℕ) (tables : List Table) (rows : List (List Row)) (next : List (List Row) → Script) (outcome : Outcome) →
    HoldsTables files folder mode tables rows → FewBehind held before rows → Comes files (further_tables_step folder mode many held before tables next) outcome → Comes files (next rows) outcome
unfolding further_tables_step further_rows_step rows_step few_step
further_come files folder mode many held before [] [] next outcome there few h = h
further_come files folder mode many held before [] (r ∷ rows) next outcome there few h = absurd there
further_come files folder mode many held before (table ∷ tables) [] next outcome there few h = absurd there
further_come files folder mode many held before (table ∷ tables) (r ∷ rows) next outcome there few h =
    let number : ℕ = before + 1 + many in
    let count : ℕ = length (rows_at held before) in
    let step : List Row → Script = λ found. further_tables_step folder mode many held (before + 1) tables (λ others. next (found ∷ others)) in
    let asked = after_load (More (before + 1)) (get files (table_file folder table.name)) there.0.bytes (λ bytes. Comes files (further_rows_step table.columns mode number count bytes step) outcome) outcome
    there.0.holds.held there.0.holds.short h in
    let right = rows_answer_unique table.columns mode number there.0.bytes asked.0 (Ok r) asked.1.0.0 asked.1.0.1 there.0.reads in
    let counted = on_known files asked.0 r (λ found. few_step number (count + length found) (λ _. step found)) outcome right asked.1.1 in
    let goes_on : Comes files (step r) outcome =
    subst (λ (b : Bool). Comes files (cond b (refuse (reason 25 number 0 0)) (step r)) outcome) (le-ltb 4194304 (count + length r) (few_first held before r rows few)) counted in
    further_come files folder mode many held (before + 1) tables rows (λ others. next (r ∷ others)) outcome there.1 (few_rest held before r rows few) goes_on

module _ (base folder more : List ℕ) (nulls : NullMode) (files : Files) (D batch : Data) (good : IsTrue (is_base base)) (held : HoldsDatabase files folder nulls D) (fits : IsBatchFor D batch)
    (there : HoldsTables files more nulls D.tables batch.rows) where
  -- a run comes to the steps behind the batch
  batch_comes : (outcome : Outcome) → Comes files (append_script base folder more nulls) outcome → Comes files (batch_script base D batch) outcome
  unfolding base_step more_step
  batch_comes outcome h =
      let loads : Comes files (database_step folder nulls (enlarged base more nulls)) outcome =
      subst (λ (b : Bool). Comes files (cond b (database_step folder nulls (enlarged base more nulls)) (refuse bad_base)) outcome) good h in
      let behind = database_comes files folder nulls D (enlarged base more nulls) outcome held loads in
      subst (λ (tables : List Table). Comes files (batch_script base D (record { tables = tables; rows = batch.rows })) outcome) (sym fits.tables)
      (further_come files more nulls (length D.tables) D.rows 0 D.tables batch.rows (λ rows. batch_script base D (record { tables = D.tables; rows = rows })) outcome there (from_first D.rows batch.rows fits.few) behind)

  abbrev both_kept : Script
  both_kept = batch_keys_step (appended D batch) (λ _. put_batch base D batch)

  -- and to what stands behind these violations of the database
  behind_old : (found : List Violation) → ((asked : List Violation) → IsListing (ViolatesAt D) asked → asked ≡ found) → (outcome : Outcome) → Comes files (append_script base folder more nulls) outcome
      → Comes files (on_violations found (λ _. both_kept)) outcome
  unfolding keys_step
  behind_old found one outcome h =
      let asked = batch_comes outcome h in
      subst (λ (v : List Violation). Comes files (on_violations v (λ _. both_kept)) outcome) (one asked.0 asked.1.0) asked.1.1

  -- and, where it has none, behind these of both together
  behind_both : KeepsKeys D → (found : List Violation) → ((asked : List Violation) → IsListing (ViolatesAt (appended D batch)) asked → asked ≡ found) → (outcome : Outcome)
      → Comes files (append_script base folder more nulls) outcome → Comes files (on_batch_violations found (λ _. put_batch base D batch)) outcome
  unfolding batch_keys_step
  behind_both kept found one outcome h =
      let asked = behind_old [] (λ asked listed. (none_listed D asked listed).1 kept) outcome h in
      subst (λ (v : List Violation). Comes files (on_batch_violations v (λ _. put_batch base D batch)) outcome) (one asked.0 asked.1.0) asked.1.1

  writes_batch : {s t : ShelfState} {o p : SinkState} (status : Status) → Ends to_output (append_script base folder more nulls) s t o p status → s.files ≡ Some files → WritesBatch base D batch s t o p status
  writes_batch status ends told = record {
    kept = λ kept whole_kept.
        writes_text (IsBatchText base D (appended D batch)) (append_script base folder more nulls) status files ends told
        (behind_both kept [] (λ asked listed. (none_listed (appended D batch) asked listed).1 whole_kept));
    enlarges = λ kept whole_kept. batch_enlarges_so base good D batch (held_database files folder nulls D held) batch_is fits kept whole_kept;
    violated = λ first others listed. ends_so files (refused (key_reason first)) ends told
        (behind_old (first ∷ others) (λ asked also. listing_unique (ViolatesAt D) asked (first ∷ others) also listed));
    batch_violated = λ kept first others listed. ends_so files (refused (batch_reason first)) ends told
        (behind_both kept (first ∷ others) (λ asked also. listing_unique (ViolatesAt (appended D batch)) asked (first ∷ others) also listed));
  }
    where
      batch_is : IsDatabase batch
      batch_is =
          let database = held_database files folder nulls D held in
          subst (λ (tables : List Table). IsDatabase (record { tables = tables; rows = batch.rows })) (sym fits.tables)
          (record { schema = database.schema; rows = held_rows files more nulls D.tables batch.rows (λ t m. (database.schema.each t m).distinct) there })

benches : (n : ℕ) (files : Files) {s t : ShelfState} {o p : SinkState} (status : Status) → Ends to_output (bench_script n) s t o p status → s.files ≡ Some files → WritesText (IsBenchText (generated n)) s t o p status
benches n files status ends told = writes_text (IsBenchText (generated n)) (bench_script n) status files ends told (λ outcome h. (h.0, (h.1.0, h.1.1)))

-- each command keeps its promise
pub promised : (command : Command) {s t : ShelfState} {o p : SinkState} (status : Status) → Ends (plan_of command).target (plan_of command).script s t o p status → Promises command s t o p status
promised (Direct base folder nulls) status ends = writes_graph graph.Direct base folder nulls status ends
promised (Map base folder nulls) status ends = writes_graph graph.Map base folder nulls status ends
promised (MapKeys base folder nulls) status ends = writes_graph graph.MapKeys base folder nulls status ends
promised (Invert base document out) status ends = λ files bytes triples told good held is few.
    (inverts base document out files bytes triples good held is few status ends told, λ D text database graph_is. gives_back base document out files bytes triples good held is few D text database graph_is status ends told)
promised (Append base folder more nulls) status ends = λ files D batch told good held fits there. writes_batch base folder more nulls files D batch good held fits there status ends told
promised (Rows folder document nulls) status ends = λ files D bytes told held there. answers_query folder document nulls files D bytes held there status ends told
promised (Translate mode base folder document) status ends = λ files tables bytes told good held. translates mode base folder document files tables bytes good held status ends told
promised (Ask mode base folder source document) status ends = λ files tables bytes told good held. (
  refuses_fault base folder document (answers_script mode source) files tables bytes good held status ends told,
  λ text triples there is few. answers_over mode base folder source document files tables bytes text triples good held there is few status ends told,
)
promised (Sparql document name) status ends = λ files bytes told there. (
  refuses_pattern document name files bytes there status ends told,
  λ text triples held is few. writes_solution_lines document name files bytes there status ends told text triples held is few,
)
promised (Show document) status ends = λ files bytes triples told held is few. shows document files bytes triples status ends told held is few
promised (Clean folder out nulls) status ends = λ files D told held. cleans folder out nulls files D status ends told held
promised (Consistent document) status ends = λ files bytes triples told held is few. (judges document files bytes triples status ends told held is few, tells_keys bytes triples is)
promised (Check folder nulls) status ends = λ files D told held. checks folder nulls files D status ends told held
promised (Bench n) status ends = λ files told. benches n files status ends told
