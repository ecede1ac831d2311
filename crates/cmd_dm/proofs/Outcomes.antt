-- One thing comes of a script.
use Rattle.std.proofs.Common.{◌≡◌, ◌∙◌, refl, sym, ap, subst, inl, inr, ℕ, List, [], ◌∷◌, length, Option, Some, None, Result, Ok, Err, true, false, nat_lt}
use Rattle.std.specs.Prelude.{MatchBool}
use Rattle.std.specs.FinMap.{get}
use Rattle.members_dm.proofs.PlacesLemmas.{listing_unique}
use Rattle.members_dm.specs.Membership.{NoRepeats}
use Rattle.value_dm.specs.declared.mode.NullMode.{NullMode}
use Rattle.outside_dm.specs.Shelves.{Files, longest}
use Rattle.schema_dm.specs.Naming.{column_names}
use Rattle.schema_dm.specs.declared.draft.Column.{Column}
use Rattle.schema_dm.specs.declared.table.Table.{Table}
use Rattle.ddl_dm.specs.declared.ddl.DdlError.{DdlError}
use Rattle.ddl_dm.specs.declared.ddl.DdlError.TheVariants as ddl
use Rattle.ddl_dm.specs.Schema.{IsDdl}
use Rattle.ddl_dm.proofs.OneAnswer.{IsSchemaAnswered, schema_one}
use Rattle.table_csv.specs.Cells.{Row}
use Rattle.table_csv.specs.TableFiles.{records_of}
use Rattle.table_csv.specs.declared.fault.TableError.{TableError}
use Rattle.table_csv.specs.declared.fault.TableError.TheVariants as table
use Rattle.table_csv.proofs.HeaderLemmas.{fields_differ}
use Rattle.table_csv.proofs.OneFile.{file_one, only_memory}
use Rattle.table_csv.proofs.OneFault.{one_fault}
use Rattle.names_dm.specs.Statements.{Statement}
use Rattle.ntriples_reader_dm.specs.Lines.{lines}
use Rattle.ntriples_reader_dm.specs.declared.fault.GraphError.{GraphError}
use Rattle.ntriples_reader_dm.specs.declared.fault.GraphError.TheVariants as graph
use Rattle.ntriples_reader_dm.proofs.Cuts.{triples_one}
use Rattle.ntriples_reader_dm.proofs.OneAnswer.{one_answer}
use Rattle.consistency_dm.proofs.FirstConflicts.{one_verdict}
use Rattle.keys_dm.specs.Violations.{ViolatesAt}
use Rattle.graphs_dm.proofs.GraphLevels.{graph_text_unique}
use Rattle.algebra_dm.specs.declared.error.QueryError.{QueryError}
use Rattle.algebra_dm.specs.declared.error.QueryError.TheVariants as query
use Rattle.algebra_dm.specs.declared.query.Query.{Query}
use Rattle.query_text_dm.proofs.OneAnswer.{one_answer as one_read}
use Rattle.query_lines_dm.proofs.OneText.{query_lines_one}
use Rattle.pattern_lines_dm.proofs.OneText.{solution_lines_one}
use Rattle.sparql_text_dm.specs.declared.error.SparqlError.{SparqlError}
use Rattle.sparql_text_dm.specs.declared.error.SparqlError.TheVariants as sparql
use Rattle.sparql_text_dm.specs.declared.parsed.Parsed.{Parsed}
use Rattle.sparql_text_dm.proofs.OneAnswer.{one_answer as one_parsed}
use Rattle.cmd_dm.proofs.Answered.{answers_one, pattern_text_one}
use Rattle.cmd_dm.specs.Questions.{Question, AnswerTo, Answers, IsSchemaAnswer, IsRowsAnswer, IsTriplesAnswer, IsQueryAnswer, IsParsedAnswer, parsed_of, solutions_of, schema_of, rows_of, triples_of, verdict_of, violations_of, graph_of, batch_of, removals_of, left_of, files_of, inverse_of, query_of, lines_of, pattern_of, answers_of, bench_of}
use Rattle.bench_lines_dm.proofs.OneText.{bench_text_one}
use Rattle.outside_dm.specs.Storing.{Batch}
use Rattle.schema_dm.specs.declared.table.ShapeTable.{ShapeTable}
use Rattle.table_csv.proofs.OneText.{text_one}
use Rattle.clean_dm.specs.Removing.{IsLeft}
use Rattle.clean_dm.proofs.OneCleaning.{one_cleaning}
use Rattle.clean_dm.proofs.RowsLeft.{rows_one}
use Rattle.append_dm.specs.Appended.{appended}
use Rattle.cmd_dm.specs.Folder.{AreFilesOf}
use Rattle.cmd_dm.proofs.Batches.{batch_text_unique}
use Rattle.cmd_dm.proofs.Inverses.{inverse_answer_unique}
use Rattle.cmd_dm.specs.Reasons.{ddl_status, graph_status, query_status, sparql_status, table_status}
use Rattle.cmd_dm.specs.Script.{Script, Outcome, too_long, load, ask, refuse, write, AfterLoad, Comes}
use Rattle.cmd_dm.specs.declared.status.File.{File}
use Rattle.cmd_dm.specs.declared.status.Reason.{Reason}
use Rattle.cmd_dm.specs.declared.status.Status.TheVariants.{Refused, Memory}

refusal_one : (r s : Reason) → Refused r ≡ Refused s → r ≡ s
refusal_one r s e = cc

no_refusal : {W : Type 0} (r : Reason) → Memory ≡ Refused r → W
no_refusal r e = absurd cc

-- ---- schemas

pub refused_schema : (error : DdlError) (reason : Reason) → ddl_status error ≡ Refused reason → IsSchemaAnswered (Err error)
refused_schema (ddl.NotUtf8 place) reason told = tt
refused_schema (ddl.BadToken place) reason told = tt
refused_schema (ddl.Unexpected place) reason told = tt
refused_schema (ddl.UnknownType place) reason told = tt
refused_schema (ddl.AlterUnknown number) reason told = tt
refused_schema (ddl.Schema error) reason told = tt
refused_schema ddl.Memory reason told = no_refusal reason told

no_fault : (bytes : List ℕ) (tables : List Table) (reason : Reason) → IsDdl bytes tables → IsSchemaAnswer bytes (Err reason) → ⊥
no_fault bytes tables reason h k = apart tables k.0 (schema_one bytes (Ok tables) (Err k.0) tt (refused_schema k.0 reason k.2) h k.1)
  where
    apart : (t : List Table) (e : DdlError) → ◌≡◌ {A = Result (List Table) DdlError} (Ok t) (Err e) → ⊥
    apart t e same = cc

pub schema_answer_unique : (bytes : List ℕ) (a b : Result (List Table) Reason) → IsSchemaAnswer bytes a → IsSchemaAnswer bytes b → a ≡ b
schema_answer_unique bytes (Ok t) (Ok u) h k = ap Ok (tables_one t u (schema_one bytes (Ok t) (Ok u) tt tt h k))
  where
    tables_one : (t u : List Table) → ◌≡◌ {A = Result (List Table) DdlError} (Ok t) (Ok u) → t ≡ u
    tables_one t u e = cc
schema_answer_unique bytes (Ok t) (Err r) h k = absurd (no_fault bytes t r h k)
schema_answer_unique bytes (Err r) (Ok u) h k = absurd (no_fault bytes u r k h)
schema_answer_unique bytes (Err r) (Err s) h k =
    let same = errors_one h.0 k.0 (schema_one bytes (Err h.0) (Err k.0) (refused_schema h.0 r h.2) (refused_schema k.0 s k.2) h.1 k.1) in
    ap Err (refusal_one r s (sym h.2 ∙ ap ddl_status same ∙ k.2))
  where
    errors_one : (e f : DdlError) → ◌≡◌ {A = Result (List Table) DdlError} (Err e) (Err f) → e ≡ f
    errors_one e f same = cc

-- ---- rows

refused_rows : (number : ℕ) (error : TableError) (reason : Reason) → table_status number error ≡ Refused reason → ¬ (error ≡ table.Memory)
refused_rows number error reason told memory = no_refusal reason (sym (ap (table_status number) memory) ∙ told)

pub rows_answer_unique : (columns : List Column) (mode : NullMode) (number : ℕ) (bytes : List ℕ) (a b : Result (List Row) Reason) → NoRepeats (column_names columns) →
    IsRowsAnswer columns mode number bytes a → IsRowsAnswer columns mode number bytes b → a ≡ b
rows_answer_unique columns mode number bytes (Ok t) (Ok u) distinct h k = ap Ok (file_one columns mode (records_of bytes) t u (fields_differ columns distinct) h k)
rows_answer_unique columns mode number bytes (Ok t) (Err r) distinct h k = absurd (refused_rows number k.0 r k.2 (only_memory columns mode (records_of bytes) t k.0 h k.1))
rows_answer_unique columns mode number bytes (Err r) (Ok u) distinct h k = absurd (refused_rows number h.0 r h.2 (only_memory columns mode (records_of bytes) u h.0 k h.1))
rows_answer_unique columns mode number bytes (Err r) (Err s) distinct h k =
    elim (one_fault columns mode (records_of bytes) h.0 k.0 (fields_differ columns distinct) h.1 k.1 (refused_rows number k.0 s k.2)) [
      | inl same ↦ ap Err (refusal_one r s (sym h.2 ∙ ap (table_status number) same ∙ k.2))
      | inr memory ↦ absurd (refused_rows number h.0 r h.2 memory)
    ]

-- ---- triples

told_graph : (error : GraphError) (reason : Reason) → graph_status error ≡ Refused reason → ¬ (error ≡ graph.Memory)
told_graph error reason told memory = no_refusal reason (sym (ap graph_status memory) ∙ told)

abbrev Read : Type 0
Read = Result (List Statement) GraphError

ok_answered : (triples : List Statement) → ¬ (◌≡◌ {A = Read} (Ok triples) (Err graph.Memory))
ok_answered triples e = absurd cc

errors_one : (e f : GraphError) → ◌≡◌ {A = Read} (Err e) (Err f) → e ≡ f
errors_one e f same = cc

err_answered : (error : GraphError) → ¬ (error ≡ graph.Memory) → ¬ (◌≡◌ {A = Read} (Err error) (Err graph.Memory))
err_answered error other e = other (errors_one error graph.Memory e)

no_triples : (bytes : List ℕ) (triples : List Statement) (reason : Reason) → IsTriplesAnswer bytes (Ok triples) → IsTriplesAnswer bytes (Err reason) → ⊥
no_triples bytes triples reason h k = apart triples k.0 (one_answer bytes (Ok triples) (Err k.0) h k.1 (ok_answered triples) (err_answered k.0 (told_graph k.0 reason k.2)))
  where
    apart : (t : List Statement) (e : GraphError) → ◌≡◌ {A = Read} (Ok t) (Err e) → ⊥
    apart t e same = cc

pub triples_answer_unique : (bytes : List ℕ) (a b : Result (List Statement) Reason) → IsTriplesAnswer bytes a → IsTriplesAnswer bytes b → a ≡ b
triples_answer_unique bytes (Ok t) (Ok u) h k = ap Ok (triples_one (lines bytes) t u h.0 k.0)
triples_answer_unique bytes (Ok t) (Err r) h k = absurd (no_triples bytes t r h k)
triples_answer_unique bytes (Err r) (Ok u) h k = absurd (no_triples bytes u r k h)
triples_answer_unique bytes (Err r) (Err s) h k =
    let same = errors_one h.0 k.0
    (one_answer bytes (Err h.0) (Err k.0) h.1 k.1 (err_answered h.0 (told_graph h.0 r h.2)) (err_answered k.0 (told_graph k.0 s k.2))) in
    ap Err (refusal_one r s (sym h.2 ∙ ap graph_status same ∙ k.2))

-- ---- queries

abbrev Asked : Type 0
Asked = Result Query QueryError

told_query : (error : QueryError) (reason : Reason) → query_status error ≡ Refused reason → ¬ (◌≡◌ {A = Asked} (Err error) (Err query.Memory))
told_query error reason told memory = no_refusal reason (sym (ap query_status (faults_one error query.Memory memory)) ∙ told)
  where
    faults_one : (e f : QueryError) → ◌≡◌ {A = Asked} (Err e) (Err f) → e ≡ f
    faults_one e f same = cc

query_told : (q : Query) → ¬ (◌≡◌ {A = Asked} (Ok q) (Err query.Memory))
query_told q e = absurd cc

no_query : (tables : List Table) (bytes : List ℕ) (q : Query) (reason : Reason) → IsQueryAnswer tables bytes (Ok q) → IsQueryAnswer tables bytes (Err reason) → ⊥
no_query tables bytes q reason h k = apart q k.0 (one_read tables bytes (Ok q) (Err k.0) (query_told q) (told_query k.0 reason k.2) h k.1)
  where
    apart : (q : Query) (e : QueryError) → ◌≡◌ {A = Asked} (Ok q) (Err e) → ⊥
    apart q e same = cc

pub query_answer_unique : (tables : List Table) (bytes : List ℕ) (a b : Result Query Reason) → IsQueryAnswer tables bytes a → IsQueryAnswer tables bytes b → a ≡ b
query_answer_unique tables bytes (Ok p) (Ok q) h k = ap Ok (queries_one p q (one_read tables bytes (Ok p) (Ok q) (query_told p) (query_told q) h k))
  where
    queries_one : (p q : Query) → ◌≡◌ {A = Asked} (Ok p) (Ok q) → p ≡ q
    queries_one p q e = cc
query_answer_unique tables bytes (Ok p) (Err r) h k = absurd (no_query tables bytes p r h k)
query_answer_unique tables bytes (Err r) (Ok q) h k = absurd (no_query tables bytes q r k h)
query_answer_unique tables bytes (Err r) (Err s) h k =
    let same = faults_one h.0 k.0 (one_read tables bytes (Err h.0) (Err k.0) (told_query h.0 r h.2) (told_query k.0 s k.2) h.1 k.1) in
    ap Err (refusal_one r s (sym h.2 ∙ ap query_status same ∙ k.2))
  where
    faults_one : (e f : QueryError) → ◌≡◌ {A = Asked} (Err e) (Err f) → e ≡ f
    faults_one e f same = cc

-- ---- patterns

abbrev ReadPattern : Type 0
ReadPattern = Result Parsed SparqlError

told_parsed : (error : SparqlError) (reason : Reason) → sparql_status error ≡ Refused reason → ¬ (◌≡◌ {A = ReadPattern} (Err error) (Err sparql.Memory))
told_parsed error reason told memory = no_refusal reason (sym (ap sparql_status (faults_one error sparql.Memory memory)) ∙ told)
  where
    faults_one : (e f : SparqlError) → ◌≡◌ {A = ReadPattern} (Err e) (Err f) → e ≡ f
    faults_one e f same = cc

parsed_told : (parsed : Parsed) → ¬ (◌≡◌ {A = ReadPattern} (Ok parsed) (Err sparql.Memory))
parsed_told parsed e = absurd cc

no_parsed : (bytes : List ℕ) (parsed : Parsed) (reason : Reason) → IsParsedAnswer bytes (Ok parsed) → IsParsedAnswer bytes (Err reason) → ⊥
no_parsed bytes parsed reason h k = apart parsed k.0 (one_parsed bytes (Ok parsed) (Err k.0) (parsed_told parsed) (told_parsed k.0 reason k.2) h k.1)
  where
    apart : (p : Parsed) (e : SparqlError) → ◌≡◌ {A = ReadPattern} (Ok p) (Err e) → ⊥
    apart p e same = cc

pub parsed_answer_unique : (bytes : List ℕ) (a b : Result Parsed Reason) → IsParsedAnswer bytes a → IsParsedAnswer bytes b → a ≡ b
parsed_answer_unique bytes (Ok p) (Ok q) h k = ap Ok (parsed_one p q (one_parsed bytes (Ok p) (Ok q) (parsed_told p) (parsed_told q) h k))
  where
    parsed_one : (p q : Parsed) → ◌≡◌ {A = ReadPattern} (Ok p) (Ok q) → p ≡ q
    parsed_one p q e = cc
parsed_answer_unique bytes (Ok p) (Err r) h k = absurd (no_parsed bytes p r h k)
parsed_answer_unique bytes (Err r) (Ok q) h k = absurd (no_parsed bytes q r k h)
parsed_answer_unique bytes (Err r) (Err s) h k =
    let same = faults_one h.0 k.0 (one_parsed bytes (Err h.0) (Err k.0) (told_parsed h.0 r h.2) (told_parsed k.0 s k.2) h.1 k.1) in
    ap Err (refusal_one r s (sym h.2 ∙ ap sparql_status same ∙ k.2))
  where
    faults_one : (e f : SparqlError) → ◌≡◌ {A = ReadPattern} (Err e) (Err f) → e ≡ f
    faults_one e f same = cc

-- ---- files

pub files_one : (folder : List ℕ) (tables : List ShapeTable) (rows : List (List Row)) (a b : Batch) → AreFilesOf folder tables rows a → AreFilesOf folder tables rows b → a ≡ b
files_one folder [] [] [] [] h k = refl
files_one folder [] [] [] (y ∷ b) h k = absurd k
files_one folder [] [] (x ∷ a) b h k = absurd h
files_one folder [] (r ∷ rows) [] b h k = absurd h
files_one folder [] (r ∷ rows) (x ∷ a) b h k = absurd h
files_one folder (t ∷ tables) [] [] b h k = absurd h
files_one folder (t ∷ tables) [] (x ∷ a) b h k = absurd h
files_one folder (t ∷ tables) (r ∷ rows) [] b h k = absurd h
files_one folder (t ∷ tables) (r ∷ rows) (x ∷ a) [] h k = absurd k
files_one folder (t ∷ tables) (r ∷ rows) (x ∷ a) (y ∷ b) h k =
    let name : x.0 ≡ y.0 = h.0.name ∙ sym k.0.name in
    let text : x.1 ≡ y.1 = text_one t.columns r x.1 y.1 h.0.text k.0.text in
    let rest : a ≡ b = files_one folder tables rows a b h.1 k.1 in
    λ i. (name i, text i) ∷ rest i

-- ---- answers

-- a question has one right answer
pub answer_unique : (question : Question) (a b : AnswerTo question) → Answers question a → Answers question b → a ≡ b
answer_unique (schema_of bytes) a b h k = schema_answer_unique bytes a b h k
answer_unique (rows_of columns mode number bytes) a b h k = rows_answer_unique columns mode number bytes a b h.0 h.1 k.1
answer_unique (violations_of D) a b h k = listing_unique (ViolatesAt D) a b h k
answer_unique (triples_of bytes) a b h k = triples_answer_unique bytes a b h k
answer_unique (verdict_of triples) a b h k = one_verdict triples a b h k
answer_unique (graph_of name base D) a b h k = graph_text_unique name base D a b h k
answer_unique (batch_of base D batch) a b h k = batch_text_unique base D (appended D batch) a b h k
answer_unique (removals_of D) a b h k = one_cleaning D a b h k
answer_unique (left_of D removals) a b h k = rows_one D (IsLeft removals) a b h k
answer_unique (files_of folder tables rows) a b h k = files_one folder tables rows a b h k
answer_unique (inverse_of base triples folder) a b h k = inverse_answer_unique base h.0 triples folder a b h.1 k.1
answer_unique (query_of tables bytes) a b h k = query_answer_unique tables bytes a b h k
answer_unique (lines_of D q) a b h k = query_lines_one D q a b h k
answer_unique (pattern_of mode base tables q) a b h k = pattern_text_one mode base tables q h.0 a b h.1 k.1
answer_unique (answers_of mode base tables q triples) a b h k = answers_one mode base tables q h.0 triples a b h.1 k.1
answer_unique (parsed_of bytes) a b h k = parsed_answer_unique bytes a b h k
answer_unique (solutions_of parsed triples) a b h k = solution_lines_one triples parsed.pattern parsed.header a b h k
answer_unique (bench_of D) a b h k = bench_text_one D a b h k

after_load_unique : (file : File) (content : Option (List ℕ)) (rest : List ℕ → Outcome → Type 0) →
    ((bytes : List ℕ) (o p : Outcome) → rest bytes o → rest bytes p → o ≡ p) →
    (o p : Outcome) → AfterLoad file content (λ bytes. rest bytes o) o → AfterLoad file content (λ bytes. rest bytes p) p → o ≡ p
after_load_unique file None rest unique o p h k = h ∙ sym k
after_load_unique file (Some bytes) rest unique o p h k =
    elim (nat_lt longest (length bytes)) as (λ b. MatchBool b (o ≡ too_long file) (rest bytes o) → MatchBool b (p ≡ too_long file) (rest bytes p) → o ≡ p) [
      | true ↦ λ h k. h ∙ sym k
      | false ↦ λ h k. unique bytes o p h k
    ] h k

pub outcome_unique : (files : Files) (script : Script) (o p : Outcome) → Comes files script o → Comes files script p → o ≡ p
outcome_unique files (load file name next) o p h k =
    after_load_unique file (get files name) (λ bytes o. Comes files (next bytes) o) (λ bytes o p h k. outcome_unique files (next bytes) o p h k) o p h k
outcome_unique files (ask question next) o p h k =
    outcome_unique files (next h.0) o p h.1.1
    (subst (λ (a : AnswerTo question). Comes files (next a) p) (answer_unique question k.0 h.0 k.1.0 h.1.0) k.1.1)
outcome_unique files (refuse reason) o p h k = h ∙ sym k
outcome_unique files (write work) o p h k = h ∙ sym k
