-- `translate MODE BASE FOLDER QUERY`: the pattern of a query over the folder's tables, as SPARQL text. `ask MODE BASE FOLDER GRAPH
-- QUERY`: the solutions of this pattern over the triples of a file, as tab separated values.
use Rattle.std.specs.Prelude.{ℕ, List}
use Rattle.schema_dm.specs.declared.table.Table.{Table}
use Rattle.algebra_dm.specs.declared.query.Mode.{Mode}
use Rattle.algebra_dm.specs.declared.query.Query.{Query}
use Rattle.cmd_dm.specs.Questions.{answers_of, pattern_of}
use Rattle.cmd_dm.specs.Script.{Script, ask, write, text_work}
use Rattle.cmd_dm.specs.Steps.{base_step, declared_step, graph_step, query_step}

-- the first steps of both: base, schema, query
abbrev pub question_script : List ℕ → List ℕ → List ℕ → (List ℕ → List Table → Query → Script) → Script
question_script word folder name next = base_step word (λ base. declared_step folder (λ tables. query_step tables name (λ q. next base tables q)))

-- behind them the pattern's text
abbrev pub pattern_script : Mode → List ℕ → List Table → Query → Script
pattern_script mode base tables q = ask (pattern_of mode base tables q) (λ text. write (text_work text))

-- or the graph, and the pattern's solutions
abbrev pub answers_script : Mode → List ℕ → List ℕ → List Table → Query → Script
answers_script mode document base tables q = graph_step document (λ triples. ask (answers_of mode base tables q triples) (λ text. write (text_work text)))

abbrev pub translate_script : Mode → List ℕ → List ℕ → List ℕ → Script
translate_script mode word folder name = question_script word folder name (pattern_script mode)

abbrev pub ask_script : Mode → List ℕ → List ℕ → List ℕ → List ℕ → Script
ask_script mode word folder document name = question_script word folder name (answers_script mode document)
