-- `direct`, `map` and `map-keys BASE FOLDER`: a graph of the folder's database, as N-Triples.
use Rattle.std.specs.Prelude.{ℕ, List}
use Rattle.value_dm.specs.declared.mode.NullMode.{NullMode}
use Rattle.graphs_dm.specs.declared.graph_name.GraphName.{GraphName}
use Rattle.cmd_dm.specs.Questions.{graph_of}
use Rattle.cmd_dm.specs.Script.{Script, ask, write, text_work}
use Rattle.cmd_dm.specs.Steps.{base_step, database_step, kept_step}

-- its steps: base, schema, tables, and for the direct and the map graph keys
abbrev pub graph_script : GraphName → List ℕ → List ℕ → NullMode → Script
graph_script name word folder mode =
    base_step word (λ base.
    database_step folder mode (λ D.
    kept_step name D (λ _.
    ask (graph_of name base D) (λ text. write (text_work text)))))
