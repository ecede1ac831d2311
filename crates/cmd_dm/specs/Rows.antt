-- `rows FOLDER QUERY`: the rows of a query over the folder's database, as tab separated values.
use Rattle.std.specs.Prelude.{ℕ, List}
use Rattle.value_dm.specs.declared.mode.NullMode.{NullMode}
use Rattle.cmd_dm.specs.Questions.{lines_of}
use Rattle.cmd_dm.specs.Script.{Script, ask, write, text_work}
use Rattle.cmd_dm.specs.Steps.{database_step, query_step}

-- its steps: schema, tables, query
abbrev pub rows_script : List ℕ → List ℕ → NullMode → Script
rows_script folder name mode =
    database_step folder mode (λ D.
    query_step D.tables name (λ q.
    ask (lines_of D q) (λ text. write (text_work text))))
