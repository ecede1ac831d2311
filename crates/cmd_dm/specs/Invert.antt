-- `invert BASE GRAPH OUT`: the tables that the triples of a file stand for, stored as a folder.
use Rattle.std.specs.Prelude.{ℕ, List, []}
use Rattle.outside_dm.specs.Storing.{Batch}
use Rattle.cmd_dm.specs.Script.{Script, Work, write}
use Rattle.cmd_dm.specs.Steps.{base_step, graph_step, inverse_step}

-- files, and no text
abbrev pub files_work : Batch → Work
files_work files = record { files = files; text = [] }

-- its steps: base, graph, inverse
abbrev pub invert_script : List ℕ → List ℕ → List ℕ → Script
invert_script word name out =
    base_step word (λ base.
    graph_step name (λ triples.
    inverse_step base triples out (λ files. write (files_work files))))
