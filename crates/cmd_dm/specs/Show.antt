-- `show GRAPH`: the triples of a file of N-Triples, each in its written form, in their order.
use Rattle.std.specs.Prelude.{ℕ, List}
use Rattle.std.specs.List.{flat_map}
use Rattle.ntriples_dm.specs.Written.{triple_text}
use Rattle.cmd_dm.specs.Script.{Script, write, text_work}
use Rattle.cmd_dm.specs.Steps.{graph_step}

-- its step: graph
abbrev pub show_script : List ℕ → Script
show_script name = graph_step name (λ triples. write (text_work (flat_map triple_text triples)))
