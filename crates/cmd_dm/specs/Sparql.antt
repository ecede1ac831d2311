-- `sparql GRAPH PATTERN`: the solutions of the pattern of a file over the triples of a file, as tab separated values.
use Rattle.std.specs.Prelude.{ℕ, List}
use Rattle.sparql_text_dm.specs.declared.parsed.Parsed.{Parsed}
use Rattle.cmd_dm.specs.Questions.{solutions_of}
use Rattle.cmd_dm.specs.Script.{Script, ask, write, text_work}
use Rattle.cmd_dm.specs.Steps.{graph_step, parsed_step}

-- behind the pattern the graph, and the pattern's solutions
abbrev pub solutions_script : List ℕ → Parsed → Script
solutions_script document parsed = graph_step document (λ triples. ask (solutions_of parsed triples) (λ text. write (text_work text)))

-- its steps: pattern, graph
abbrev pub sparql_script : List ℕ → List ℕ → Script
sparql_script document name = parsed_step name (solutions_script document)
