-- `consistent GRAPH`: whether some interpretation satisfies the triples of a file of N-Triples, or else the first that is a conflict.
use Rattle.std.specs.Prelude.{ℕ, List, ◌++◌, codes, decimal}
use Rattle.consistency_dm.specs.declared.verdict.ConflictKind.{ConflictKind}
use Rattle.consistency_dm.specs.declared.verdict.ConflictKind.TheVariants.{SameNode, Range}
use Rattle.consistency_dm.specs.declared.verdict.Verdict.{Verdict}
use Rattle.consistency_dm.specs.declared.verdict.Verdict.TheVariants.{Yes, Conflict}
use Rattle.cmd_dm.specs.Questions.{verdict_of}
use Rattle.cmd_dm.specs.Script.{Script, ask, write, text_work}
use Rattle.cmd_dm.specs.Steps.{graph_step}

abbrev pub conflict_text : ConflictKind → List ℕ
conflict_text SameNode = codes "same-node"
conflict_text Range = codes "range"

-- one line
abbrev pub verdict_text : Verdict → List ℕ
verdict_text Yes = codes "consistent\n"
verdict_text (Conflict number kind) = codes "conflict " ++ decimal number ++ codes " " ++ conflict_text kind ++ codes "\n"

-- its step: graph
abbrev pub consistent_script : List ℕ → Script
consistent_script name = graph_step name (λ triples. ask (verdict_of triples) (λ verdict. write (text_work (verdict_text verdict))))
