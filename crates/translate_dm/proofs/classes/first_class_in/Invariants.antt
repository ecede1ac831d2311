use Rattle.std.proofs.Common.{◌<◌, ℕ}
use Rattle.graphs_dm.specs.Relations.{CountsAsClass}
use Rattle.table_patterns_dm.specs.TablePatterns.{graph_of}
use Rattle.translate_dm.proofs.classes.first_class_in.Given as goal

abbrev pub invariant-loop-place : goal.invariant-loop-place
invariant-loop-place l = (s : ℕ) → s < l.place → ¬ CountsAsClass (graph_of l.mode) l.schema s
