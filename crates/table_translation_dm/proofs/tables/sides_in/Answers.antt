use Rattle.std.proofs.Common.{arith, subst, sym}
use Rattle.std.specs.Prelude.{IfNone}
use Rattle.algebra_dm.specs.declared.query.Mode.{Mode}
use Rattle.graphs_dm.specs.Relations.{CountsAsClass}
use Rattle.table_patterns_dm.specs.TablePatterns.{graph_of}
use Rattle.query_rows_dm.proofs.EvaluationLemmas.{place_small}
use Rattle.table_translation_dm.proofs.tables.sides_in.Goals as goal

pub overflow_cast-place : goal.overflow_cast-place
overflow_cast-place c = let small = place_small c.args.schema.now c.requires.schema c.args.place c.requires.place in omega (arith, small)

pub returns-in-Map-clause-none : goal.returns-in-Map-clause-none
returns-in-Map-clause-none c = subst (λ (m : Mode). IfNone c.is_binary.result (CountsAsClass (graph_of m) c.args.schema.now c.args.place)) (sym c.in-Map.is) c.is_binary.ensures.none
