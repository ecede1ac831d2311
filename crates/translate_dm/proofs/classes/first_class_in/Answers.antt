use Rattle.std.proofs.Common.{◌∙◌, ◌<◌, ℕ, List, ap, arith, length, subst, sym}
use Rattle.std.proofs.lemmas.Bool.{false≢true}
use Rattle.schema_dm.specs.declared.table.Table.{Table}
use Rattle.graphs_dm.specs.Relations.{CountsAsClass}
use Rattle.table_patterns_dm.specs.TablePatterns.{graph_of}
use Rattle.translate_dm.proofs.FirstClass.{none_before}
use Rattle.translate_dm.proofs.classes.first_class_in.Goals as goal

pub loop-place-preserved : goal.loop-place-preserved
loop-place-preserved c = none_before (λ (s : ℕ). CountsAsClass (graph_of c.args.mode) c.args.schema.now s) c.loop-place.place c.loop-place.invariant (λ k. false≢true (sym c.if-is_class.false ∙ c.is_class.ensures.1 k))

pub returns-then-is_class-clause-found : goal.returns-then-is_class-clause-found
returns-then-is_class-clause-found c = record {
  within = subst (λ (ts : List Table). c.loop-place.place < length ts) c.tables-place-end.ensures.value (c.loop-place-test.true);
  class = c.is_class.ensures.0 c.if-is_class.true;
  first = c.loop-place.invariant;
}

pub is_class-requires-clause-place : goal.is_class-requires-clause-place
is_class-requires-clause-place c = subst (λ (ts : List Table). c.loop-place.place < length ts) c.tables-place-end.ensures.value c.loop-place-test.true

pub returns-clause-none : goal.returns-clause-none
returns-clause-none c = λ s l. c.loop-place.invariant s (omega (arith, l, c.loop-place-test.false, ap (λ (ts : List Table). length ts) c.tables-place-end.ensures.value))
