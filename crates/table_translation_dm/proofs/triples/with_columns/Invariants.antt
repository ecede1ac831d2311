use Rattle.std.proofs.Common.{◌≡◌, drop}
use Rattle.table_patterns_dm.specs.TablePatterns.{with_columns}
use Rattle.table_translation_dm.proofs.triples.with_columns.Given as goal

abbrev pub invariant-loop-column : goal.invariant-loop-column
invariant-loop-column l = with_columns l.base l.table l.all (drop l.column-index l.columns) ≡ with_columns l.base l.table l.fn.pattern l.columns
