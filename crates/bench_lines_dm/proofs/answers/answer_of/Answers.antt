use Rattle.std.proofs.Common.{◌∙◌}
use Rattle.std.specs.Cmp.Lexicographic.{bytes_decides}
use Rattle.query_lines_dm.proofs.OneText.{query_lines_one}
use Rattle.bench_lines_dm.proofs.answers.answer_of.Goals as goal

pub returns-clause-count : goal.returns-clause-count
returns-clause-count c = record { rows = c.in_ok-tuples.tuples; are = c.in_ok-tuples.ensures; counted = c.len.ensures }

pub returns-clause-same : goal.returns-clause-same
returns-clause-same c = c.eq.ensures ∙ (bytes_decides _ _).1 (query_lines_one c.args.database.now c.args.query.now _ _ c.in_ok-solutions.ensures c.in_ok-lines.ensures)
