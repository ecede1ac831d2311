use Rattle.std.proofs.Common.{◌∙◌}
use Rattle.std.specs.Cmp.Lexicographic.{bytes_decides}
use Rattle.bench_lines_dm.proofs.PlainTables.{one_text}
use Rattle.bench_lines_dm.proofs.inverted.are_same_rows.Goals as goal

pub returns : goal.returns
returns c = λ same.
    c.eq.ensures ∙ (bytes_decides _ _).1 (one_text c.args.table.now.columns c.args.rows.now c.args.others.now _ _ same c.in_ok-text.ensures.canonical c.in_ok-other.ensures.canonical)
