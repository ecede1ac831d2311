use Rattle.std.proofs.lemmas.Result.{IfOk-weaker}
use Rattle.tsv_dm.specs.Lines.{IsTsv}
use Rattle.pattern_lines_dm.specs.Lines.{AreSolutionLines}
use Rattle.pattern_lines_dm.proofs.Rows.{solution_lines_made}
use Rattle.pattern_lines_dm.proofs.lines.solution_lines.Goals as goal

pub returns : goal.returns
returns c =
    let g = c.in_ok-graph.graph in
    let p = c.args.pattern.now in
    let header = c.args.header.now in
    let s = c.in_ok-solutions.solutions in
    let grid = c.in_ok-grid.grid in
    IfOk-weaker c.tsv.result (λ text. IsTsv header grid text.items) (λ text. AreSolutionLines c.args.triples p header text.items)
    (λ text. solution_lines_made g c.args.triples c.in_ok-graph.ensures p header s c.in_ok-solutions.ensures grid text.items c.in_ok-grid.ensures)
    c.tsv.ensures
