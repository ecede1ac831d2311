use Rattle.std.proofs.Common.{◌≡◌, ◌==◌, map, replicate, ap, ◌∙◌}
use Rattle.std.proofs.lemmas.Result.{IfOk-weaker}
use Rattle.lanes_dm.specs.Flags.{flag}
use Rattle.solutions_dm.specs.Columns.{number_at}
use Rattle.query_rows_dm.specs.Operators.{Marks}
use Rattle.query_rows_dm.proofs.FilterLemmas.{equal_none, equal_some}
use Rattle.query_rows_dm.proofs.filters.equal_rows.Goals as goal

pub returns-in-None : goal.returns-in-None
returns-in-None c =
    let rows = c.args.rows.now in
    IfOk-weaker c.filled.result (λ mask. mask.items ≡ replicate c.len.result (flag (c.args.id == 0))) (λ mask. Marks rows.rows (λ i. number_at rows.columns i c.args.var.now ≡ c.args.id) mask.items)
    (λ mask e. equal_none rows c.args.var.now c.args.id mask.items c.in-None.ensures (e ∙ ap (λ n. replicate n (flag (c.args.id == 0))) c.len.ensures))
    c.filled.ensures

pub returns-in-Some : goal.returns-in-Some
returns-in-Some c =
    let rows = c.args.rows.now in
    let numbers = c.in-Some.numbers.now in
    IfOk-weaker c.equal.result (λ mask. mask.items ≡ map (λ n. flag (n == c.args.id)) numbers) (λ mask. Marks rows.rows (λ i. number_at rows.columns i c.args.var.now ≡ c.args.id) mask.items)
    (λ mask e. equal_some rows c.args.var.now c.args.id mask.items numbers c.in-Some.ensures.1 c.in-Some.ensures.2 e)
    c.equal.ensures
