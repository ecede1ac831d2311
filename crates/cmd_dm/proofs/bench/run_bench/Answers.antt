use Rattle.std.proofs.Common.{string_bytes}
use Rattle.std.proofs.lemmas.Result.{err_from_is_err_and}
use Rattle.bench_dm.specs.Generated.{generated}
use Rattle.cmd_dm.specs.Questions.{bench_of}
use Rattle.cmd_dm.specs.Script.{write, text_work}
use Rattle.cmd_dm.proofs.Endings.{ends_after, ends_memory, ends_writes, leads_ask}
use Rattle.cmd_dm.proofs.bench.run_bench.Goals as goal

pub returns-in_err-text : goal.returns-in_err-text
returns-in_err-text g c =
    let error = err_from_is_err_and c.from_residual.result c.from_residual.ensures.1 in
    λ state. rw (error.1, error.2) (ends_memory _ _ _ _)

pub returns : goal.returns
returns g c =
    let text = string_bytes c.in_ok-text.text in
    λ state. ends_after (leads_ask (bench_of (generated c.args.n)) text (λ text. write (text_work text)) _ c.in_ok-text.ensures)
    (rw c.end_of_puts.ensures (rw c.as_bytes.ensures.value at (ends_writes c.as_bytes.result.now state c.put.result (record { puts = c.put.ensures.puts; kept = c.put.ensures.kept }))))
