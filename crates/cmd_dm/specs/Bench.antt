-- `bench N`: what is counted of the benchmark's database.
use Rattle.std.specs.Prelude.{ℕ}
use Rattle.bench_dm.specs.Generated.{generated}
use Rattle.cmd_dm.specs.Questions.{bench_of}
use Rattle.cmd_dm.specs.Script.{Script, ask, write, text_work}

-- it has no steps
abbrev pub bench_script : ℕ → Script
bench_script n = ask (bench_of (generated n)) (λ text. write (text_work text))
