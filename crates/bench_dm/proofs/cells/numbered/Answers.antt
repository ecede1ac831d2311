use Rattle.std.proofs.Common.{◌∙◌, ◌<◌, ◌^◌, ap, arith}
use Rattle.std.specs.Prelude.{chars}
use Rattle.bench_dm.proofs.Texts.{chars_numbered}
use Rattle.bench_dm.proofs.cells.numbered.Goals as goal

pub returns : goal.returns
returns c =
    let small : c.args.number < 2 ^ 64 = omega arith in
    c.from_string.ensures ∙ ap (λ bytes. chars bytes) c.in_ok-format.ensures.ok ∙ chars_numbered c.args.letter.now c.args.number c.requires small
