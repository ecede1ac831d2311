use Rattle.std.proofs.Common.{◌≡◌, IfOk, ℕ, List, subst}
use Rattle.bench_dm.proofs.Texts.{chars_letters}
use Rattle.bench_lines_dm.proofs.queries.name.Goals as goal

pub returns : goal.returns
returns c = subst (λ (letters : List ℕ). IfOk c.from_str.result (λ text. text ≡ letters)) (chars_letters c.args.letters.now c.requires) c.from_str.ensures.chars
