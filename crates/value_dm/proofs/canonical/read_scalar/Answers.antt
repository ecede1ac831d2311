use Rattle.std.proofs.Common.{sym, ◌∙◌, arith}
use Rattle.value_dm.proofs.Ascii.{spelled_bytes, spelled_characters}
use Rattle.value_dm.proofs.canonical.read_scalar.Goals as goal

pub returns-then-not-is_ascii : goal.returns-then-not-is_ascii
returns-then-not-is_ascii c =
    λ v kind spelled.
    let h = spelled_bytes c.args.text.now c.utf8.text v (λ k. c.requires.text (sym kind ∙ k)) spelled in
    omega (arith, h.0 c.if-not-is_ascii.ensures.cases.0, c.if-not-is_ascii.ensures.cases.1)

pub returns-in-Some : goal.returns-in-Some
returns-in-Some c =
    (c.in-Some.ensures.0, spelled_characters c.args.text.now c.if-not-is_ascii.ensures.cases c.in-Some.value c.in-Some.ensures.1)

pub returns-in-None : goal.returns-in-None
returns-in-None c =
    λ v kind spelled. c.in-None.ensures v kind (spelled_bytes c.args.text.now c.utf8.text v (λ k. c.requires.text (sym kind ∙ k)) spelled).1
