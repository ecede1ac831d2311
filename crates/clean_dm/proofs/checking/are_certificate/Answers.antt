use Rattle.std.proofs.Common.{◌≡◌, true, false}
use Rattle.std.proofs.lemmas.Result.{IfOk-weaker}
use Rattle.clean_dm.proofs.CertificateParts.{agree_from, certificate_from, reasons_from, unique_from}
use Rattle.clean_dm.proofs.KeptLoops.{row_within}
use Rattle.clean_dm.proofs.checking.are_certificate.Goals as goal

pub returns-then-not-have_reasons : goal.returns-then-not-have_reasons
returns-then-not-have_reasons c =
    let D = c.args.database.now in
    let within = row_within D c.schema-schema.ensures.fits in (
      (λ h. absurd (let no : false ≡ true = h in cc)),
      (λ certificate. absurd (let yes : c.have_reasons.result ≡ true = c.have_reasons.ensures.1 (reasons_from D c.args.removals.now c.args.turns.now c.requires certificate within) in let no = c.if-not-have_reasons.true in cc)),
    )

pub returns-then-not-branch : goal.returns-then-not-branch
returns-then-not-branch c = (
  (λ h. absurd (let no : false ≡ true = h in cc)),
  (λ certificate. absurd (let yes : c.in_ok-stay_unique.field-0 ≡ true = c.in_ok-stay_unique.ensures.1 (unique_from c.args.database.now c.args.removals.now c.args.turns.now c.requires certificate) in let no = c.if-not-branch.true in cc)),
)

pub returns : goal.returns
returns c =
    let D = c.args.database.now in
    let removals = c.args.removals.now in
    let turns = c.args.turns.now in
    let within = row_within D c.schema-schema.ensures.fits in
    IfOk-weaker c.tables_agree.result _ _
    (λ agree told. (
      (λ h. certificate_from D removals turns c.requires (c.have_reasons.ensures.0 c.if-not-have_reasons.false) (c.in_ok-stay_unique.ensures.0 c.if-not-branch.false) (told.0 h) within),
      (λ certificate. told.1 (agree_from D removals turns c.requires certificate)),
    ))
    c.tables_agree.ensures
