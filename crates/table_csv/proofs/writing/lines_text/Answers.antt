use Rattle.std.proofs.Common.{◌≡◌, ◌≢◌, ◌∙◌, ◌++◌, take, ap, false, refl, sym, Some, List, ℕ}
use Rattle.std.specs.Result.{is_err}
use Rattle.std.proofs.lemmas.List.{take_all}
use Rattle.csv.proofs.ReadFacts.{on-ok}
use Rattle.csv.specs.declared.writer.QuoteStyle.TheVariants as style
use Rattle.table_csv.specs.CanonicalText.{text_of}
use Rattle.table_csv.proofs.LineLemmas.{text_more}
use Rattle.table_csv.proofs.writing.lines_text.Goals as goal

pub loop-line-init : goal.loop-line-init
loop-line-init c =
    let made = c.from_writer-writer.ensures in
    (made.fields, made.wrote, made.cfg ∙ c.new.ensures, rw (made.wtr, c.new-2.ensures.items, made.empty) refl)

pub loop-line-preserved : goal.loop-line-preserved
loop-line-preserved c =
    let inv = c.loop-line.invariant in
    let good : is_err c.write_byte_record.result ≡ false = sym c.is_err.ensures.value ∙ c.if-is_err.false in
    let ended = on-ok c.write_byte_record.result good c.write_byte_record.ensures.ended in
    let clean = on-ok c.write_byte_record.result good c.write_byte_record.ensures.clean in
    let setup = on-ok c.write_byte_record.result good c.write_byte_record.ensures.setup in
    let plain : c.loop-line.writer.cfg.style ≢ style.NonNumeric = rw inv.2 (λ e. cc e) in
    let bytes = on-ok c.write_byte_record.result good c.write_byte_record.ensures.bytes in
    let grown = rw inv.2 at (bytes inv.0 inv.1 plain) in
    let before : c.loop-line.writer.wtr.inner.items ++ c.loop-line.writer.wtr.buf ≡ text_of (take c.loop-line.line-index c.args.lines.now) = cc inv.3 in (
      ended,
      clean,
      setup ∙ inv.2,
      ap (λ (t : List ℕ). Some t) (
          rw (text_more c.args.lines.now c.loop-line.line-index c.line-item.result c.loop-line-test.true c.line-item.is, ← before, ← c.fields.ensures, ← c.in_ok-record.ensures) grown),
    )

pub returns-in-Ok : goal.returns-in-Ok
returns-in-Ok c =
    let inv = c.loop-line.invariant in
    let before : c.loop-line.writer.wtr.inner.items ++ c.loop-line.writer.wtr.buf ≡ text_of (take c.loop-line.line-index c.args.lines.now) = cc inv.3 in
    c.in-Ok.ensures.ok ∙ before ∙ ap text_of (take_all c.loop-line.line-index c.args.lines.now c.loop-line-test.false)
