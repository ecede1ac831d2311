use Rattle.std.proofs.Common.{◌∙◌, ◌∷◌, ap}
use Rattle.std.proofs.lemmas.Result.{IfOk-weaker}
use Rattle.table_csv.specs.CanonicalText.{text_of}
use Rattle.table_csv.specs.TableFiles.{Record, name_fields}
use Rattle.table_csv.proofs.TextLemmas.{same_read}
use Rattle.table_csv.proofs.writing.table_text.Goals as goal

pub returns-clause-read_back : goal.returns-clause-read_back
returns-clause-read_back c =
    let lines = c.deref.ensures.value ∙ (c.in_ok-insert.ensures.items ∙ ap (λ (h : Record). h ∷ c.sort.new.self.items) (c.in_ok-header.ensures.line ∙ ap name_fields c.as_slice.ensures)) in
    IfOk-weaker c.lines_text.result _ _
    (λ v e. same_read c.args.table.now.columns c.args.rows.now c.sort.new.self.items v.items c.requires.columns c.requires.rows (rw c.as_slice.ensures at c.in_ok-header.ensures.named)
    (rw c.as_slice-2.ensures at c.in_ok-lines.ensures.written) (rw (c.in_ok-lines.ensures.lines, c.as_slice-2.ensures) at c.in_ok-sort.ensures.permutation) (e ∙ ap text_of lines))
    c.lines_text.ensures
