use Rattle.std.proofs.Common.{◌≡◌, Some, false, take}
use Rattle.csv.specs.Writing.{default_writer, fields_written, has_written, text_written, writer_setup}
use Rattle.table_csv.specs.CanonicalText.{text_of}
use Rattle.table_csv.proofs.writing.lines_text.Given as goal

-- the writer stands before a record, and has written the lines so far
abbrev pub invariant-loop-line : goal.invariant-loop-line
invariant-loop-line l = (fields_written l.writer ≡ 0) × (has_written l.writer ≡ false) × (writer_setup l.writer ≡ default_writer)
    × (text_written (λ v. Some v.items) l.writer ≡ Some (text_of (take l.line-index l.lines)))
