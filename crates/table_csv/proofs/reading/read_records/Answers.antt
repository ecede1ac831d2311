use Rattle.std.proofs.Common.{◌∙◌, ap, subst, inr, ◌∷◌, ◌++◌, [], arith, Bool, Ok}
use Rattle.std.proofs.lemmas.Slice.Zip.{all_zipped_more}
use Rattle.csv.specs.Reading.{builder_is_flexible}
use Rattle.csv.specs.Records.{fields_of}
use Rattle.table_csv.specs.TableFiles.{SpellsRow}
use Rattle.table_csv.specs.Headers.{header_of}
use Rattle.table_csv.specs.Reading.{IsNext}
use Rattle.table_csv.proofs.HeaderLemmas.{order_header}
use Rattle.table_csv.proofs.RecordLemmas.{at_start, header_fault, record_refused, rows_whole, stop_of}
use Rattle.table_csv.proofs.reading.read_records.Goals as goal

pub returns-in-Ok-false-clause-err : goal.returns-in-Ok-false-clause-err
returns-in-Ok-false-clause-err c =
    let made = c.from_reader-reader.ensures in
    let headers = c.has_headers.ensures in
    let flexible = c.flexible.ensures in
    let start = at_start c.args.bytes.now c.from_reader-reader.result (rw (flexible, headers) at made.trim ∙ c.new.ensures.trim) (inr (inr (rw (flexible, headers) at made.has_headers, made.headers)))
    (rw (flexible, headers) at made.config ∙ c.new.ensures.config) made.source made.state (made.flexible ∙ ap builder_is_flexible flexible) in
    subst (λ (found : Bool). IsNext c.args.bytes.now [] (fields_of c.next_record.new.row) c.next_record.new.reader (Ok found)) c.in-Ok-false.field-0-test (c.in-Ok-false.ensures c.args.bytes.now [] start)

pub returns-in-Err-clause-err : goal.returns-in-Err-clause-err
returns-in-Err-clause-err c =
    let made = c.from_reader-reader.ensures in
    let headers = c.has_headers.ensures in
    let flexible = c.flexible.ensures in
    let start = at_start c.args.bytes.now c.from_reader-reader.result (rw (flexible, headers) at made.trim ∙ c.new.ensures.trim) (inr (inr (rw (flexible, headers) at made.has_headers, made.headers)))
    (rw (flexible, headers) at made.config ∙ c.new.ensures.config) made.source made.state (made.flexible ∙ ap builder_is_flexible flexible) in
    stop_of c.args.columns.now c.args.mode c.args.bytes.now [] (fields_of c.next_record.new.row) c.next_record.new.reader c.in-Err.stop (c.in-Err.ensures c.args.bytes.now [] start)

pub returns-in-Err-read_header-clause-err : goal.returns-in-Err-read_header-clause-err
returns-in-Err-read_header-clause-err c =
    let made = c.from_reader-reader.ensures in
    let headers = c.has_headers.ensures in
    let flexible = c.flexible.ensures in
    let start = at_start c.args.bytes.now c.from_reader-reader.result (rw (flexible, headers) at made.trim ∙ c.new.ensures.trim) (inr (inr (rw (flexible, headers) at made.has_headers, made.headers)))
    (rw (flexible, headers) at made.config ∙ c.new.ensures.config) made.source made.state (made.flexible ∙ ap builder_is_flexible flexible) in
    let read = subst (λ (found : Bool). IsNext c.args.bytes.now [] (fields_of c.next_record.new.row) c.next_record.new.reader (Ok found)) c.in-Ok-true.field-0-test (c.in-Ok-true.ensures c.args.bytes.now [] start) in
    header_fault c.args.columns.now c.args.mode c.args.bytes.now (fields_of c.next_record.new.row) c.next_record.new.reader c.in-Err-read_header.error read c.in-Err-read_header.ensures.err

pub loop-rows-init : goal.loop-rows-init
loop-rows-init c =
    let made = c.from_reader-reader.ensures in
    let headers = c.has_headers.ensures in
    let flexible = c.flexible.ensures in
    let start = at_start c.args.bytes.now c.from_reader-reader.result (rw (flexible, headers) at made.trim ∙ c.new.ensures.trim) (inr (inr (rw (flexible, headers) at made.has_headers, made.headers)))
    (rw (flexible, headers) at made.config ∙ c.new.ensures.config) made.source made.state (made.flexible ∙ ap builder_is_flexible flexible) in
    let read = subst (λ (found : Bool). IsNext c.args.bytes.now [] (fields_of c.next_record.new.row) c.next_record.new.reader (Ok found)) c.in-Ok-true.field-0-test (c.in-Ok-true.ensures c.args.bytes.now [] start) in
    rw c.new-rows.ensures ([], rw c.in-Ok.ensures.names at read, tt, omega arith)

pub returns-in-Ok-false-next_record-clause-ok : goal.returns-in-Ok-false-next_record-clause-ok
returns-in-Ok-false-next_record-clause-ok c =
    let inv = c.loop-rows.invariant in
    let header = header_of c.args.columns.now c.in-Ok.order.items in
    let whole = subst (λ (found : Bool). IsNext c.args.bytes.now (header ∷ inv.0) (fields_of c.next_record-in-loop-rows.new.row) c.next_record-in-loop-rows.new.reader (Ok found)) c.in-Ok-false-next_record.field-0-test
    (c.in-Ok-false-next_record.ensures c.args.bytes.now (header ∷ inv.0) inv.1) in
    rows_whole c.args.columns.now c.args.mode _ header inv.0 c.loop-rows.rows whole (order_header c.args.columns.now c.in-Ok.order.items c.in-Ok.ensures.order) inv.2 inv.3

pub returns-in-Err-next_record-clause-err : goal.returns-in-Err-next_record-clause-err
returns-in-Err-next_record-clause-err c =
    let inv = c.loop-rows.invariant in
    let header = header_of c.args.columns.now c.in-Ok.order.items in
    stop_of c.args.columns.now c.args.mode c.args.bytes.now (header ∷ inv.0) (fields_of c.next_record-in-loop-rows.new.row) c.next_record-in-loop-rows.new.reader c.in-Err-next_record.stop
    (c.in-Err-next_record.ensures c.args.bytes.now (header ∷ inv.0) inv.1)

pub returns-in-Err-add_row-clause-err : goal.returns-in-Err-add_row-clause-err
returns-in-Err-add_row-clause-err c =
    let inv = c.loop-rows.invariant in
    let header = header_of c.args.columns.now c.in-Ok.order.items in
    let next = subst (λ (found : Bool). IsNext c.args.bytes.now (header ∷ inv.0) (fields_of c.next_record-in-loop-rows.new.row) c.next_record-in-loop-rows.new.reader (Ok found)) c.in-Ok-true-next_record.field-0-test
    (c.in-Ok-true-next_record.ensures c.args.bytes.now (header ∷ inv.0) inv.1) in
    record_refused c.args.columns.now c.args.mode c.args.bytes.now header (fields_of c.next_record-in-loop-rows.new.row) inv.0 c.loop-rows.rows c.next_record-in-loop-rows.new.reader c.in-Err-add_row.error
    next (order_header c.args.columns.now c.in-Ok.order.items c.in-Ok.ensures.order) inv.2 (rw c.deref.ensures.value at c.in-Err-add_row.ensures.err)

pub loop-rows-preserved : goal.loop-rows-preserved
loop-rows-preserved c =
    let inv = c.loop-rows.invariant in
    let header = header_of c.args.columns.now c.in-Ok.order.items in
    let next = subst (λ (found : Bool). IsNext c.args.bytes.now (header ∷ inv.0) (fields_of c.next_record-in-loop-rows.new.row) c.next_record-in-loop-rows.new.reader (Ok found)) c.in-Ok-true-next_record.field-0-test
    (c.in-Ok-true-next_record.ensures c.args.bytes.now (header ∷ inv.0) inv.1) in
    let added = rw c.deref.ensures.value at c.in-Ok-add_row.ensures.ok in (
      inv.0 ++ fields_of c.next_record-in-loop-rows.new.row ∷ [],
      next,
      rw added.2 (all_zipped_more (SpellsRow c.args.columns.now c.args.mode header) inv.0 c.loop-rows.rows (fields_of c.next_record-in-loop-rows.new.row) added.0 inv.2 added.1),
      c.in-Ok-add_row.ensures.few,
    )
