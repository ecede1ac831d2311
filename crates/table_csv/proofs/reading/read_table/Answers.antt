use Rattle.table_csv.specs.TableFiles.{records_of}
use Rattle.table_csv.proofs.HeaderLemmas.{fields_differ}
use Rattle.table_csv.proofs.OneFile.{file_one, only_memory}
use Rattle.table_csv.proofs.OneFault.{one_fault}
use Rattle.table_csv.proofs.FittingRows.{read_rows_fit}
use Rattle.table_csv.proofs.reading.read_table.Goals as goal

pub read_records-requires : goal.read_records-requires
read_records-requires c = rw c.as_slice.ensures (fields_differ c.args.table.now.columns c.requires)

pub returns-in-Ok-clause-only : goal.returns-in-Ok-clause-only
returns-in-Ok-clause-only c rows h =
    file_one c.args.table.now.columns c.args.mode (records_of c.args.bytes.now) c.in-Ok.rows rows (fields_differ c.args.table.now.columns c.requires) (rw c.as_slice.ensures at c.in-Ok.ensures.ok) h

pub returns-in-Err-Refused-clause-only : goal.returns-in-Err-Refused-clause-only
returns-in-Err-Refused-clause-only c rows h =
    only_memory c.args.table.now.columns c.args.mode (records_of c.args.bytes.now) rows c.in-Err-Refused.error h (rw (c.in-Err-Refused.field-0-is, c.as_slice.ensures) at c.in-Err-Refused.ensures.err)

pub returns-in-Ok-clause-first : goal.returns-in-Ok-clause-first
returns-in-Ok-clause-first c error other h =
    other (only_memory c.args.table.now.columns c.args.mode (records_of c.args.bytes.now) c.in-Ok.rows error (rw c.as_slice.ensures at c.in-Ok.ensures.ok) h)

pub returns-in-Err-Refused-clause-first : goal.returns-in-Err-Refused-clause-first
returns-in-Err-Refused-clause-first c error other h =
    one_fault c.args.table.now.columns c.args.mode (records_of c.args.bytes.now) c.in-Err-Refused.error error (fields_differ c.args.table.now.columns c.requires)
    (rw (c.in-Err-Refused.field-0-is, c.as_slice.ensures) at c.in-Err-Refused.ensures.err) h other

pub returns-in-Ok-clause-fit : goal.returns-in-Ok-clause-fit
returns-in-Ok-clause-fit c =
    read_rows_fit c.args.table.now.columns c.args.mode (records_of c.args.bytes.now) c.in-Ok.rows (fields_differ c.args.table.now.columns c.requires) (rw c.as_slice.ensures at c.in-Ok.ensures.ok)
