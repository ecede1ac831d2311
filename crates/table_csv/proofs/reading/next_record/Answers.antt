use Rattle.csv.specs.Records.{fields_of}
use Rattle.table_csv.proofs.RecordLemmas.{read_next, read_stops}
use Rattle.table_csv.proofs.reading.next_record.Goals as goal

pub returns-in-Ok : goal.returns-in-Ok
returns-in-Ok c = λ bytes file at.
    read_next bytes file c.args.reader.now c.read_byte_record.new.self c.in-Ok.found (fields_of c.read_byte_record.new.row) at c.in-Ok.ensures.reads c.in-Ok.ensures.ready c.in-Ok.ensures.flexible

pub returns-in-Err : goal.returns-in-Err
returns-in-Err c = λ bytes file at. read_stops c.args.reader.now c.read_byte_record.new.self _ (c.in-Err.ensures.why at.ready) at.flexible
