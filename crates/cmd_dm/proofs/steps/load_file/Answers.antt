use Rattle.cmd_dm.proofs.Endings.{ends_absent, ends_too_long}
use Rattle.cmd_dm.proofs.steps.load_file.Goals as goal

pub returns-in-Err-Absent : goal.returns-in-Err-Absent
returns-in-Err-Absent g c = λ target next out.
    ends_absent target c.args.file c.args.name.now next out c.load.ensures.kept
    (rw c.in-Err-Absent.field-0-is at c.in-Err-Absent.ensures.counted) (rw c.in-Err-Absent.field-0-is at c.in-Err-Absent.ensures.only_where_absent)

pub returns-in-Err-TooLong : goal.returns-in-Err-TooLong
returns-in-Err-TooLong g c = λ target next out.
    ends_too_long target c.args.file c.args.name.now next out c.load.ensures.kept
    (rw c.in-Err-TooLong.field-0-is at c.in-Err-TooLong.ensures.counted) (rw c.in-Err-TooLong.field-0-is at c.in-Err-TooLong.ensures.only_where_too_long)
