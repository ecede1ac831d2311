use Rattle.std.proofs.Common.{arith}
use Rattle.table_csv.proofs.reading.add_row.Goals as goal

pub returns-then-len-ge-MOST_ROWS-clause-err : goal.returns-then-len-ge-MOST_ROWS-clause-err
returns-then-len-ge-MOST_ROWS-clause-err c = omega (arith, c.len.ensures, c.requires.few)
