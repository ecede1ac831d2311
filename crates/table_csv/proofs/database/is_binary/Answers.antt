use Rattle.std.proofs.Common.{Fits, w8, arith, get_or}
use Rattle.table_csv.proofs.database.is_binary.Goals as goal

pub returns-clause-lawful : goal.returns-clause-lawful
returns-clause-lawful c i = let fits : Fits w8 (get_or c.args._bytes.now i 0) = c.type_inv._bytes i in search (arith, fits)
