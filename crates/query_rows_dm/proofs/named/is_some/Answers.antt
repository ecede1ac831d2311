use Rattle.query_rows_dm.proofs.VariableLemmas.{bytes_tell}
use Rattle.query_rows_dm.proofs.named.is_some.Goals as goal

pub returns : goal.returns
returns c = bytes_tell c.args.name.now c.as_str.result.now c.is_empty.result c.as_str.ensures.bytes c.is_empty.ensures
