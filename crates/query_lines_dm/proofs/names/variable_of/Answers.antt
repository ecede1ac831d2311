use Rattle.query_rows_dm.proofs.VariableLemmas.{some_bytes}
use Rattle.query_lines_dm.proofs.names.variable_of.Goals as goal

pub variable-requires : goal.variable-requires
variable-requires c = rw c.as_str.ensures.bytes (some_bytes c.args.name.now c.requires)
