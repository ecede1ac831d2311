use Rattle.pattern_parts_dm.proofs.TextLemmas.{some_bytes}
use Rattle.pattern_parts_dm.proofs.variables.variable_of.Goals as goal

pub variable-requires : goal.variable-requires
variable-requires c = rw c.as_str.ensures.bytes (some_bytes c.args.name.now c.requires)
