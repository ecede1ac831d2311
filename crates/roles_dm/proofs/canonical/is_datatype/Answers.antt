use Rattle.roles_dm.proofs.CanonicalLemmas.{datatype_told}
use Rattle.roles_dm.proofs.canonical.is_datatype.Goals as goal

pub returns : goal.returns
returns c = datatype_told c.args.kind c.as_str.result.now c.as_str-2.result.now c.args.datatype.now c.eq.result c.as_str.utf8 c.as_str-2.utf8 c.as_str.ensures.chars c.as_str-2.ensures c.eq.ensures
