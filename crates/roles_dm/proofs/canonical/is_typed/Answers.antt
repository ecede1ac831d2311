use Rattle.roles_dm.proofs.CanonicalLemmas.{text_not_typed, typed_told}
use Rattle.roles_dm.proofs.ColumnLemmas.{fails}
use Rattle.roles_dm.proofs.canonical.is_typed.Goals as goal

pub returns-then-is_text : goal.returns-then-is_text
returns-then-is_text c = text_not_typed c.args.kind c.args.datatype.now (c.is_text.ensures.0 c.if-is_text.true)

pub returns : goal.returns
returns c = typed_told c.args.kind c.args.datatype.now c.is_datatype.result (fails c.is_text.result c.is_text.ensures c.if-is_text.false) c.is_datatype.ensures
