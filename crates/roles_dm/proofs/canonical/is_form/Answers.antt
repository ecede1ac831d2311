use Rattle.roles_dm.proofs.CanonicalLemmas.{text_form}
use Rattle.roles_dm.proofs.canonical.is_form.Goals as goal

pub returns-then-is_text : goal.returns-then-is_text
returns-then-is_text c = text_form c.args.kind c.args.text.now (c.is_text.ensures.0 c.if-is_text.true) c.as_str-characters.ensures.scalars
