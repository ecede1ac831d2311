use Rattle.std.proofs.lemmas.Str.{encodes-chars}
use Rattle.value_dm.proofs.text.Text.from_str.Goals as goal

pub returns-clause-bytes : goal.returns-clause-bytes
returns-clause-bytes c = rw c.in_ok-from_str.ensures.ok (encodes-chars _ c.utf8.text)
