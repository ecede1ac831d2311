use Rattle.std.proofs.Common.{sym}
use Rattle.std.proofs.lemmas.Str.{encodes-chars, scalars-chars}
use Rattle.value_dm.proofs.text.Text.as_str.Goals as goal

pub returns-clause-bytes : goal.returns-clause-bytes
returns-clause-bytes c = rw (← c.self.view_is, ← c.as_str.ensures.value) (sym (encodes-chars _ c.as_str.utf8))

pub returns-clause-scalars : goal.returns-clause-scalars
returns-clause-scalars c = rw (← c.self.view_is, ← c.as_str.ensures.value) (scalars-chars _ c.as_str.utf8)
