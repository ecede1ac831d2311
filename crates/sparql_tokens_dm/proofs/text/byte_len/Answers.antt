use Rattle.std.proofs.Common.{length, sym, ap}
use Rattle.std.proofs.lemmas.Str.{encodes-chars}
use Rattle.sparql_tokens_dm.proofs.text.byte_len.Goals as goal

pub returns-clause-bytes : goal.returns-clause-bytes
returns-clause-bytes c = ap length (sym (encodes-chars c.args.text.now c.utf8.text))
