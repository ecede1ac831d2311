use Rattle.std.proofs.Common.{string_bytes}
use Rattle.ddl_tokens_dm.specs.Tokens.{doubled}
use Rattle.ddl_dm.specs.Canonical.{Adds}
use Rattle.ddl_dm.proofs.canonical.push_characters.Given as goal

-- the characters so far are added
abbrev pub invariant-loop-character : goal.invariant-loop-character
invariant-loop-character l = Adds (string_bytes l.initial.text) (string_bytes l.text) (doubled l.yielded)
