use Rattle.std.proofs.Common.{◌≡◌, ◌&&◌, ◌++◌, ℕ, List, true}
use Rattle.names_dm.proofs.Words.{rest_is_tag}
use Rattle.names_dm.proofs.tag.is_tag.Given as goal

-- whether the whole is a tag, by what comes after the characters so far
abbrev pub invariant-loop-c : goal.invariant-loop-c
invariant-loop-c l = (rest : List ℕ) → rest_is_tag true true (l.yielded ++ rest) ≡ (l.good && rest_is_tag l.first l.empty rest)
