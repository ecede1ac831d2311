use Rattle.std.proofs.Common.{◌≡◌, ◌≤◌, [], ◌∷◌, length}
use Rattle.ddl_tokens_dm.specs.Scanning.{run_of}
use Rattle.ddl_tokens_dm.specs.Views.{run_with}
use Rattle.query_tokens_dm.specs.Tokens.{in_word}
use Rattle.query_tokens_dm.proofs.lexer.word.Given as goal

abbrev pub invariant-word : goal.invariant-word
invariant-word l = (run_with l.bytes.items (run_of in_word l.rest) ≡ run_with (l.fn.first ∷ []) (run_of in_word l.text)) × (length l.rest ≤ length l.text)

abbrev pub decreases-word : goal.decreases-word
decreases-word l = length l.rest
