use Rattle.std.proofs.Common.{◌≡◌, ◌≤◌, [], ◌∷◌, length, chars, string_bytes}
use Rattle.ddl_tokens_dm.specs.Characters.{in_word}
use Rattle.ddl_tokens_dm.specs.Scanning.{run_of}
use Rattle.ddl_tokens_dm.specs.Views.{run_with}
use Rattle.std.specs.Prelude.{IsUtf8}
use Rattle.ddl_tokens_dm.proofs.lexer.word.Given as goal

abbrev pub invariant-word : goal.invariant-word
invariant-word l = (run_with (chars (string_bytes l.name)) (run_of in_word (chars l.rest)) ≡ run_with (l.fn.first ∷ []) (run_of in_word (chars l.text))) × IsUtf8 l.rest × (length l.rest ≤ length l.text)

abbrev pub decreases-word : goal.decreases-word
decreases-word l = length l.rest
