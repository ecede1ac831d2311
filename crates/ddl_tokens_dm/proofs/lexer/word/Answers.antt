use Rattle.std.proofs.Common.{◌≡◌, [], ◌∷◌, ◌++◌, ap, ◌∙◌, arith, chars}
use Rattle.std.proofs.lemmas.Str.{chars-nil}
use Rattle.ddl_tokens_dm.specs.Characters.{in_word}
use Rattle.ddl_tokens_dm.specs.Scanning.{run_of}
use Rattle.ddl_tokens_dm.specs.Views.{run_with}
use Rattle.ddl_tokens_dm.proofs.lexer.word.Goals as goal

pub word-init : goal.word-init
word-init c = (
  ap (λ us. run_with us (run_of in_word (chars c.args.text.now))) (c.in_ok-push_char.ensures ∙ ap (λ us. us ++ c.args.first ∷ []) (ap chars c.new-name.ensures.bytes ∙ chars-nil)),
  c.utf8.text,
  omega arith,
)
