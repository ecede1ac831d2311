use Rattle.std.proofs.Common.{rules, ◌≡◌, List, ℕ, Bool, true}
use Rattle.std.specs.Prelude.{IsTrue, ◌↔◌, map}
use Rattle.std.specs.Char.{to_ascii_lowercase}
use Rattle.std.specs.Str.{bytes_eq}
use Rattle.std.specs.Bool.{one_answer}
use Rattle.std.specs.Cmp.Lexicographic.{bytes_decides}
use Rattle.ddl_syntax_dm.specs.Words.{spells_word}
use Rattle.ddl_syntax_dm.proofs.reader.is_spelled.Goals as goal

is_true : (b : Bool) → IsTrue b → b ≡ true
is_true b h = search rules

from_true : (b : Bool) → b ≡ true → IsTrue b
from_true b h = search rules

decided : (b : Bool) (xs ys : List ℕ) → IsTrue b ↔ (map to_ascii_lowercase xs ≡ map to_ascii_lowercase ys) → b ≡ bytes_eq (map to_ascii_lowercase xs) (map to_ascii_lowercase ys)
decided b xs ys h =
    one_answer {P = map to_ascii_lowercase xs ≡ map to_ascii_lowercase ys} _ _
    (λ e. h.0 (from_true b e), λ e. is_true b (h.1 e))
    (bytes_decides (map to_ascii_lowercase xs) (map to_ascii_lowercase ys))

pub returns : goal.returns
unfolding spells_word
returns c = rw (← c.as_str.ensures.bytes) (decided c.eq_ignore_ascii_case.result c.as_str.result.now c.args.word.now c.eq_ignore_ascii_case.ensures.test)
