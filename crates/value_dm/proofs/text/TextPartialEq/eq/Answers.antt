use Rattle.std.proofs.Common.{◌≡◌, ◌∙◌, sym, ap, List, ℕ, nat_eq, chars, encode_utf8_all}
use Rattle.std.specs.Prelude.{IsUtf8}
use Rattle.std.specs.Bool.{one_answer}
use Rattle.std.specs.Cmp.Lexicographic.{pointwise, bytes_decides}
use Rattle.std.proofs.lemmas.Str.{encodes-chars}
use Rattle.value_dm.proofs.text.TextPartialEq.eq.Goals as goal

-- two texts have the same bytes exactly where they have the same characters
same_by_bytes : (xs ys : List ℕ) → IsUtf8 xs → IsUtf8 ys → pointwise nat_eq xs ys ≡ pointwise nat_eq (chars xs) (chars ys)
same_by_bytes xs ys text_x text_y =
    one_answer {P = xs ≡ ys} _ _ (bytes_decides xs ys) (
      λ h. sym (encodes-chars xs text_x) ∙ ap encode_utf8_all ((bytes_decides (chars xs) (chars ys)).0 h) ∙ encodes-chars ys text_y,
      λ e. (bytes_decides (chars xs) (chars ys)).1 (ap chars e),
    )

pub returns : goal.returns
returns c =
    rw (← c.self.view_is, ← c.other.view_is)
    (c.eq.ensures
    ∙ rw (c.as_str.ensures.value, c.as_str-2.ensures.value)
    (same_by_bytes _ _ (rw c.as_str.ensures.value at c.as_str.utf8) (rw c.as_str-2.ensures.value at c.as_str-2.utf8)))
