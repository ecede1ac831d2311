-- The order of texts and bytes.
use Rattle.std.specs.Prelude.{◌≡◌, ℕ, List, nat_eq, encode_utf8_all}
use Rattle.std.specs.Bool.{one_answer}
use Rattle.std.specs.Cmp.Lexicographic.{slice_cmp, pointwise, bytes_decides, texts_ties}
use Rattle.std.specs.Ordering.{nat_cmp, on, eq_by_cmp}
use Rattle.std.specs.declared.cmp.Ordering.{Ordering}
use Rattle.std.proofs.Common.{ap, ◌∙◌}
use Rattle.std.proofs.lemmas.Str.{encodes_same}

-- texts are ordered by the bytes of their UTF-8 form, which is also the order of their characters' numbers
abbrev pub byte_cmp : List ℕ → List ℕ → Ordering
byte_cmp = on encode_utf8_all (slice_cmp nat_cmp)

-- two texts are in neither order exactly where they have the same characters
pub byte_cmp_ties : (xs ys : List ℕ) → pointwise nat_eq xs ys ≡ eq_by_cmp byte_cmp xs ys
byte_cmp_ties xs ys =
    one_answer {P = xs ≡ ys} _ _ (bytes_decides xs ys) (
      λ h. encodes_same xs ys ((bytes_decides (encode_utf8_all xs) (encode_utf8_all ys)).0 h),
      λ e. (bytes_decides (encode_utf8_all xs) (encode_utf8_all ys)).1 (ap encode_utf8_all e),
    )
    ∙ texts_ties (encode_utf8_all xs) (encode_utf8_all ys)
