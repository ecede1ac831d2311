-- Names of reference properties, by their bytes.
use Rattle.std.proofs.Common.{◌≡◌, ◌↔◌, ◌∙◌, ℕ, List, take, drop, ◌++◌, refl, sym, ap, codes, encode_utf8_all, IsTrue, Bool}
use Rattle.std.proofs.lemmas.List.{take-append-drop}
use Rattle.std.proofs.Math.Utf8.{encode}
use Rattle.std.proofs.lemmas.Str.{encodes_same}

prefix_bytes : (column : List ℕ) → encode_utf8_all (codes "ref-" ++ column) ≡ codes "ref-" ++ encode_utf8_all column
unfolding encode
prefix_bytes column = refl

pub reference_by_bytes : (b : Bool) (name column name_bytes column_bytes : List ℕ) → name_bytes ≡ encode_utf8_all name → column_bytes ≡ encode_utf8_all column
    → (IsTrue b ↔ (name_bytes ≡ codes "ref-" ++ column_bytes)) → IsTrue b ↔ (name ≡ codes "ref-" ++ column)
reference_by_bytes b name column name_bytes column_bytes is_name is_column bytes = (
  (λ h. encodes_same name (codes "ref-" ++ column) (sym is_name ∙ bytes.0 h ∙ ap (λ rest. codes "ref-" ++ rest) is_column ∙ sym (prefix_bytes column))),
  (λ e. bytes.1 (is_name ∙ ap encode_utf8_all e ∙ prefix_bytes column ∙ ap (λ rest. codes "ref-" ++ rest) (sym is_column))),
)

-- the prefix and what comes after it, as parts of the whole
pub reference_by_parts : (b : Bool) (name column : List ℕ) → (IsTrue b ↔ ((take 4 name ≡ codes "ref-") × (drop 4 name ≡ column))) → IsTrue b ↔ (name ≡ codes "ref-" ++ column)
reference_by_parts b name column parts = (
  (λ h. let p = parts.0 h in sym (take-append-drop 4 name) ∙ (λ i. p.0 i ++ p.1 i)),
  (λ e. parts.1 (ap (take 4) e, ap (drop 4) e)),
)
