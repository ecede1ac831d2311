use Rattle.std.proofs.Common.{◌≡◌, ◌∙◌, sym, ap, subst, ℕ, List, false, chars, encode_utf8_all, eqb, string_bytes}
use Rattle.std.specs.Cmp.Lexicographic.{bytes_decides, pointwise}
use Rattle.std.specs.Str.{IsUtf8}
use Rattle.std.proofs.lemmas.Str.{encodes-chars}
use Rattle.names_dm.specs.IriSafe.{safe_form}
use Rattle.names_dm.proofs.ReadBack.{its_bytes, its_text}
use Rattle.names_dm.proofs.Utf8.{chars-encodes_any}
use Rattle.names_dm.proofs.iri_safe.unsafe_of.Goals as goal

same_bytes : (xs ys : List ℕ) → pointwise eqb xs ys ≡ false → xs ≡ ys → ⊥
same_bytes xs ys differ same = cc (sym differ ∙ (bytes_decides xs ys).1 same)

pub returns-in_default-from_utf8-clause-refused : goal.returns-in_default-from_utf8-clause-refused
returns-in_default-from_utf8-clause-refused c e found same =
    let text = c.args.text.now in
    let items : c.append_to.new.out.items ≡ encode_utf8_all found =
    c.in-Ok.ensures.ok ∙ rw c.new-bytes.ensures.items (c.percent_decode_str.ensures.bytes ∙ its_bytes text found c.utf8.text same) in
    let ok = c.from_utf8.ensures.succeeds (subst IsUtf8 (sym items) (its_text text found c.utf8.text same)) in
    cc (rw c.in_default-from_utf8.is at ok)

pub returns-else-eq-clause-refused : goal.returns-else-eq-clause-refused
returns-else-eq-clause-refused c e found same =
    let text = c.args.text.now in
    let items : c.append_to.new.out.items ≡ encode_utf8_all found =
    c.in-Ok.ensures.ok ∙ rw c.new-bytes.ensures.items (c.percent_decode_str.ensures.bytes ∙ its_bytes text found c.utf8.text same) in
    let bytes : string_bytes c.in-Ok-from_utf8.found ≡ encode_utf8_all found = ap (λ v. v.items) c.in-Ok-from_utf8.ensures.ok ∙ items in
    let characters : chars c.as_str.result.now ≡ found = ap chars (c.as_str.ensures.value ∙ bytes) ∙ chars-encodes_any found in
    let form : string_bytes c.in-Ok-safe.form ≡ text =
    c.in-Ok-safe.ensures.bytes ∙ ap (λ t. encode_utf8_all (safe_form t)) characters ∙ ap encode_utf8_all same ∙ encodes-chars text c.utf8.text in
    same_bytes _ _ (sym c.eq.ensures ∙ c.if-eq.false) (c.as_str-2.ensures.value ∙ form)
