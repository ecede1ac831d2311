use Rattle.std.proofs.Common.{◌≡◌, ◌∙◌, ◌++◌, ap, chars, encode_utf8_all, string_bytes}
use Rattle.names_dm.specs.IriSafe.{safe_form}
use Rattle.names_dm.proofs.Utf8.{chars-encodes_any}
use Rattle.names_dm.proofs.iri_safe.safe.Goals as goal

pub returns-clause-chars : goal.returns-clause-chars
returns-clause-chars c =
    let made : string_bytes c.push_safe.new.out ≡ encode_utf8_all (safe_form (chars c.args.text.now)) =
    c.in_ok-push_safe.ensures.bytes ∙ ap (λ t. t ++ encode_utf8_all (safe_form (chars c.args.text.now))) c.new-out.ensures.bytes in
    ap chars made ∙ chars-encodes_any (safe_form (chars c.args.text.now))
