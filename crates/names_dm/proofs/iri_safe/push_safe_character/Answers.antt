use Rattle.std.proofs.Common.{◌≡◌, ◌∙◌, ◌++◌, false, true, sym, ap, string_bytes}
use Rattle.std.specs.Char.{encode_utf8}
use Rattle.std.proofs.lemmas.List.{append-nil}
use Rattle.percent_encoding.specs.Percent.{percent_encode}
use Rattle.percent_encoding.specs.declared.ascii_set.TheConstants.{NON_ALPHANUMERIC}
use Rattle.names_dm.specs.IriSafe.{stays}
use Rattle.names_dm.proofs.Escapes.{escapes_ascii, escapes_made}
use Rattle.names_dm.proofs.iri_safe.push_safe_character.Goals as goal

pub returns-then-stays : goal.returns-then-stays
returns-then-stays c =
    let keeps : stays c.args.c ≡ true = sym c.stays.ensures ∙ c.if-stays.true in
    rw keeps (c.in_ok-push.ensures.bytes ∙ ap (λ t. string_bytes c.args.out.now ++ t) (sym (append-nil (encode_utf8 c.args.c))))

pub returns : goal.returns
returns c =
    let gone : stays c.args.c ≡ false = sym c.stays.ensures ∙ c.if-stays.false in
    rw gone (
    c.in_ok-append_to.ensures.ok
    ∙ ap (λ t. string_bytes c.args.out.now ++ t)
    (c.utf8_percent_encode.ensures.text ∙ ap (percent_encode NON_ALPHANUMERIC) c.encode_utf8-bytes.ensures.value ∙ escapes_made c.args.c gone ∙ sym (escapes_ascii c.args.c gone))
    )
