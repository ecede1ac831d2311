use Rattle.std.proofs.Common.{◌≡◌, ◌∙◌, ◌++◌, [], ◌∷◌, sym, ap, chars, encode_utf8_all, string_bytes, append_assoc}
use Rattle.std.proofs.lemmas.Grind.{flat_map-append}
use Rattle.std.proofs.lemmas.List.{append-nil}
use Rattle.std.proofs.lemmas.Str.{IsUtf8-string_bytes, chars-append, encodes-append}
use Rattle.names_dm.proofs.Utf8.{chars-encodes_any}
use Rattle.names_dm.specs.IriSafe.{safe_character, safe_form}
use Rattle.names_dm.proofs.Yielded.{all_yielded}
use Rattle.names_dm.proofs.iri_safe.push_safe.Goals as goal

pub loop-c-init : goal.loop-c-init
loop-c-init c = sym (append-nil (string_bytes c.args.out.now))

pub loop-c-preserved : goal.loop-c-preserved
loop-c-preserved c =
    let so_far = c.loop-c.yielded in
    let one = c.in-Some.c in
    let old = string_bytes c.args.out.now in
    let form : encode_utf8_all (safe_form (so_far ++ one ∷ [])) ≡ encode_utf8_all (safe_form so_far) ++ encode_utf8_all (safe_character one) =
    ap encode_utf8_all (flat_map-append safe_character so_far (one ∷ []) ∙ ap (λ t. safe_form so_far ++ t) (append-nil (safe_character one)))
    ∙ encodes-append (safe_form so_far) (safe_character one) in
    c.in_ok-push_safe_character.ensures ∙ ap (λ t. t ++ encode_utf8_all (safe_character one)) c.loop-c.invariant
    ∙ append_assoc old (encode_utf8_all (safe_form so_far)) (encode_utf8_all (safe_character one)) ∙ ap (λ t. old ++ t) (sym form)

pub returns-clause-bytes : goal.returns-clause-bytes
returns-clause-bytes c =
    let all : c.loop-c.yielded ≡ chars c.args.text.now = all_yielded _ c.utf8.text _ (cc) c.loop-c.yielded _ c.loop-c.yielded_by _ _ c.in-None.is c.next.ensures.steps in
    c.loop-c.invariant ∙ ap (λ t. string_bytes c.args.out.now ++ encode_utf8_all (safe_form t)) all

pub returns-clause-chars : goal.returns-clause-chars
returns-clause-chars c =
    let all : c.loop-c.yielded ≡ chars c.args.text.now = all_yielded _ c.utf8.text _ (cc) c.loop-c.yielded _ c.loop-c.yielded_by _ _ c.in-None.is c.next.ensures.steps in
    let old = string_bytes c.args.out.now in
    let form = encode_utf8_all (safe_form (chars c.args.text.now)) in
    let made : string_bytes c.loop-c.out ≡ old ++ form = c.loop-c.invariant ∙ ap (λ t. old ++ encode_utf8_all (safe_form t)) all in
    ap chars made ∙ chars-append old form (IsUtf8-string_bytes c.args.out.now) ∙ ap (λ t. chars old ++ t) (chars-encodes_any (safe_form (chars c.args.text.now)))
