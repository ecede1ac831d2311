use Rattle.std.proofs.Common.{◌≡◌, ◌∙◌, ◌++◌, [], ◌∷◌, sym, ap, chars, encode_utf8_all, string_bytes, append_assoc}
use Rattle.std.proofs.lemmas.Grind.{flat_map-append}
use Rattle.std.proofs.lemmas.List.{append-nil}
use Rattle.std.proofs.lemmas.Str.{encodes-append}
use Rattle.names_dm.proofs.Yielded.{all_yielded}
use Rattle.ntriples_dm.specs.Written.{escaped, quoted_text}
use Rattle.std.specs.List.{flat_map}
use Rattle.ntriples_dm.proofs.texts.push_quoted.Goals as goal

pub loop-c-init : goal.loop-c-init
loop-c-init c = sym (append-nil (string_bytes c.args.out.now))

pub loop-c-preserved : goal.loop-c-preserved
loop-c-preserved c =
    let so_far = c.loop-c.yielded in
    let one = c.in-Some.c in
    let old = string_bytes c.args.out.now in
    let more : quoted_text (so_far ++ one ∷ []) ≡ quoted_text so_far ++ encode_utf8_all (escaped one) =
    ap encode_utf8_all (flat_map-append escaped so_far (one ∷ []) ∙ ap (λ text. flat_map escaped so_far ++ text) (append-nil (escaped one)))
    ∙ encodes-append (flat_map escaped so_far) (escaped one) in
    c.in_ok-push_escaped.ensures
    ∙ ap (λ text. text ++ encode_utf8_all (escaped one)) c.loop-c.invariant
    ∙ append_assoc old (quoted_text so_far) (encode_utf8_all (escaped one))
    ∙ ap (λ text. old ++ text) (sym more)

pub returns : goal.returns
returns c =
    let all : c.loop-c.yielded ≡ chars c.args.text.now = all_yielded _ c.utf8.text _ (cc) c.loop-c.yielded _ c.loop-c.yielded_by _ _ c.in-None.is c.next.ensures.steps in
    c.loop-c.invariant ∙ ap (λ text. string_bytes c.args.out.now ++ quoted_text text) all
