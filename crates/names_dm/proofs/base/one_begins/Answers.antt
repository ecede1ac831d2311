use Rattle.std.proofs.Common.{◌≡◌, ◌∙◌, chars, eqb, sym, ap, refl}
use Rattle.std.specs.List.{starts_with}
use Rattle.std.proofs.lemmas.Str.{encodes-chars}
use Rattle.std.proofs.lemmas.Str.Pattern.{starts_text}
use Rattle.names_dm.proofs.Ascii.{begins_by_bytes, begins_of_ascii}
use Rattle.names_dm.proofs.base.one_begins.Goals as goal

pub returns : goal.returns
returns c =
    let text = c.args.text.now in
    let namespace = c.args.namespace.now in
    let back = sym (encodes-chars text c.utf8.text) in
    let one : c.starts_with.result ≡ starts_with eqb (chars text) namespace =
    starts_text _ _ _ c.starts_with.ensures.cases ∙ ap (λ bs. starts_with eqb bs namespace) back ∙ begins_by_bytes (chars text) namespace c.requires in
    let other : c.starts_with-2.result ≡ starts_with eqb namespace (chars text) =
    starts_text _ _ _ c.starts_with-2.ensures.cases ∙ ap (starts_with eqb namespace) back ∙ begins_of_ascii (chars text) namespace c.requires in
    rw (one, other) refl
