use Rattle.std.proofs.Common.{[], ◌∷◌, ◌++◌, refl, ap, string_bytes}
use Rattle.ddl_tokens_dm.specs.Tokens.{doubled}
use Rattle.ddl_dm.proofs.Writing.{adds_along, adds_then, adds_word}
use Rattle.ddl_dm.proofs.canonical.push_name.Goals as goal

pub returns : goal.returns
returns c =
    let first = string_bytes c.args.text.now in
    let second = string_bytes c.push_str.new.self in
    let third = string_bytes c.push_characters.new.text in
    let fourth = string_bytes c.push_str-2.new.self in
    let name = doubled c.args.name.now in
    adds_then first second fourth (34 ∷ []) (name ++ 34 ∷ []) (adds_word first second (34 ∷ []) refl c.in_ok-push_str.ensures.bytes)
    (adds_then second third fourth name (34 ∷ []) (adds_along second third _ name (ap doubled c.as_str.ensures.chars) c.in_ok-push_characters.ensures)
    (adds_word third fourth (34 ∷ []) refl c.in_ok-push_str-2.ensures.bytes))
