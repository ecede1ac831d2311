use Rattle.std.proofs.Common.{◌++◌, refl, ap, ◌∙◌, string_bytes}
use Rattle.std.specs.Prelude.{codes}
use Rattle.ddl_dm.specs.Canonical.{quoted, type_text, column_text}
use Rattle.ddl_dm.proofs.Writing.{adds_then, adds_word, type_ascii}
use Rattle.ddl_dm.proofs.canonical.push_column.Goals as goal

pub returns : goal.returns
unfolding column_text
returns c =
    let first = string_bytes c.args.text.now in
    let second = string_bytes c.push_name.new.text in
    let third = string_bytes c.push_str.new.self in
    let fourth = string_bytes c.push_str-2.new.self in
    let name = quoted c.args.column.now.name in
    let kind = type_text c.args.column.now.kind in
    adds_then first third fourth (name ++ codes " ") kind
    (adds_then first second third name (codes " ") c.in_ok-push_name.ensures (adds_word second third (codes " ") refl c.in_ok-push_str.ensures.bytes))
    (adds_word third fourth kind (type_ascii c.args.column.now.kind) (c.in_ok-push_str-2.ensures.bytes ∙ ap (λ bs. third ++ bs) c.type_text.ensures))
