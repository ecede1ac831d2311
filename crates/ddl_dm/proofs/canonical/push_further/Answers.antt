use Rattle.std.proofs.Common.{refl, string_bytes}
use Rattle.std.specs.Prelude.{codes}
use Rattle.ddl_dm.specs.Canonical.{column_text, further_text}
use Rattle.ddl_dm.proofs.Writing.{adds_then, adds_word}
use Rattle.ddl_dm.proofs.canonical.push_further.Goals as goal

pub returns : goal.returns
unfolding further_text
returns c =
    let first = string_bytes c.args.text.now in
    let second = string_bytes c.push_str.new.self in
    adds_then first second (string_bytes c.push_column.new.text) (codes ", ") (column_text c.args.column.now) (adds_word first second (codes ", ") refl c.in_ok-push_str.ensures.bytes)
    c.in_ok-push_column.ensures
