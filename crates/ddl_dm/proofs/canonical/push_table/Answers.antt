use Rattle.std.proofs.Common.{◌++◌, refl, ap, string_bytes}
use Rattle.std.specs.Prelude.{codes}
use Rattle.ddl_dm.specs.Canonical.{quoted, columns_text, table_text}
use Rattle.ddl_dm.proofs.Writing.{adds_along, adds_then, adds_word}
use Rattle.ddl_dm.proofs.canonical.push_table.Goals as goal

pub returns : goal.returns
unfolding table_text
returns c =
    let first = string_bytes c.args.text.now in
    let second = string_bytes c.push_str.new.self in
    let third = string_bytes c.push_name.new.text in
    let fourth = string_bytes c.push_str-2.new.self in
    let fifth = string_bytes c.push_columns.new.text in
    let sixth = string_bytes c.push_str-3.new.self in
    let begin = codes "CREATE TABLE " in
    let name = quoted c.args.table.now.name in
    let open_columns = codes " (" in
    let columns = columns_text c.args.table.now.columns in
    let end = codes ");\n" in
    adds_then first fifth sixth (begin ++ name ++ open_columns ++ columns) end
    (adds_then first fourth fifth (begin ++ name ++ open_columns) columns
    (adds_then first third fourth (begin ++ name) open_columns
    (adds_then first second third begin name (adds_word first second begin refl c.in_ok-push_str.ensures.bytes) c.in_ok-push_name.ensures)
    (adds_word third fourth open_columns refl c.in_ok-push_str-2.ensures.bytes))
    (adds_along fourth fifth _ columns (ap columns_text c.as_slice.ensures) c.in_ok-push_columns.ensures))
    (adds_word fifth sixth end refl c.in_ok-push_str-3.ensures.bytes)
