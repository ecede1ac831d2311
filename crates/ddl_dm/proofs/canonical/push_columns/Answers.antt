use Rattle.std.proofs.Common.{List, sym, subst, string_bytes}
use Rattle.std.specs.List.{flat_map}
use Rattle.schema_dm.specs.declared.draft.Column.{Column}
use Rattle.ddl_dm.specs.Canonical.{column_text, further_text, columns_text, Adds}
use Rattle.ddl_dm.proofs.Writing.{adds_nothing, adds_then, no_columns}
use Rattle.ddl_dm.proofs.canonical.push_columns.Goals as goal

pub returns-in_ok-push_rest-in-Some : goal.returns-in_ok-push_rest-in-Some
unfolding columns_text
returns-in_ok-push_rest-in-Some c =
    let first = string_bytes c.args.text.now in
    let third = string_bytes c.push_rest.new.text in
    let P : List Column → Type 0 = λ columns. Adds first third (columns_text columns) in
    subst P (sym c.in-Some.ensures.cases.0)
    (adds_then first (string_bytes c.push_column.new.text) third (column_text c.in-Some.first.now) (flat_map further_text c.in-Some.rest.now) c.in_ok-push_column-in-Some.ensures
    c.in_ok-push_rest-in-Some.ensures)

pub returns-in-None : goal.returns-in-None
unfolding columns_text
returns-in-None c =
    let first = string_bytes c.args.text.now in
    let P : List Column → Type 0 = λ columns. Adds first first (columns_text columns) in
    subst P (sym (no_columns c.args.columns.now c.in-None.ensures.cases)) (adds_nothing first)
