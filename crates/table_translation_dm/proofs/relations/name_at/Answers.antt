use Rattle.std.proofs.Common.{◌≤◌, ◌∙◌, [], sym, length}
use Rattle.std.proofs.lemmas.List.{get_or_past, length-map}
use Rattle.std.proofs.lemmas.Str.{chars-nil}
use Rattle.schema_dm.specs.Naming.{column_names}
use Rattle.table_translation_dm.proofs.relations.name_at.Goals as goal

pub returns-in_default : goal.returns-in_default
returns-in_default c =
    let past : length (column_names c.args.columns.now) ≤ c.args.place = rw length-map c.in_default.ensures.lookup.3 in
    c.in_ok-from_str.ensures.chars ∙ chars-nil ∙ sym (get_or_past (column_names c.args.columns.now) c.args.place [] past)
