use Rattle.std.proofs.Common.{◌≡◌, ◌∙◌, ◌<◌, ◌≤◌, List, ℕ, Some, None, ap, length, get_or, rules, sym, true, false}
use Rattle.std.specs.Prelude.{slice_get}
use Rattle.schema_dm.specs.declared.table.ForeignKey.{ForeignKey}
use Rattle.members_dm.specs.Membership.{IsIn}
use Rattle.table_csv.specs.Cells.{cells_at}
use Rattle.graphs_dm.specs.Levels.{referenced}
use Rattle.graphs_dm.proofs.RelationRows.{none_first, referenced_entries, referenced_null, some_first}
use Rattle.graphs_dm.proofs.rows.first_referenced.Goals as goal

pub returns-then-has_null_at : goal.returns-then-has_null_at
returns-then-has_null_at c =
    let D = c.args.source.now.database.now in
    referenced_null D c.key_of-key.result.now c.args.row.now (c.has_null_at.ensures.0 c.if-has_null_at.true)
    ∙ ap (λ (key : ForeignKey). slice_get (referenced D key c.args.row.now) 0) c.key_of-key.ensures.value

pub returns-in-None : goal.returns-in-None
returns-in-None c =
    let D = c.args.source.now.database.now in
    let whole : ¬ IsIn None (cells_at c.key_of-key.result.now.columns c.args.row.now) = (λ null. let both : true ≡ false = sym (c.has_null_at.ensures.1 null) ∙ c.if-has_null_at.false in cc both) in
    let few : length c.referenced-entries.result.now ≤ 0 = search rules in
    none_first c.referenced-entries.result.now few
    ∙ ap (λ (xs : List ℕ). slice_get xs 0) (referenced_entries D c.key_of-key.result.now c.args.row.now c.referenced-entries.result.now whole c.referenced-entries.ensures)
    ∙ ap (λ (key : ForeignKey). slice_get (referenced D key c.args.row.now) 0) c.key_of-key.ensures.value

pub returns-in-Some : goal.returns-in-Some
returns-in-Some c =
    let D = c.args.source.now.database.now in
    let whole : ¬ IsIn None (cells_at c.key_of-key.result.now.columns c.args.row.now) = (λ null. let both : true ≡ false = sym (c.has_null_at.ensures.1 null) ∙ c.if-has_null_at.false in cc both) in
    let more : 0 < length c.referenced-entries.result.now = search rules in
    let read : c.in-Some.entry.now ≡ get_or c.referenced-entries.result.now 0 c.in-Some.entry.now = search rules in
    ap (λ (n : ℕ). Some n) c.position.ensures
    ∙ some_first c.referenced-entries.result.now c.in-Some.entry.now more read
    ∙ ap (λ (xs : List ℕ). slice_get xs 0) (referenced_entries D c.key_of-key.result.now c.args.row.now c.referenced-entries.result.now whole c.referenced-entries.ensures)
    ∙ ap (λ (key : ForeignKey). slice_get (referenced D key c.args.row.now) 0) c.key_of-key.ensures.value
