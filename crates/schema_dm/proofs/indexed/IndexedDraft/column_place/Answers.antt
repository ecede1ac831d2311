use Rattle.std.proofs.Common.{◌≤◌, ◌∙◌, List, ap, length, subst, sym}
use Rattle.std.specs.Option.{unwrap_or}
use Rattle.members_dm.specs.InOrder.{IsFirstPlace}
use Rattle.schema_dm.specs.Naming.{Name, column_place}
use Rattle.schema_dm.specs.declared.draft.Column.{Column}
use Rattle.schema_dm.specs.declared.draft.TableDraft.{TableDraft}
use Rattle.schema_dm.proofs.FirstPlaces.{place_by_first}
use Rattle.schema_dm.proofs.Lookups.{place_most}
use Rattle.schema_dm.proofs.indexed.IndexedDraft.column_place.Goals as goal

pub returns-clause-place : goal.returns-clause-place
returns-clause-place c =
    c.unwrap_or.ensures ∙ ap (unwrap_or c.place.result) c.len.ensures
    ∙ place_by_first (λ (column : Column). column.name) c.args.name.now c.self.inside.draft.columns c.place.result
    (subst (λ (names : List Name). IsFirstPlace names c.args.name.now c.place.result) c.self.invariant.0 c.place.ensures)
    ∙ ap (λ (draft : TableDraft). column_place draft.columns c.args.name.now) c.self.view_is

pub returns-clause-within : goal.returns-clause-within
returns-clause-within c = subst (λ n. n ≤ length c.args.self.now.columns) (sym (returns-clause-place c)) (place_most _ c.args.self.now.columns)
