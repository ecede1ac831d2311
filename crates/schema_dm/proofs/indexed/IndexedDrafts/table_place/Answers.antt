use Rattle.std.proofs.Common.{◌≤◌, ◌∙◌, List, ap, length, subst, sym}
use Rattle.std.specs.Option.{unwrap_or}
use Rattle.members_dm.specs.InOrder.{IsFirstPlace}
use Rattle.schema_dm.specs.Drafts.{table_place}
use Rattle.schema_dm.specs.Naming.{Name}
use Rattle.schema_dm.specs.declared.draft.TableDraft.{TableDraft}
use Rattle.schema_dm.proofs.FirstPlaces.{place_by_first}
use Rattle.schema_dm.proofs.Lookups.{place_most}
use Rattle.schema_dm.proofs.indexed.IndexedDrafts.table_place.Goals as goal

pub returns-clause-place : goal.returns-clause-place
returns-clause-place c =
    c.unwrap_or.ensures ∙ ap (λ (drafts : List TableDraft). unwrap_or c.place.result (length drafts)) c.as_slice.ensures.value
    ∙ place_by_first (λ (draft : TableDraft). draft.name) c.args.name.now c.self.inside.drafts.items c.place.result
    (subst (λ (names : List Name). IsFirstPlace names c.args.name.now c.place.result) c.self.invariant c.place.ensures)
    ∙ ap (λ (drafts : List TableDraft). table_place drafts c.args.name.now) c.self.view_is

pub returns-clause-within : goal.returns-clause-within
returns-clause-within c = subst (λ n. n ≤ length c.args.self.now) (sym (returns-clause-place c)) (place_most _ c.args.self.now)
