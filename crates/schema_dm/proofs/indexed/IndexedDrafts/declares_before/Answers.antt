use Rattle.std.proofs.Common.{List, None, Some, map, subst}
use Rattle.members_dm.specs.InOrder.{IsFirstPlace}
use Rattle.schema_dm.specs.Naming.{Name}
use Rattle.schema_dm.specs.declared.draft.TableDraft.{TableDraft}
use Rattle.schema_dm.proofs.FirstPlaces.{declared_before_by, none_before_all}
use Rattle.schema_dm.proofs.indexed.IndexedDrafts.declares_before.Goals as goal

pub returns-in-None : goal.returns-in-None
returns-in-None c = (
  (λ no. cc),
  (λ found. absurd (none_before_all (λ (draft : TableDraft). draft.name) c.args.name.now c.args.self.now c.args.place
      (subst (λ (drafts : List TableDraft). IsFirstPlace (map (λ (draft : TableDraft). draft.name) drafts) c.args.name.now None) c.self.view_is
      (subst (λ (names : List Name). IsFirstPlace names c.args.name.now None) c.self.invariant c.in-None.ensures)) found)),
)

pub returns-in-Some : goal.returns-in-Some
returns-in-Some c = declared_before_by (λ (draft : TableDraft). draft.name) c.args.name.now c.args.self.now c.args.place c.in-Some.first
    (subst (λ (drafts : List TableDraft). IsFirstPlace (map (λ (draft : TableDraft). draft.name) drafts) c.args.name.now (Some c.in-Some.first)) c.self.view_is
    (subst (λ (names : List Name). IsFirstPlace names c.args.name.now (Some c.in-Some.first)) c.self.invariant c.in-Some.ensures))
