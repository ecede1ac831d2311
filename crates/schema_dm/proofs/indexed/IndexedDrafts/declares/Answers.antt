use Rattle.std.proofs.Common.{List, None, Some, map, refl, subst}
use Rattle.members_dm.specs.InOrder.{IsFirstPlace}
use Rattle.schema_dm.specs.Drafts.{DeclaresTable}
use Rattle.schema_dm.specs.Naming.{Name}
use Rattle.schema_dm.specs.declared.draft.TableDraft.{TableDraft}
use Rattle.schema_dm.proofs.FirstPlaces.{declared_at, not_declared}
use Rattle.schema_dm.proofs.indexed.IndexedDrafts.declares.Goals as goal

pub returns-in-None : goal.returns-in-None
returns-in-None c = (
  (λ no. cc),
  (λ found. absurd (not_declared (λ (draft : TableDraft). draft.name) c.args.name.now c.args.self.now
      (subst (λ (drafts : List TableDraft). IsFirstPlace (map (λ (draft : TableDraft). draft.name) drafts) c.args.name.now None) c.self.view_is
      (subst (λ (names : List Name). IsFirstPlace names c.args.name.now None) c.self.invariant c.in-None.ensures)) found)),
)

pub returns-in-Some : goal.returns-in-Some
returns-in-Some c = (
  (λ _. subst (λ (drafts : List TableDraft). DeclaresTable drafts c.args.name.now) c.self.view_is
      (declared_at (λ (draft : TableDraft). draft.name) c.args.name.now c.self.inside.drafts.items c.in-Some.field-0
      (subst (λ (names : List Name). IsFirstPlace names c.args.name.now (Some c.in-Some.field-0)) c.self.invariant c.in-Some.ensures).0)),
  (λ _. refl),
)
