use Rattle.std.proofs.Common.{List, None, Some, refl, subst}
use Rattle.members_dm.specs.InOrder.{IsFirstPlace}
use Rattle.schema_dm.specs.Naming.{Declares, Name, column_names}
use Rattle.schema_dm.specs.declared.draft.Column.{Column}
use Rattle.schema_dm.specs.declared.draft.TableDraft.{TableDraft}
use Rattle.schema_dm.proofs.FirstPlaces.{declared_at, not_declared}
use Rattle.schema_dm.proofs.indexed.IndexedDraft.declares.Goals as goal

pub returns-in-None : goal.returns-in-None
returns-in-None c = (
  (λ no. cc),
  (λ found. absurd (not_declared (λ (column : Column). column.name) c.args.name.now c.args.self.now.columns
      (subst (λ (draft : TableDraft). IsFirstPlace (column_names draft.columns) c.args.name.now None) c.self.view_is
      (subst (λ (names : List Name). IsFirstPlace names c.args.name.now None) c.self.invariant.0 c.in-None.ensures)) found)),
)

pub returns-in-Some : goal.returns-in-Some
returns-in-Some c = (
  (λ _. subst (λ (draft : TableDraft). Declares draft.columns c.args.name.now) c.self.view_is
      (declared_at (λ (column : Column). column.name) c.args.name.now c.self.inside.draft.columns c.in-Some.field-0
      (subst (λ (names : List Name). IsFirstPlace names c.args.name.now (Some c.in-Some.field-0)) c.self.invariant.0 c.in-Some.ensures).0)),
  (λ _. refl),
)
