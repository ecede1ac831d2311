use Rattle.std.proofs.Common.{◌≡◌, ◌∙◌, ◌↔◌, List, Option, ap, subst, true}
use Rattle.std.specs.Prelude.{IfOk}
use Rattle.schema_dm.specs.Drafts.{AreNoKey, referenced_columns}
use Rattle.schema_dm.specs.Naming.{Name}
use Rattle.schema_dm.specs.declared.draft.TableDraft.{TableDraft}
use Rattle.schema_dm.proofs.keys.is_no_key.Goals as goal

pub returns-in-Some : goal.returns-in-Some
returns-in-Some c =
    subst (λ (names : Option (List Name)). IfOk c.are_no_key.result (λ told. (told ≡ true) ↔ AreNoKey c.args.key.now.columns c.args.target.now names))
    (c.in-Some.ensures ∙ ap (λ (target : TableDraft). referenced_columns c.args.key.now target) c.draft.ensures) c.are_no_key.ensures
