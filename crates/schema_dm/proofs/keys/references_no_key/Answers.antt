use Rattle.std.proofs.Common.{◌≡◌, ◌↔◌, Option, subst, true}
use Rattle.std.specs.Prelude.{IfOk}
use Rattle.schema_dm.specs.Drafts.{ReferencesNoKey}
use Rattle.schema_dm.specs.declared.draft.TableDraft.{TableDraft}
use Rattle.schema_dm.proofs.keys.references_no_key.Goals as goal

pub returns-in-Some : goal.returns-in-Some
returns-in-Some c =
    subst (λ (target : Option TableDraft). IfOk c.is_no_key.result (λ told. (told ≡ true) ↔ ReferencesNoKey c.args.key.now target)) c.in-Some.ensures c.is_no_key.ensures
