use Rattle.std.proofs.Common.{◌≡◌, ◌↔◌, Any, subst, true}
use Rattle.std.specs.Prelude.{IfOk}
use Rattle.schema_dm.specs.Drafts.{ReferencesNoKey, target_of}
use Rattle.schema_dm.specs.declared.draft.TableDraft.{TableDraft}
use Rattle.schema_dm.proofs.verdict.holds.Goals as goal

pub returns-in-DuplicateColumn : goal.returns-in-DuplicateColumn
returns-in-DuplicateColumn c = rw c.in-DuplicateColumn.is c.has_duplicate_column.ensures

pub returns-in-NotAKey : goal.returns-in-NotAKey
returns-in-NotAKey c =
    rw c.in-NotAKey.is
    (subst (λ (draft : TableDraft). IfOk c.has_no_key.result (λ told. (told ≡ true) ↔ Any (λ key. ReferencesNoKey key (target_of c.args.drafts.now key)) draft.foreign))
    c.draft-table.ensures c.has_no_key.ensures)
