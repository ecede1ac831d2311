use Rattle.std.proofs.Common.{◌≡◌, List, [], None, Some, subst}
use Rattle.std.specs.Prelude.{OnOk}
use Rattle.members_dm.specs.InOrder.{IsFirstPlace}
use Rattle.schema_dm.specs.declared.draft.TableDraft.{TableDraft}
use Rattle.ddl_syntax_dm.specs.Words.{Name}
use Rattle.ddl_dm.specs.Meaning.{draft_with}
use Rattle.ddl_dm.proofs.Altering.{key_at_first, no_first}
use Rattle.ddl_dm.proofs.drafts.add_altered.Goals as goal

pub returns-in-None : goal.returns-in-None
returns-in-None c =
    rw c.in-Alter.is
    (no_first c.args.drafts.now.items c.in-Alter.alter.name c.in-Alter.alter.key
    (subst (λ (names : List Name). IsFirstPlace names c.in-Alter.alter.name None) c.requires c.in-None.ensures))

pub returns-in-Some : goal.returns-in-Some
returns-in-Some c =
    let d = draft_with [] [] [] in
    rw c.in-Alter.is
    (subst (λ (drafts : List TableDraft). OnOk c.add_key_at.result (c.add_key_at.new.drafts.items ≡ drafts))
    (key_at_first c.args.drafts.now.items c.in-Alter.alter.name c.in-Alter.alter.key c.in-Some.number d
    (subst (λ (names : List Name). IsFirstPlace names c.in-Alter.alter.name (Some c.in-Some.number)) c.requires c.in-Some.ensures)) (c.add_key_at.ensures d))
