use Rattle.std.proofs.Common.{List, None, Some, ap, false, subst, sym, true}
use Rattle.std.specs.Prelude.{if◌then◌else◌}
use Rattle.members_dm.specs.InOrder.{IsFirstPlace}
use Rattle.ddl_syntax_dm.specs.Words.{Name}
use Rattle.ddl_dm.proofs.Altering.{created_from_place, not_created}
use Rattle.ddl_dm.proofs.drafts.alters_unknown.Goals as goal

pub returns-in-None : goal.returns-in-None
returns-in-None c = λ statements e.
    rw c.in-Alter.is
    (sym (ap (λ b. if b then false else true)
    (not_created statements c.in-Alter.table.name (subst (λ (names : List Name). IsFirstPlace names c.in-Alter.table.name None) e c.in-None.ensures))))

pub returns-in-Some : goal.returns-in-Some
returns-in-Some c = λ statements e.
    rw c.in-Alter.is
    (sym (ap (λ b. if b then false else true)
    (created_from_place statements c.in-Alter.table.name c.in-Some.field-0
    (subst (λ (names : List Name). IsFirstPlace names c.in-Alter.table.name (Some c.in-Some.field-0)) e c.in-Some.ensures).0)))
