use Rattle.std.proofs.Common.{◌↔◌, subst, sym}
use Rattle.members_dm.specs.Membership.{IsIn}
use Rattle.schema_dm.specs.Naming.{Name}
use Rattle.algebra_dm.specs.Certain.{IsCertainColumn}
use Rattle.algebra_dm.specs.declared.query.Mode.{Mode}
use Rattle.algebra_dm.proofs.ColumnLemmas.{map_columns, map_columns_alone}
use Rattle.algebra_dm.proofs.columns.certain_names.Goals as goal

pub returns-in_ok-push_names_at-in-Map-Some : goal.returns-in_ok-push_names_at-in-Map-Some
returns-in_ok-push_names_at-in-Map-Some c =
    subst (λ (m : Mode). (a : Name) → IsIn a c.push_names_at.new.names.items ↔ IsCertainColumn m c.args.table.now a) (sym c.in-Map-Some.is-0)
    (map_columns c.args.table.now _ c.in_ok-names.names.items c.push_names_at.new.names.items c.in-Map-Some.is-1 (rw c.as_slice-columns.ensures at c.in_ok-names.ensures)
    (rw (c.as_slice-columns.ensures, c.as_slice.ensures) at c.in_ok-push_names_at-in-Map-Some.ensures))

pub returns-in-Map-None : goal.returns-in-Map-None
returns-in-Map-None c =
    subst (λ (m : Mode). (a : Name) → IsIn a c.in_ok-names.names.items ↔ IsCertainColumn m c.args.table.now a) (sym c.in-Map-None.is-0)
    (map_columns_alone c.args.table.now c.in_ok-names.names.items c.in-Map-None.is-1 (rw c.as_slice-columns.ensures at c.in_ok-names.ensures))

pub returns-in-MapKeys-default : goal.returns-in-MapKeys-default
returns-in-MapKeys-default c =
    subst (λ (m : Mode). (a : Name) → IsIn a c.in_ok-names.names.items ↔ IsCertainColumn m c.args.table.now a) (sym c.in-MapKeys-default.is-0)
    (rw c.as_slice-columns.ensures at c.in_ok-names.ensures)
