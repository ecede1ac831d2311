use Rattle.std.proofs.Common.{◌↔◌, List, sym, subst}
use Rattle.std.proofs.lemmas.List.{take_all}
use Rattle.members_dm.specs.Membership.{IsIn}
use Rattle.schema_dm.specs.Naming.{Name}
use Rattle.schema_dm.specs.declared.draft.Column.{Column}
use Rattle.algebra_dm.specs.Checking.{IsNotNullName}
use Rattle.algebra_dm.proofs.ColumnLemmas.{not_null_less, not_null_more}
use Rattle.algebra_dm.proofs.columns.not_null_names.Goals as goal
use Rattle.algebra_dm.proofs.columns.not_null_names.Goals.{then-column+in_ok-copy+in_ok-push, else-column}

pub loop-column-preserved : goal.loop-column-preserved
loop-column-preserved c = elim c.if-column.branch [
  | then-column+in_ok-copy+in_ok-push w ↦ rw (w.names-is, w.in_ok-push.ensures.items, w.in_ok-copy.ensures)
      (not_null_more c.args.columns.now c.loop-column.column-index c.column-item.result c.loop-column-test.true c.column-item.is c.loop-column.names.items c.loop-column.invariant w.if-column.true)
  | else-column w ↦ rw w.names-is
      (not_null_less c.args.columns.now c.loop-column.column-index c.column-item.result c.loop-column-test.true c.column-item.is c.loop-column.names.items c.loop-column.invariant w.if-column.false)
]

pub returns : goal.returns
returns c = subst (λ (cs : List Column). (a : Name) → IsIn a c.loop-column.names.items ↔ IsNotNullName cs a) (take_all c.loop-column.column-index c.args.columns.now c.loop-column-test.false) c.loop-column.invariant
