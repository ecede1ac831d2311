use Rattle.std.proofs.Common.{◌∙◌, List, sym, subst}
use Rattle.std.proofs.lemmas.Bool.{false≢true}
use Rattle.std.proofs.lemmas.List.{take_all}
use Rattle.members_dm.specs.Membership.{IsIn}
use Rattle.schema_dm.specs.Naming.{Name}
use Rattle.algebra_dm.specs.Checking.{AreThose}
use Rattle.algebra_dm.proofs.RisingLemmas.{those_less, those_more}
use Rattle.algebra_dm.proofs.name_lists.held.Goals as goal
use Rattle.algebra_dm.proofs.name_lists.held.Goals.{then-holds+in_ok-copy+in_ok-push, else-holds}

pub loop-name-preserved : goal.loop-name-preserved
loop-name-preserved c = elim c.if-holds.branch [
  | then-holds+in_ok-copy+in_ok-push w ↦ rw (w.kept-is, w.in_ok-push.ensures.items, w.in_ok-copy.ensures)
      (those_more (λ a. IsIn a c.args.index.now) c.args.names.now c.loop-name.kept.items c.loop-name.name-index c.name-item.result c.loop-name-test.true c.name-item.is c.loop-name.invariant (c.holds.ensures.0 w.if-holds.true))
  | else-holds w ↦ rw w.kept-is
      (those_less (λ a. IsIn a c.args.index.now) c.args.names.now c.loop-name.kept.items c.loop-name.name-index c.name-item.result c.loop-name-test.true c.name-item.is c.loop-name.invariant (λ h. false≢true (sym w.if-holds.false ∙ c.holds.ensures.1 h)))
]

pub returns : goal.returns
returns c = subst (λ (ys : List Name). AreThose (λ a. IsIn a c.args.index.now) ys c.loop-name.kept.items) (take_all c.loop-name.name-index c.args.names.now c.loop-name-test.false) c.loop-name.invariant
