use Rattle.std.proofs.Common.{◌∙◌, ◌≢◌, List, sym, subst}
use Rattle.std.proofs.lemmas.Bool.{false≢true}
use Rattle.std.proofs.lemmas.List.{take_all}
use Rattle.schema_dm.specs.Naming.{Name}
use Rattle.algebra_dm.specs.Checking.{AreThose}
use Rattle.algebra_dm.proofs.RisingLemmas.{those_less, those_more}
use Rattle.algebra_dm.proofs.name_lists.without.Goals as goal
use Rattle.algebra_dm.proofs.name_lists.without.Goals.{then-is_other+in_ok-copy+in_ok-push, else-is_other}

pub loop-name-preserved : goal.loop-name-preserved
loop-name-preserved c = elim c.if-is_other.branch [
  | then-is_other+in_ok-copy+in_ok-push w ↦ rw (w.kept-is, w.in_ok-push.ensures.items, w.in_ok-copy.ensures)
      (those_more (λ a. (c.args.from.now ≢ a) × (c.args.to.now ≢ a)) c.args.names.now c.loop-name.kept.items c.loop-name.name-index c.name-item.result c.loop-name-test.true c.name-item.is c.loop-name.invariant (c.is_other.ensures.0 w.if-is_other.true))
  | else-is_other w ↦ rw w.kept-is
      (those_less (λ a. (c.args.from.now ≢ a) × (c.args.to.now ≢ a)) c.args.names.now c.loop-name.kept.items c.loop-name.name-index c.name-item.result c.loop-name-test.true c.name-item.is c.loop-name.invariant (λ h. false≢true (sym w.if-is_other.false ∙ c.is_other.ensures.1 h)))
]

pub returns : goal.returns
returns c = subst (λ (ys : List Name). AreThose (λ a. (c.args.from.now ≢ a) × (c.args.to.now ≢ a)) ys c.loop-name.kept.items) (take_all c.loop-name.name-index c.args.names.now c.loop-name-test.false) c.loop-name.invariant
