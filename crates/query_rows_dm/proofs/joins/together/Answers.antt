use Rattle.std.proofs.Common.{◌∙◌, sym}
use Rattle.std.proofs.lemmas.Bool.{false≢true}
use Rattle.query_rows_dm.proofs.JoinLemmas.{together_more, together_same}
use Rattle.query_rows_dm.proofs.joins.together.Goals as goal
use Rattle.query_rows_dm.proofs.joins.together.Goals.{then-not-has+in_ok-copy+in_ok-push, else-not-has}

pub loop-var-preserved : goal.loop-var-preserved
loop-var-preserved c = elim c.if-not-has.branch [
  | then-not-has+in_ok-copy+in_ok-push w ↦ rw (w.vars-is, w.in_ok-push.ensures.ok, w.in_ok-copy.ensures)
      (together_more c.args.left.now c.args.right.now c.loop-var.vars c.loop-var.var-index c.var-item.result c.loop-var-test.true c.var-item.is c.loop-var.invariant (λ h. false≢true (sym w.if-not-has.true ∙ c.has.ensures.1 (rw c.as_slice.ensures h))))
  | else-not-has w ↦ rw w.vars-is
      (together_same c.args.left.now c.args.right.now c.loop-var.vars c.loop-var.var-index c.var-item.result c.loop-var-test.true c.var-item.is c.loop-var.invariant (rw c.as_slice.ensures at c.has.ensures.0 w.if-not-has.false))
]
