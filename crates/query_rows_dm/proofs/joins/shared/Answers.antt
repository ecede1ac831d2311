use Rattle.std.proofs.Common.{◌∙◌, ◌↔◌, ℕ, List, sym, subst}
use Rattle.std.proofs.lemmas.Bool.{false≢true}
use Rattle.std.proofs.lemmas.List.{take_all}
use Rattle.members_dm.specs.Membership.{IsIn}
use Rattle.query_rows_dm.proofs.JoinLemmas.{shared_less, shared_more}
use Rattle.query_rows_dm.proofs.joins.shared.Goals as goal
use Rattle.query_rows_dm.proofs.joins.shared.Goals.{then-has+in_ok-copy+in_ok-push, else-has}

pub loop-var-preserved : goal.loop-var-preserved
loop-var-preserved c = elim c.if-has.branch [
  | then-has+in_ok-copy+in_ok-push w ↦ rw (w.vars-is, w.in_ok-push.ensures.ok, w.in_ok-copy.ensures)
      (shared_more c.args.left.now c.args.right.now c.loop-var.vars c.loop-var.var-index c.var-item.result c.loop-var-test.true c.var-item.is c.loop-var.invariant (c.has.ensures.0 w.if-has.true))
  | else-has w ↦ rw w.vars-is
      (shared_less c.args.left.now c.args.right.now c.loop-var.vars c.loop-var.var-index c.var-item.result c.loop-var-test.true c.var-item.is c.loop-var.invariant (λ h. false≢true (sym w.if-has.false ∙ c.has.ensures.1 h)))
]

pub returns : goal.returns
returns c = subst (λ (ys : List (List ℕ)). (x : List ℕ) → IsIn x c.loop-var.vars ↔ (IsIn x ys × IsIn x c.args.right.now)) (take_all c.loop-var.var-index c.args.left.now c.loop-var-test.false) c.loop-var.invariant
