use Rattle.std.proofs.Common.{◌≢◌, ◌↔◌, ℕ, List, subst}
use Rattle.std.proofs.lemmas.List.{take_all}
use Rattle.members_dm.specs.Membership.{IsIn}
use Rattle.solutions_dm.specs.Table.{HasRow}
use Rattle.query_rows_dm.proofs.JoinLemmas.{nulls_more}
use Rattle.query_rows_dm.proofs.joins.without_nulls.Goals as goal

pub loop-var-preserved : goal.loop-var-preserved
loop-var-preserved c = nulls_more c.args.rows c.loop-var.rows c.in_ok-rows.rows c.args.vars.now c.loop-var.var-index c.var-item.result c.loop-var-test.true c.var-item.is c.loop-var.invariant c.in_ok-rows.ensures

pub returns : goal.returns
returns c = subst (λ (ys : List (List ℕ)). (m : List ℕ → ℕ) → HasRow c.loop-var.rows m ↔ (HasRow c.args.rows m × ((x : List ℕ) → IsIn x ys → m x ≢ 1))) (take_all c.loop-var.var-index c.args.vars.now c.loop-var-test.false) c.loop-var.invariant
