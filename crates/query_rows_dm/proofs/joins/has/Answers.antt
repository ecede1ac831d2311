use Rattle.std.proofs.Common.{rules, ◌≡◌, ◌↔◌, ℕ, List, IsTrue, Any, refl}
use Rattle.members_dm.proofs.AnyLemmas.{any_from_item}
use Rattle.query_rows_dm.proofs.JoinLemmas.{in_from_any}
use Rattle.query_rows_dm.proofs.joins.has.Goals as goal

pub returns : goal.returns
returns c =
    let some : IsTrue c.any.result ↔ Any (λ (other : List ℕ). other ≡ c.args.var.now) c.args.vars.now = search rules in (
      (λ h. in_from_any c.args.var.now c.args.vars.now (some.0 h)),
      (λ h. some.1 (any_from_item (λ (other : List ℕ). other ≡ c.args.var.now) c.args.var.now c.args.vars.now h refl)),
    )
