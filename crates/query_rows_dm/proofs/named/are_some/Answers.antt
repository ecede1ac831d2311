use Rattle.std.proofs.Common.{rules, ◌≢◌, ◌↔◌, [], All, IsTrue, refl, subst}
use Rattle.members_dm.specs.Membership.{IsIn}
use Rattle.members_dm.proofs.AnyLemmas.{all_from_items, item_from_all}
use Rattle.schema_dm.specs.Naming.{Name}
use Rattle.query_rows_dm.proofs.named.are_some.Goals as goal

pub returns : goal.returns
returns c =
    let names = c.args.names.now in
    let every : IsTrue c.all.result ↔ All (λ (n : Name). n ≢ []) c.args.names.now = search rules in (
      (λ h here. item_from_all (λ (n : Name). n ≢ []) names (every.0 h) [] here refl),
      (λ h. every.1 (all_from_items (λ (n : Name). n ≢ []) names (λ n here e. h (subst (λ (z : Name). IsIn z names) e here)))),
    )
