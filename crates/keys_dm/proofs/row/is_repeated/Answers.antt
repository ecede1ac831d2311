use Rattle.std.proofs.Common.{◌≡◌, true}
use Rattle.keys_dm.proofs.row.is_repeated.Goals as goal

pub returns-then-not-has_null_at : goal.returns-then-not-has_null_at
returns-then-not-has_null_at c =
    let twin = c.has_twin.ensures c.args.rows.now c.args.places.now c.requires.index c.requires.row in (
      (λ h. ((λ null. let told : c.has_null_at.result ≡ true = c.has_null_at.ensures.1 (rw c.row.ensures null) in cc), twin.0 h)),
      (λ repeated. twin.1 repeated.1),
    )
