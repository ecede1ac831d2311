use Rattle.std.proofs.Common.{◌≡◌, true}
use Rattle.keys_dm.specs.KeyCells.{HasTwin}
use Rattle.keys_dm.proofs.TwinLemmas.{told_apart}
use Rattle.keys_dm.proofs.table_indexes.tells.Goals as goal

pub returns-then-not-has_null_at : goal.returns-then-not-has_null_at
returns-then-not-has_null_at c =
    let twin = told_apart c.has_twin.result (HasTwin c.args.rows.now c.args.places.now c.args.position) (c.has_twin.ensures c.args.rows.now c.args.places.now c.requires.index c.requires.row) in (
      (λ h. ((λ null. let told : c.has_null_at.result ≡ true = c.has_null_at.ensures.1 (rw c.row.ensures null) in cc), twin.0 h)),
      (λ alone. twin.1 alone.1),
    )
