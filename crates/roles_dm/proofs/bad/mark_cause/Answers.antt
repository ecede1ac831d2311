use Rattle.std.proofs.Common.{refl}
use Rattle.roles_dm.proofs.ColumnLemmas.{fails}
use Rattle.roles_dm.proofs.bad.mark_cause.Goals as goal

pub returns-then-told : goal.returns-then-told
returns-then-told c valued = let k = c.in_ok-told.ensures valued in (k.0.0 c.if-told.true, k.1)

pub returns-else-told : goal.returns-else-told
returns-else-told c valued = let k = c.in_ok-told.ensures valued in (refl, fails c.in_ok-told.told k.0 c.if-told.false)
