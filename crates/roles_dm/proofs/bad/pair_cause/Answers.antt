use Rattle.std.proofs.Common.{refl}
use Rattle.roles_dm.proofs.ColumnLemmas.{fails}
use Rattle.roles_dm.proofs.bad.pair_cause.Goals as goal

pub returns-then-not-first : goal.returns-then-not-first
returns-then-not-first c valued = let k = c.in_ok-first.ensures valued in (refl, (λ h. fails c.in_ok-first.first k.0 c.if-not-first.true h.0))

pub returns-then-second : goal.returns-then-second
returns-then-second c valued =
    let k = c.in_ok-first.ensures valued in
    let l = c.in_ok-second.ensures k.1 in
    (k.0.0 c.if-not-first.false, l.0.0 c.if-second.true, l.1)

pub returns-else-second : goal.returns-else-second
returns-else-second c valued =
    let k = c.in_ok-first.ensures valued in
    let l = c.in_ok-second.ensures k.1 in
    (refl, (λ h. fails c.in_ok-second.second l.0 c.if-second.false h.1))
