use Rattle.std.proofs.Common.{Bool, None, Some, ap, cond, sym}
use Rattle.roles_dm.proofs.bad.object_cause.Goals as goal

pub returns-then-told : goal.returns-then-told
returns-then-told c = (c.in_ok-told.told, c.in_ok-told.ensures, sym (ap (λ (b : Bool). cond b None (Some c.args.cause)) c.if-told.true))

pub returns-else-told : goal.returns-else-told
returns-else-told c = (c.in_ok-told.told, c.in_ok-told.ensures, sym (ap (λ (b : Bool). cond b None (Some c.args.cause)) c.if-told.false))
