use Rattle.std.proofs.Common.{arith, length, refl}
use Rattle.std.proofs.lemmas.Option.{slice_get_read}
use Rattle.roles_dm.proofs.ColumnedLemmas.{all_columned, one_more}
use Rattle.roles_dm.proofs.columned.columned_of.Goals as goal

pub loop-role-preserved : goal.loop-role-preserved
loop-role-preserved c = one_more c.args.roles.now c.loop-role.columned c.note.new.self c.loop-role.role-index c.role-item.result (slice_get_read c.args.roles.now (length c.args.roles.now) c.loop-role.role-index c.role-item.result refl c.loop-role-test.true c.role-item.is) c.in_ok-note.ensures c.loop-role.invariant

pub returns : goal.returns
returns c = all_columned c.args.roles.now c.loop-role.columned c.loop-role.role-index (omega (arith, c.loop-role-test.false)) c.loop-role.invariant
