use Rattle.std.proofs.Common.{subst}
use Rattle.std.proofs.lemmas.Result.{on_ok_weaker}
use Rattle.roles_dm.specs.Relations.{TellsStated}
use Rattle.roles_dm.proofs.RelationLemmas.{step_none, step_some}
use Rattle.roles_dm.proofs.relations.Relations.note.Goals as goal

pub returns-in-Some : goal.returns-in-Some
returns-in-Some c = on_ok_weaker c.add.result
    (λ notes base G g laws below told. step_some base laws g G c.args.number c.args.self.now c.add.new.self c.in-Some.table c.requires below (subst (TellsStated base g G c.args.number) c.in-Some.is told) notes)
    c.add.ensures

pub returns-in-None : goal.returns-in-None
returns-in-None c base G g laws below told = step_none base laws g G c.args.number c.args.self.now below (subst (TellsStated base g G c.args.number) c.in-None.is told)
