use Rattle.std.proofs.Common.{Option, inr, subst}
use Rattle.roles_dm.specs.Bad.{TellsFirstBad}
use Rattle.roles_dm.specs.Numbered.{AreNumbers}
use Rattle.roles_dm.specs.Roles.{IsRead}
use Rattle.roles_dm.specs.declared.cause.BadTriple.{BadTriple}
use Rattle.inverse_dm.proofs.inversion.check_triples.Goals as goal

pub returns-in-Some : goal.returns-in-Some
returns-in-Some c =
    let read = c.args.read.now in
    let numbers_are : AreNumbers read.graph c.args.triples.now c.as_slice.result.now = rw c.as_slice.ensures.value c.requires.numbers in
    let read_is : IsRead c.args.base.now read.graph read.words c.as_slice-2.result.now c.args.triples.now = rw c.as_slice-2.ensures c.requires.read in
    let told : TellsFirstBad c.args.base.now c.args.triples.now c.in_ok-found.found = c.in_ok-found.ensures numbers_are read_is in
    inr (c.refusal_of.ensures c.args.base.now c.args.triples.now (subst (λ (found : Option BadTriple). TellsFirstBad c.args.base.now c.args.triples.now found) c.in-Some.is told))
