use Rattle.roles_dm.specs.Numbered.{AreNumbers}
use Rattle.roles_dm.specs.Roles.{IsRead}
use Rattle.roles_dm.proofs.BadLemmas.{HasPassed}
use Rattle.roles_dm.proofs.bad.first_bad.Given as goal

abbrev pub invariant-loop-before : goal.invariant-loop-before
invariant-loop-before l = AreNumbers l.graph l.triples l.numbers → IsRead l.base l.graph l.words l.roles l.triples → HasPassed l.base l.graph l.roles l.triples l.before l.seen
