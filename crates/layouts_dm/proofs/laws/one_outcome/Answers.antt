use Rattle.std.proofs.Common.{[], refl}
use Rattle.layouts_dm.proofs.Outcomes.{empty_stands_for_nothing, one_cause, stands_without_cause}
use Rattle.layouts_dm.proofs.Tabling.{some_outcome}
use Rattle.layouts_dm.proofs.laws.one_outcome.Goals as goal

pub returns-clause-one_cause : goal.returns-clause-one_cause
returns-clause-one_cause c = one_cause c.args.base.now c.naming_laws.ensures

pub returns-clause-no_cause : goal.returns-clause-no_cause
returns-clause-no_cause c = λ G tables s. stands_without_cause c.args.base.now c.naming_laws.ensures G tables s

pub returns-clause-some_triple : goal.returns-clause-some_triple
returns-clause-some_triple c = λ tables s. empty_stands_for_nothing c.args.base.now c.naming_laws.ensures [] tables refl s

pub returns-clause-some_outcome : goal.returns-clause-some_outcome
returns-clause-some_outcome c = some_outcome c.args.base.now c.naming_laws.ensures
