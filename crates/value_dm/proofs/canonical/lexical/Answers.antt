use Rattle.value_dm.proofs.Values.{lexical_form_one}
use Rattle.value_dm.proofs.canonical.lexical.Goals as goal

pub returns-clause-determines : goal.returns-clause-determines
returns-clause-determines c = λ other lawful kind form. lexical_form_one other _ lawful c.value_form.ensures.lawful kind form
