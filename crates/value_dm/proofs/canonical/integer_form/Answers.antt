use Rattle.value_dm.proofs.canonical.integer_form.Goals as goal

pub returns-clause-lawful : goal.returns-clause-lawful
returns-clause-lawful c = c.ranges.number
