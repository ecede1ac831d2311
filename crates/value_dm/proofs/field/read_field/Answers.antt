use Rattle.value_dm.proofs.Values.{spells_one}
use Rattle.value_dm.proofs.field.read_field.Goals as goal

pub returns-then-is_null-clause-one : goal.returns-then-is_null-clause-one
returns-then-is_null-clause-one c = spells_one _ _ _

pub returns-in-Ok-clause-one : goal.returns-in-Ok-clause-one
returns-in-Ok-clause-one c = spells_one _ _ _

pub returns-in-Err-clause-one : goal.returns-in-Err-clause-one
returns-in-Err-clause-one c = spells_one _ _ _
