use Rattle.std.proofs.Common.{ℕ, List, map, subst, ap, ◌∙◌}
use Rattle.std.proofs.lemmas.List.{take_all}
use Rattle.members_dm.specs.Elements.{Each}
use Rattle.names_dm.specs.Variables.{variable_of}
use Rattle.query_rows_dm.specs.Relations.{OwnsVariable}
use Rattle.query_rows_dm.proofs.VariableLemmas.{not_empty, variables_more}
use Rattle.query_rows_dm.proofs.variables.variables_of.Goals as goal

pub variable_of-requires : goal.variable_of-requires
variable_of-requires c = not_empty c.args.names.now c.loop-name.name-index c.name-item.result c.loop-name-test.true c.name-item.is c.requires

pub loop-name-preserved : goal.loop-name-preserved
loop-name-preserved c = rw c.in_ok-push.ensures.ok
    (variables_more c.args.names.now c.loop-name.name-index c.name-item.result c.loop-name-test.true c.name-item.is c.loop-name.vars c.in_ok-variable_of.field-0 c.in_ok-variable_of.ensures.text c.in_ok-variable_of.ensures.owned c.loop-name.invariant)

pub returns-clause-texts : goal.returns-clause-texts
returns-clause-texts c = c.loop-name.invariant.0 ∙ ap (map variable_of) (take_all c.loop-name.name-index c.args.names.now c.loop-name-test.false)

pub returns-clause-owned : goal.returns-clause-owned
returns-clause-owned c = subst (λ (xs : List (List ℕ)). Each OwnsVariable xs) (take_all c.loop-name.name-index c.args.names.now c.loop-name-test.false) c.loop-name.invariant.1
