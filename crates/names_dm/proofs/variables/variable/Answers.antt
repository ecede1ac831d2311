use Rattle.std.proofs.Common.{◌∙◌, ap, subst, chars}
use Rattle.names_dm.specs.Variables.{IsReserved}
use Rattle.names_dm.proofs.VariableLaws.{never_reserved, variable_of-injective}
use Rattle.names_dm.proofs.variables.variable.Goals as goal

pub returns-clause-apart : goal.returns-clause-apart
returns-clause-apart c = λ other same. variable_of-injective other (chars c.args.name.now) (same ∙ c.of_grammar.ensures ∙ c.in_ok-text.ensures.text)

pub returns-clause-free : goal.returns-clause-free
returns-clause-free c = λ reserved. never_reserved (chars c.args.name.now) (subst IsReserved (c.of_grammar.ensures ∙ c.in_ok-text.ensures.text) reserved)
