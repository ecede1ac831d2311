use Rattle.std.proofs.Common.{chars, refl}
use Rattle.sparql_tokens_dm.proofs.Variables.{no_variable, variable_made}
use Rattle.sparql_tokens_dm.proofs.lexer.variable.Goals as goal

pub returns-in-Some-clause-seen : goal.returns-in-Some-clause-seen
returns-in-Some-clause-seen c = variable_made (chars c.args.text.now) c.in_ok-name.name (chars c.in_ok-name.rest.now) c.in-Some.name c.in_ok-name.ensures.found c.in-Some.ensures.text (c.in-Some.ensures.grammar.0 refl)

pub returns-in-None-clause-seen : goal.returns-in-None-clause-seen
returns-in-None-clause-seen c = no_variable (chars c.args.text.now) c.in_ok-name.name (chars c.in_ok-name.rest.now) c.in_ok-name.ensures.found (λ e. let k = c.in-None.ensures.grammar.1 e in cc k)
