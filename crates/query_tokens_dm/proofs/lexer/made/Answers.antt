use Rattle.std.proofs.Common.{ap, ◌∙◌}
use Rattle.query_tokens_dm.specs.Scanning.Front.{Bad, Closes, Opens, Space}
use Rattle.query_tokens_dm.specs.Views.{front_seen}
use Rattle.query_tokens_dm.proofs.Fronts.{bad_is, stands}
use Rattle.query_tokens_dm.proofs.lexer.made.Goals as goal

pub returns-in-Space-clause-found : goal.returns-in-Space-clause-found
returns-in-Space-clause-found c = λ ts e. stands ts (Space c.in-Space.rest.now) (e ∙ ap front_seen c.in-Space.is)

pub returns-in-Opens-clause-found : goal.returns-in-Opens-clause-found
returns-in-Opens-clause-found c = λ ts e. stands ts (Opens c.in-Opens.rest.now) (e ∙ ap front_seen c.in-Opens.is)

pub returns-in-Closes-clause-found : goal.returns-in-Closes-clause-found
returns-in-Closes-clause-found c = λ ts e. stands ts (Closes c.in-Closes.rest.now) (e ∙ ap front_seen c.in-Closes.is)

pub returns-in-Bad-clause-found : goal.returns-in-Bad-clause-found
returns-in-Bad-clause-found c = λ ts e. bad_is ts (e ∙ ap front_seen c.in-Bad.is)
