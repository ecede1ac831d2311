use Rattle.std.proofs.Common.{◌≡◌, not}
use Rattle.std.specs.List.{list_all}
use Rattle.names_dm.specs.Terminals.{is_variable_character}
use Rattle.names_dm.proofs.Words.{is_nonempty}
use Rattle.names_dm.proofs.var.is_variable.Given as goal

-- all characters so far are a variable's, and there is one
abbrev pub invariant-loop-c : goal.invariant-loop-c
invariant-loop-c l = (l.bad ≡ not (list_all is_variable_character l.yielded)) × (l.begun ≡ is_nonempty l.yielded)
