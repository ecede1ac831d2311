use Rattle.std.proofs.Common.{◌≡◌}
use Rattle.std.specs.List.{list_any}
use Rattle.names_dm.specs.Terminals.{is_forbidden}
use Rattle.names_dm.proofs.iri.is_iri.Given as goal

-- one of the characters so far is forbidden
abbrev pub invariant-loop-c : goal.invariant-loop-c
invariant-loop-c l = l.bad ≡ list_any is_forbidden l.yielded
