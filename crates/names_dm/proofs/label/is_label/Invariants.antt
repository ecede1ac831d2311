use Rattle.std.proofs.Common.{◌≡◌}
use Rattle.names_dm.specs.Terminals.{last_of}
use Rattle.names_dm.proofs.Words.{is_nonempty, begins_well}
use Rattle.names_dm.proofs.label.is_label.Given as goal

-- the characters so far can stand so in a label, there is one, and which is the last
abbrev pub invariant-loop-c : goal.invariant-loop-c
invariant-loop-c l = (l.good ≡ begins_well l.yielded) × (l.begun ≡ is_nonempty l.yielded) × (l.last ≡ last_of 46 l.yielded)
