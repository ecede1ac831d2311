use Rattle.std.proofs.Common.{◌≡◌, [], take}
use Rattle.std.specs.List.{flat_map}
use Rattle.ddl_dm.specs.Meaning.{constraint_keys}
use Rattle.ddl_dm.specs.Building.{extended}
use Rattle.ddl_dm.proofs.drafts.add_constraints.Given as goal

-- the draft, with what the items so far add
abbrev pub invariant-loop-constraint : goal.invariant-loop-constraint
invariant-loop-constraint l = l.draft ≡ extended l.initial.draft [] (flat_map (constraint_keys l.name) (take l.constraint-index l.constraints))
