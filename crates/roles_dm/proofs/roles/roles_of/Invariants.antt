use Rattle.std.proofs.Common.{◌≡◌, List, length}
use Rattle.names_dm.specs.Statements.{Statement}
use Rattle.roles_dm.specs.Numbers.{AreDatatypes, AreWords, IsGraphOf}
use Rattle.roles_dm.specs.Roles.{HaveRoles}
use Rattle.roles_dm.proofs.roles.roles_of.Given as goal

-- those of the numbers up to this one
abbrev pub invariant-loop-before : goal.invariant-loop-before
invariant-loop-before l = (length l.roles ≡ l.before) × ((G : List Statement) → IsGraphOf l.graph G → AreWords l.graph l.words → AreDatatypes l.graph l.datatypes → HaveRoles l.base l.graph G l.roles)
