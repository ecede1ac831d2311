use Rattle.std.proofs.Common.{List, take}
use Rattle.members_dm.specs.Membership.{IsIn}
use Rattle.names_dm.specs.Statements.{Statement}
use Rattle.schema_dm.specs.Naming.{Name}
use Rattle.roles_dm.specs.Links.{HasKind}
use Rattle.roles_dm.specs.Numbers.{AreDatatypes, AreWords, IsGraphOf}
use Rattle.roles_dm.proofs.links.all_columns.Given as goal

abbrev pub invariant-loop-column : goal.invariant-loop-column
invariant-loop-column l =
    (G : List Statement) → IsGraphOf l.graph G → AreWords l.graph l.words → AreDatatypes l.graph l.datatypes → (c : Name) → IsIn c (take l.column-index l.name.columns) → HasKind l.base G l.name.table c
