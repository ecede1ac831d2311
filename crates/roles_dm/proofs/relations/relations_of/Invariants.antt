use Rattle.std.proofs.Common.{List, suc}
use Rattle.names_dm.specs.Statements.{Statement}
use Rattle.roles_dm.specs.Numbers.{AreWords, IsGraphOf}
use Rattle.roles_dm.specs.Relations.{AreRelationsBelow}
use Rattle.roles_dm.proofs.relations.relations_of.Given as goal

-- those of the numbers up to this one
abbrev pub invariant-loop-before : goal.invariant-loop-before
invariant-loop-before l = (G : List Statement) → IsGraphOf l.graph G → AreWords l.graph l.words → AreRelationsBelow l.base l.graph G (suc l.before) l.relations
