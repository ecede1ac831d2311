-- Queries in which no name is empty.
use Rattle.std.specs.Prelude.{[]}
use Rattle.members_dm.specs.Elements.{Each}
use Rattle.members_dm.specs.Membership.{IsIn}
use Rattle.algebra_dm.specs.Nodes.{names_at, nodes}
use Rattle.algebra_dm.specs.declared.query.Query.{Query}

abbrev pub AreNamed : Query → Type 0
AreNamed q = Each (λ node. ¬ IsIn [] (names_at node)) (nodes q)
