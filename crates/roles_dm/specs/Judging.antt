-- What has been seen of a graph up to a place, and whether the triple there passes.
use Rattle.std.specs.Prelude.{ℕ, List, MatchOption, Option, suc}
use Rattle.names_dm.specs.Statements.{Statement}
use Rattle.store_dm.specs.Graphs.{GraphValue}
use Rattle.layouts_dm.specs.Outcomes.{Applies, Passes}
use Rattle.roles_dm.specs.Bad.{cause_of}
use Rattle.roles_dm.specs.Columned.{AreColumned}
use Rattle.roles_dm.specs.Seen.{AreFirsts, AreValued}
use Rattle.roles_dm.specs.declared.bad.Seen.{Seen}
use Rattle.roles_dm.specs.declared.cause.Cause.{Cause}
use Rattle.roles_dm.specs.declared.role.Role.{Role}

-- what the triples before the place i told
pub record IsSeen (base : List ℕ) (g : GraphValue) (rs : List Role) (G : List Statement) (i : ℕ) (seen : Seen) : Type 0 where
  pub columned : AreColumned rs seen.columned
  pub firsts : AreFirsts base g G i seen.firsts
  pub valued : AreValued g rs seen.valued

-- the triple at the place i passes, and what it says is seen, or the cause applies to it
abbrev pub TellsCause : List ℕ → GraphValue → List Role → List Statement → ℕ → Seen → Option Cause → Type 0
TellsCause base g rs G i seen found = MatchOption found (Passes base G i × IsSeen base g rs G (suc i) seen) (λ cause. Applies base G i (cause_of cause))
