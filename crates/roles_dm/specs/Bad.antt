-- The first bad triple of a graph.
use Rattle.std.specs.Prelude.{◌≡◌, ℕ, suc, List, MatchOption, Option}
use Rattle.names_dm.specs.Statements.{Statement}
use Rattle.layouts_dm.specs.Outcomes.{Applies, Cause, FirstBad, NoKeyValue, TwoTables, TwoValues, Unexplained}
use Rattle.roles_dm.specs.declared.cause.BadTriple.{BadTriple}
use Rattle.roles_dm.specs.declared.cause.Cause.{Cause as TheCause}
use Rattle.roles_dm.specs.declared.cause.Cause.TheVariants as the

abbrev pub cause_of : TheCause → Cause
cause_of the.Unexplained = Unexplained
cause_of the.TwoValues = TwoValues
cause_of the.TwoTables = TwoTables
cause_of the.NoKeyValue = NoKeyValue

-- the first triple to which a cause applies, and this cause, if there is one; the first triple has the place 1
abbrev pub TellsFirstBad : List ℕ → List Statement → Option BadTriple → Type 0
TellsFirstBad base G found =
    MatchOption found ((i : ℕ) (cause : Cause) → ¬ Applies base G i cause) (λ bad. (i : ℕ) × (bad.place ≡ suc i) × FirstBad base G i (cause_of bad.cause))
