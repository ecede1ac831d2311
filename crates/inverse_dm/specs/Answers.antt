-- What comes of a graph: tables, or why it is refused. Triples are counted from 1 here.
use Rattle.std.specs.Prelude.{◌≡◌, ℕ, suc, List, []}
use Rattle.std.specs.List.{AllZip}
use Rattle.names_dm.specs.Statements.{Statement}
use Rattle.table_csv.specs.Plain.{PlainTable}
use Rattle.layouts_dm.specs.LayoutTables.{SamePlain, StandsFor}
use Rattle.layouts_dm.specs.Outcomes.{Cause, FirstBad}
use Rattle.layouts_dm.specs.Outcomes as cause
use Rattle.inverse_dm.specs.Limits.{Exceeds, IsWithinLimits}
use Rattle.inverse_dm.specs.declared.error.InverseError.{InverseError}
use Rattle.inverse_dm.specs.declared.error.InverseError.TheVariants.{NoTables, Unexplained, TwoValues, TwoTables, NoKeyValue, TooManyTables, TooManyColumns, TooManyRows, Memory}

-- the triple at the place is the first to which a cause applies, and this one applies
abbrev pub IsFirstBadAt : List ℕ → List Statement → ℕ → Cause → Type 0
IsFirstBadAt base G place cause = (i : ℕ) × (place ≡ suc i) × FirstBad base G i cause

-- the graph stands for tables, and all lists of tables that it stands for are such
pub record StandsForSuch (base : List ℕ) (G : List Statement) (AreSuch : List PlainTable → Type 0) : Type 0 where
  pub tables : List PlainTable
  pub stands : StandsFor base G tables
  pub such : (others : List PlainTable) → StandsFor base G others → AreSuch others

-- why a graph is refused; want of memory is no reason of the graph's
abbrev pub Refuses : List ℕ → List Statement → InverseError → Type 0
Refuses base G NoTables = G ≡ []
Refuses base G (Unexplained place) = IsFirstBadAt base G place cause.Unexplained
Refuses base G (TwoValues place) = IsFirstBadAt base G place cause.TwoValues
Refuses base G (TwoTables place) = IsFirstBadAt base G place cause.TwoTables
Refuses base G (NoKeyValue place) = IsFirstBadAt base G place cause.NoKeyValue
Refuses base G TooManyTables = StandsForSuch base G (Exceeds TooManyTables)
Refuses base G TooManyColumns = StandsForSuch base G (Exceeds TooManyColumns)
Refuses base G TooManyRows = StandsForSuch base G (Exceeds TooManyRows)
Refuses base G Memory = ⊥

-- the graph stands for these tables, which are within the limits
pub record StandsWithin (base : List ℕ) (G : List Statement) (tables : List PlainTable) : Type 0 where
  pub stands : StandsFor base G tables
  pub limits : IsWithinLimits tables

-- each list of tables that the graph stands for has the same tables, with the same rows in any order
abbrev pub IsDetermined : List ℕ → List Statement → List PlainTable → Type 0
IsDetermined base G tables = (others : List PlainTable) → StandsFor base G others → AllZip SamePlain tables others
