-- What a pattern over a list of triples is answered, as text.
use Rattle.std.specs.Prelude.{◌≡◌, ℕ, List, map}
use Rattle.members_dm.specs.Membership.{IsIn}
use Rattle.names_dm.specs.Statements.{Statement}
use Rattle.pattern_dm.specs.Mappings.{Mapping}
use Rattle.pattern_dm.specs.Solution.{Solution}
use Rattle.pattern_dm.specs.declared.pattern.Pattern.{Pattern}
use Rattle.query_lines_dm.specs.Lines.{AreLinesOf, TermRow}

-- the set of the triples of a list
abbrev pub StandsIn : List Statement → Statement → Type 0
StandsIn triples t = IsIn t triples

-- the row is what a solution of the pattern over the triples binds the variables of the header to, and no term for a
-- variable that is unbound
abbrev pub IsSolutionRow : List Statement → Pattern → List (List ℕ) → TermRow → Type 0
IsSolutionRow triples p header row = (m : Mapping) × Solution (StandsIn triples) p m × (row ≡ map m header)

-- the text has the variables of the header, and then the rows of the solutions (SPARQL 1.1 Query Results CSV and TSV Formats,
-- section 4)
abbrev pub AreSolutionLines : List Statement → Pattern → List (List ℕ) → List ℕ → Type 0
AreSolutionLines triples p header text = AreLinesOf header (IsSolutionRow triples p header) text
