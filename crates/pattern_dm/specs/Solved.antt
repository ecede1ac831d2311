-- Rows of numbers as mappings to terms, where 0 is unbound.
use Rattle.std.specs.Prelude.{◌≡◌, ◌↔◌, ◌<◌, ◌≤◌, ℕ, List, length}
use Rattle.names_dm.specs.declared.term.Term.{Term}
use Rattle.solutions_dm.specs.Columns.{number_at}
use Rattle.solutions_dm.specs.Table.{Table}
use Rattle.store_dm.specs.Graphs.{GraphValue, HasTriple}
use Rattle.store_dm.specs.Slots.{AreOnce}
use Rattle.store_dm.specs.Terms.{term_at}
use Rattle.pattern_dm.specs.declared.pattern.Pattern.{Pattern}
use Rattle.pattern_dm.specs.Mappings.{Mapping}
use Rattle.pattern_dm.specs.Solution.{Solution}

-- the mapping of a row
abbrev pub mapping_at : List Term → Table → ℕ → Mapping
mapping_at terms s i x = term_at terms (number_at s.columns i x)

-- one of the rows is this mapping
abbrev pub HasSolution : List Term → Table → Mapping → Type 0
HasSolution terms s m = (i : ℕ) × (i < s.rows) × ((x : List ℕ) → m x ≡ mapping_at terms s i x)

-- each number is 0 or a term's
abbrev pub AreNumbers : List Term → Table → Type 0
AreNumbers terms s = (i : ℕ) (x : List ℕ) → i < s.rows → number_at s.columns i x ≤ length terms

-- exactly these mappings, and no two rows have the same numbers
pub record IsOutcome (terms : List Term) (P : Mapping → Type 0) (s : Table) : Type 0 where
  pub exact : (m : Mapping) → HasSolution terms s m ↔ P m
  pub once : AreOnce s
  pub numbers : AreNumbers terms s

-- exactly the solutions of the pattern, each once
pub record AreSolutions (g : GraphValue) (p : Pattern) (s : Table) : Type 0 where
  pub exact : (m : Mapping) → HasSolution g.terms s m ↔ Solution (HasTriple g) p m
  pub once : (i j : ℕ) → i < j → j < s.rows → ((x : List ℕ) → mapping_at g.terms s i x ≡ mapping_at g.terms s j x) → ⊥
  pub numbers : AreNumbers g.terms s

-- the same, where no two rows have the same numbers
abbrev pub IsSolved : GraphValue → Pattern → Table → Type 0
IsSolved g p s = IsOutcome g.terms (Solution (HasTriple g) p) s
