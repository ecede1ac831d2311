-- Triples of numbers, and the triads that begin with one or another of them.
use Rattle.std.specs.Prelude.{ℕ, List, map}
use Rattle.store_dm.specs.declared.listing.Triad.{Triad}
use Rattle.store_dm.specs.declared.matches.Beginning.{Beginning}
use Rattle.store_dm.specs.declared.matches.Beginning.TheVariants.{Subject, Predicate, Object}
use Rattle.store_dm.specs.declared.matches.Matches.{Matches}

abbrev pub numbers : Beginning → Triad → ℕ × ℕ × ℕ
numbers Subject x = (x.first, x.second, x.third)
numbers Predicate x = (x.third, x.first, x.second)
numbers Object x = (x.second, x.third, x.first)

-- the triad of a triple
abbrev pub turned : Beginning → ℕ → ℕ → ℕ → Triad
turned Subject s p o = record { first = s; second = p; third = o }
turned Predicate s p o = record { first = p; second = o; third = s }
turned Object s p o = record { first = o; second = s; third = p }

-- what an iterator has left
abbrev pub matches_left : Matches → List (ℕ × ℕ × ℕ)
matches_left m = map (numbers m.beginning) m.triads.now

abbrev pub turn : Beginning → Triad → Triad
turn b x = turned b x.first x.second x.third
