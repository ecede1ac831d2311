-- Literals in the canonical form of a kind.
use Rattle.std.specs.Prelude.{◌≡◌}
use Rattle.value_dm.specs.declared.kind.Kind.{Kind}
use Rattle.names_dm.specs.declared.term.Term.{Term}
use Rattle.facts_dm.specs.Facts.{KindText, literal_term}
use Rattle.layouts_dm.specs.Layouts.{IsCanonical}

-- the term is a literal of the kind in its canonical form (R2RML, section 10.2)
abbrev pub IsCanonicalOf : Kind → Term → Type 0
IsCanonicalOf k x = (v : KindText) × (x ≡ literal_term v) × (v.kind ≡ k) × IsCanonical v
