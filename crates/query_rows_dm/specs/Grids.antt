-- Cells as terms.
use Rattle.std.specs.Prelude.{List, map}
use Rattle.std.specs.declared.option.Option.{Option}
use Rattle.std.specs.declared.option.Option.TheVariants.{None, Some}
use Rattle.value_dm.specs.Kinds.{kind_of}
use Rattle.value_dm.specs.Lexical.{lexical_form}
use Rattle.value_dm.specs.declared.value.Value.{Value}
use Rattle.names_dm.specs.Literals.{literal_of}
use Rattle.names_dm.specs.declared.term.Term.{Term}
use Rattle.names_dm.specs.declared.term.Term.TheVariants as terms
use Rattle.facts_dm.specs.Vocabulary.{literal_type}
use Rattle.table_csv.specs.Cells.{Cell, Row}

-- the natural literal of a value (R2RML, section 10.2)
abbrev pub term_of : Value → Term
term_of value = terms.Literal (literal_of (lexical_form value) (literal_type (kind_of value)))

-- NULL has no term
abbrev pub term_in : Cell → Option Term
term_in None = None
term_in (Some value) = Some (term_of value)

abbrev pub grid_of : List Row → List (List (Option Term))
grid_of rows = map (map term_in) rows
