-- The cells of nodes: the literals that a graph gives them.
use Rattle.std.specs.Prelude.{◌≡◌, ◌≢◌, ◌⊎◌, ℕ, List, MatchOption, None, Option, Some}
use Rattle.value_dm.specs.declared.kind.Kind.{Kind}
use Rattle.value_dm.specs.declared.kind.Kind.TheVariants as kind
use Rattle.value_dm.specs.declared.value.Value.{Value}
use Rattle.value_dm.specs.Kinds.{kind_of}
use Rattle.value_dm.specs.Lawful.{IsLawful}
use Rattle.value_dm.specs.Lexical.{lexical_form}
use Rattle.names_dm.specs.declared.term.Term.{Term}
use Rattle.facts_dm.specs.Facts.{literal_term}
use Rattle.table_csv.specs.Cells.{Cell}
use Rattle.store_dm.specs.Graphs.{GraphValue}
use Rattle.store_dm.specs.Terms.{term_at}
use Rattle.layouts_dm.specs.LayoutTables.{value_text}
use Rattle.roles_dm.specs.Numbers.{HasNumbers}
use Rattle.roles_dm.specs.Roles.{role_at}
use Rattle.roles_dm.specs.declared.role.Role.{Role}
use Rattle.roles_dm.specs.declared.role.Role.TheVariants as role

-- ---- values

-- a value of the kind by the rules of values
abbrev pub IsValueOf : Kind → Value → Type 0
IsValueOf k v = (kind_of v ≡ k) × IsLawful v

-- the value of the kind whose canonical lexical form is the text, if there is one (R2RML, section 10.2)
abbrev pub TellsCanonical : Kind → List ℕ → Cell → Type 0
TellsCanonical k text found = MatchOption found ((v : Value) → IsValueOf k v → lexical_form v ≢ text) (λ v. IsValueOf k v × (lexical_form v ≡ text))

-- the value of the kind whose canonical literal the term is, if there is one
abbrev pub TellsValue : Kind → Term → Cell → Type 0
TellsValue k x found = MatchOption found ((v : Value) → IsValueOf k v → x ≢ literal_term (value_text v)) (λ v. IsValueOf k v × (x ≡ literal_term (value_text v)))

-- the same of the term of a number
abbrev pub TellsObject : GraphValue → Kind → ℕ → Cell → Type 0
TellsObject g k o found =
    MatchOption found ((v : Value) → IsValueOf k v → term_at g.terms o ≢ Some (literal_term (value_text v))) (λ v. IsValueOf k v × (term_at g.terms o ≡ Some (literal_term (value_text v))))

-- ---- cells

-- the kind of a column, and of anything else a text's
abbrev pub role_kind : Role → Kind
role_kind (role.Column column) = column.kind
role_kind (role.Class t) = kind.Text
role_kind (role.Link link) = kind.Text
role_kind role.Nothing = kind.Text

abbrev pub some_kind : Option Role → Kind
some_kind (Some r) = role_kind r
some_kind None = kind.Text

-- the kind of the column whose IRI has the number
abbrev pub kind_at : List Role → ℕ → Kind
kind_at roles n = some_kind (role_at roles n)

-- The cell of the node n in the column c: the value of an object that n has with c. NULL where there is no object, or one
-- that is no canonical literal of the column's kind.
abbrev pub IsCellAt : GraphValue → List Role → ℕ → ℕ → Cell → Type 0
IsCellAt g roles n c cell = (((o : ℕ) → ¬ HasNumbers g n c o) × (cell ≡ None)) ⊎ ((o : ℕ) × HasNumbers g n c o × TellsObject g (kind_at roles c) o cell)
