-- Names of tables and columns, and the places at which names stand.
use Rattle.std.specs.Prelude.{◌≡◌, ◌⊎◌, ℕ, List, [], ◌∷◌, Bool, Option, map, nat_eq, slice_get, slice_index_or}
use Rattle.std.specs.Option.{option_map}
use Rattle.std.specs.List.{Any, position_or_len}
use Rattle.std.specs.Cmp.Lexicographic.{pointwise}
use Rattle.value_dm.specs.Texts.{IsText}
use Rattle.value_dm.specs.declared.kind.Kind.{Kind}
use Rattle.schema_dm.specs.declared.draft.Column.{Column}

-- an identifier by its characters (ISO/IEC 9075-2, 5.4); identifiers are compared as they are written
abbrev pub Name : Type 0
Name = List ℕ

abbrev pub same_name : Name → Name → Bool
same_name x y = pointwise nat_eq x y

-- a name that is empty, or begins with the byte order mark U+FEFF
abbrev pub BeginsBadly : Name → Type 0
BeginsBadly [] = Unit {0}
BeginsBadly (c ∷ cs) = c ≡ 65279

-- such a name is bad, and so is a list of numbers that aren't all Unicode scalar values, which no text has
abbrev pub IsBadName : Name → Type 0
IsBadName name = (¬ IsText name) ⊎ BeginsBadly name

abbrev pub column_names : List Column → List Name
column_names columns = map (λ column. column.name) columns

-- the name of the column at the place, counted from 0; empty for a place that the table doesn't have
abbrev pub name_at : List Column → ℕ → Name
name_at columns place = slice_index_or (column_names columns) place []

-- a column of the name is declared
abbrev pub Declares : List Column → Name → Type 0
Declares columns name = Any (λ column. column.name ≡ name) columns

-- the place of the first column of the name, or the number of columns where there is none
abbrev pub column_place : List Column → Name → ℕ
column_place columns name = position_or_len (λ column. same_name column.name name) columns

-- the kind of the column at the place
abbrev pub kind_at : List Column → ℕ → Option Kind
kind_at columns place = option_map (λ column. column.kind) (slice_get columns place)
