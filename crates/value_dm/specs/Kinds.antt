-- The kind of a value.
use Rattle.std.specs.Prelude.{◌≡◌, Option, Some, None}
use Rattle.value_dm.specs.declared.kind.Kind.{Kind}
use Rattle.value_dm.specs.declared.kind.Kind.TheVariants as kind
use Rattle.value_dm.specs.declared.value.Value.{Value}
use Rattle.value_dm.specs.declared.value.Value.TheVariants as value

abbrev pub kind_of : Value → Kind
kind_of (value.Text _) = kind.Text
kind_of (value.Integer _) = kind.Integer
kind_of (value.Decimal _) = kind.Decimal
kind_of (value.Boolean _) = kind.Boolean
kind_of (value.Date _) = kind.Date
kind_of (value.Time _) = kind.Time
kind_of (value.DateTime _) = kind.DateTime
kind_of (value.Binary _) = kind.Binary

-- NULL stands in a column of each kind
abbrev pub IsOfKind : Kind → Option Value → Type 0
IsOfKind k None = Unit {0}
IsOfKind k (Some v) = kind_of v ≡ k
