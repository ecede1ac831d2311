-- What is made at the operators of a query from the patterns of its parts.
use Rattle.std.specs.Prelude.{◌≡◌, ℕ, List, map}
use Rattle.members_dm.specs.Membership.{IsIn}
use Rattle.schema_dm.specs.Naming.{Name}
use Rattle.schema_dm.specs.Schemas.{IsSchema}
use Rattle.schema_dm.specs.declared.table.Table.{Table as SchemaTable}
use Rattle.algebra_dm.specs.Attributes.{AreAttributes, HasAttribute, Lists}
use Rattle.algebra_dm.specs.declared.query.Mode.{Mode}
use Rattle.algebra_dm.specs.declared.query.Query.{Query}
use Rattle.pattern_dm.specs.declared.pattern.Pattern.{Pattern}
use Rattle.pattern_dm.specs.declared.pattern.Pattern.TheVariants as patterns
use Rattle.keeping_dm.specs.Guards.{guarded, joined, new_names, same_names}
use Rattle.keeping_dm.specs.LawfulValues.{HasLawfulValues}
use Rattle.translate_dm.specs.Translation.{IsMarkerClass, Translates}

-- the tables of a schema, with their names, and the class that marks differences
pub record IsReady (mode : Mode) (base : List ℕ) (tables : List SchemaTable) (names : List Name) (class : List ℕ) : Type 0 where
  pub schema : IsSchema tables
  pub named : names ≡ map (λ (table : SchemaTable). table.name) tables
  pub marker : IsMarkerClass mode base tables class

-- the pattern of the query, whose values obey the rules of their types
abbrev pub IsMade : Mode → List ℕ → List SchemaTable → Query → Pattern → Type 0
IsMade mode base tables q p = Translates mode base tables q p × HasLawfulValues q

abbrev pub IsProjected : List Name → Pattern → Pattern → Type 0
IsProjected names part p = (sorted : List Name) × Lists (λ a. IsIn a names) sorted × (p ≡ patterns.Select part (same_names sorted))

-- q: the renaming itself
abbrev pub IsRenamed : List SchemaTable → Query → Name → Name → Pattern → Pattern → Type 0
IsRenamed tables q from to part p = (names : List Name) × AreAttributes tables q names × (p ≡ patterns.Select part (new_names from to names))

abbrev pub IsJoined : List SchemaTable → Query → Query → Pattern → Pattern → Pattern → Type 0
IsJoined tables q r left right p =
    (common : List Name) × Lists (λ a. HasAttribute tables q a × HasAttribute tables r a) common × (p ≡ joined common left right)

-- the guarded difference in the attributes of q
abbrev pub IsGuarded : List SchemaTable → Query → List ℕ → Pattern → Pattern → Pattern → Type 0
IsGuarded tables q class left right p = (names : List Name) × AreAttributes tables q names × (p ≡ guarded names class left right)
