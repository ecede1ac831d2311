-- Tables that are binary relations. Tables, columns and foreign keys are counted from 0.
use Rattle.std.specs.Prelude.{◌≡◌, ◌⊎◌, ℕ, List, [], ◌∷◌, length, slice_get}
use Rattle.std.specs.declared.option.Option.TheVariants.{Some}
use Rattle.std.specs.List.{Any}
use Rattle.schema_dm.specs.declared.table.Table.{Table}
use Rattle.schema_dm.specs.declared.table.ForeignKey.{ForeignKey}
use Rattle.schema_dm.specs.declared.table.Binary.{Binary}
use Rattle.schema_dm.specs.Schemas.{table_at}

-- the foreign key is on the column at the place alone, and its target column is the whole primary key of its target
abbrev pub IsSide : List Table → ForeignKey → ℕ → Type 0
IsSide tables key place = (key.columns ≡ place ∷ []) × ((table_at tables key.target).primary ≡ Some key.target_columns)

-- the foreign key of this number is one on the column at the place
abbrev pub IsSideAt : List Table → List ForeignKey → ℕ → ℕ → Type 0
IsSideAt tables keys place number = (key : ForeignKey) × (slice_get keys number ≡ Some key) × IsSide tables key place

-- the primary key consists of the first and the second column, in either order
abbrev pub IsPairKey : Table → Type 0
IsPairKey table = (table.primary ≡ Some (0 ∷ 1 ∷ [])) ⊎ (table.primary ≡ Some (1 ∷ 0 ∷ []))

-- a foreign key of the schema has the table at the place as its target
abbrev pub IsTarget : List Table → ℕ → Type 0
IsTarget tables place = Any (λ other. Any (λ key. key.target ≡ place) other.foreign) tables

-- A table that says which rows of two tables belong together, and nothing more (Sequeda, Arenas and Miranker, On
-- Directly Mapping Relational Databases to RDF and OWL, WWW 2012: binary relations). It has exactly two columns,
-- which are its primary key in either order, and exactly two foreign keys, one on each column alone and onto the
-- whole primary key of its target; no foreign key has the table as its target.
pub record IsBinaryRelation (tables : List Table) (place : ℕ) (sides : Binary) : Type 0 where
  pub two_columns : length (table_at tables place).columns ≡ 2
  pub pair_key : IsPairKey (table_at tables place)
  pub two_keys : length (table_at tables place).foreign ≡ 2
  pub left : IsSideAt tables (table_at tables place).foreign 0 sides.left
  pub right : IsSideAt tables (table_at tables place).foreign 1 sides.right
  pub no_target : ¬ IsTarget tables place
