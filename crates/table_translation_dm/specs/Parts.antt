-- The columns of a table in two parts.
use Rattle.schema_dm.specs.declared.table.Table.{Table}
use Rattle.algebra_dm.specs.Certain.{IsCertainColumn}
use Rattle.algebra_dm.specs.declared.query.Mode.{Mode}
use Rattle.table_patterns_dm.specs.TablePatterns.{AreDeclared}
use Rattle.table_translation_dm.specs.declared.columns.Parted.{Parted}

-- the certain columns, and the others
pub record AreParted (mode : Mode) (table : Table) (parts : Parted) : Type 0 where
  pub certain : AreDeclared table.columns (IsCertainColumn mode table) parts.certain
  pub others : AreDeclared table.columns (λ a. ¬ IsCertainColumn mode table a) parts.others
