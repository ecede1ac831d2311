use Rattle.std.proofs.Common.{List, subst}
use Rattle.members_dm.specs.Membership.{IsIn}
use Rattle.schema_dm.specs.declared.table.ShapeTable.{ShapeTable}
use Rattle.cmd_dm.proofs.StoredTables.{text_columns}
use Rattle.cmd_dm.proofs.invert.files_of.Goals as goal

pub folder_files-requires-clause-columns : goal.folder_files-requires-clause-columns
folder_files-requires-clause-columns c =
    λ table m. text_columns table (c.as_slice.ensures.shape.each table (subst (λ (shape : List ShapeTable). IsIn table shape) c.as_slice.ensures.value m))
