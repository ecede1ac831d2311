use Rattle.std.proofs.Common.{take}
use Rattle.members_dm.specs.Membership.{IsIn}
use Rattle.table_csv.specs.TableFiles.{name_fields}
use Rattle.table_csv.proofs.header.column_place.Given as goal

abbrev pub invariant-loop-place : goal.invariant-loop-place
invariant-loop-place l = ¬ IsIn l.field (name_fields (take l.place l.columns))
