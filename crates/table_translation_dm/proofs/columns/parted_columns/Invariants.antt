use Rattle.algebra_dm.specs.Certain.{IsCertainColumn}
use Rattle.table_translation_dm.proofs.PartLemmas.{AreDeclaredTo}
use Rattle.table_translation_dm.proofs.columns.parted_columns.Given as goal

abbrev pub invariant-loop-place : goal.invariant-loop-place
invariant-loop-place l = AreDeclaredTo l.table.columns l.place (IsCertainColumn l.mode l.table) l.certain × AreDeclaredTo l.table.columns l.place (λ a. ¬ IsCertainColumn l.mode l.table a) l.others
