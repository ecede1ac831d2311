use Rattle.std.proofs.Common.{◌≡◌, ◌∙◌, ap}
use Rattle.std.proofs.lemmas.Bool.{le-leb, leb-true}
use Rattle.schema_dm.specs.Schemas.{table_at}
use Rattle.schema_dm.specs.declared.table.Table.{Table}
use Rattle.clean_dm.proofs.CheckingLemmas.{has_number}
use Rattle.clean_dm.proofs.checking.has_foreign.Goals as goal

pub returns-then-number-gt0 : goal.returns-then-number-gt0
returns-then-number-gt0 c =
    let keys : c.as_slice.result.now ≡ (table_at c.args.database.now.tables c.args.table).foreign = c.as_slice.ensures ∙ ap (λ (table : Table). table.foreign) c.table_of.ensures.value in
    let told = has_number (table_at c.args.database.now.tables c.args.table).foreign c.args.number c.if-number-gt0.true in
    rw keys ((λ h. told.0 (leb-true c.args.number _ h)), (λ h. le-leb c.args.number _ (told.1 h)))
