use Rattle.std.proofs.Common.{refl}
use Rattle.std.proofs.lemmas.Option.{slice_get_read}
use Rattle.members_dm.proofs.ElementsLemmas.{item_at_index}
use Rattle.schema_dm.specs.Schemas.{IsSchema}
use Rattle.database_tests.proofs.bases.table_rows.Goals as goal

-- the columns of a schema's table have distinct names
pub read_table-requires : goal.read_table-requires
read_table-requires c =
    let valid : IsSchema c.tables.result.now = rw c.tables.ensures.value c.tables.ensures.valid in
    let there = item_at_index c.in-Some.table.now c.tables.result.now c.args.t (slice_get_read _ _ c.args.t _ refl c.in-Some.ensures.lookup.3.0 c.in-Some.ensures.lookup.1) in
    (valid.each c.in-Some.table.now there).distinct
