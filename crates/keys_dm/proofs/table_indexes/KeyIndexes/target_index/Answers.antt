use Rattle.std.proofs.Common.{◌≡◌, ◌<◌, ◌≤◌, Option, Some, arith, length, get_or, sym, subst, rules}
use Rattle.std.proofs.lemmas.Option.{get_or_from_slice_get, slice_get_within}
use Rattle.schema_dm.specs.Schemas.{table_at}
use Rattle.table_csv.specs.Databases.{rows_at}
use Rattle.table_csv.proofs.Zips.{zipped_length}
use Rattle.keys_dm.specs.Indexes.{IsIndexOf}
use Rattle.keys_dm.specs.TableIndexes.{FindsTargets, IsIndexIfGiven}
use Rattle.keys_dm.specs.declared.index.KeyIndex.{KeyIndex}
use Rattle.keys_dm.proofs.KeyLists.{finds_target}
use Rattle.keys_dm.proofs.RowLevels.{zipped_read}
use Rattle.keys_dm.proofs.table_indexes.KeyIndexes.target_index.Goals as goal

pub returns-in-None : goal.returns-in-None
returns-in-None c =
    let below : c.args.place < length (table_at c.args.database.now.tables c.args.table).foreign = slice_get_within (table_at c.args.database.now.tables c.args.table).foreign c.args.place c.args.key.now c.requires.key in
    let long = zipped_length (FindsTargets c.args.database.now) (table_at c.args.database.now.tables c.args.table).foreign c.of_table-2.result.now.foreign c.of_table-2.ensures.foreign in
    let past : length c.of_table-2.result.now.foreign ≤ c.args.place = search rules in
    absurd (omega (arith, below, long, past))

pub returns-in-Some : goal.returns-in-Some
returns-in-Some c =
    let below : c.args.place < length (table_at c.args.database.now.tables c.args.table).foreign = slice_get_within (table_at c.args.database.now.tables c.args.table).foreign c.args.place c.args.key.now c.requires.key in
    let read = sym (get_or_from_slice_get (table_at c.args.database.now.tables c.args.table).foreign c.args.place c.args.key.now c.args.key.now c.requires.key) in
    let own_read : c.in-Some.own.now ≡ get_or c.of_table-2.result.now.foreign c.args.place c.in-Some.own.now = search rules in
    let finds = zipped_read (FindsTargets c.args.database.now) (table_at c.args.database.now.tables c.args.table).foreign c.of_table-2.result.now.foreign c.args.place c.args.key.now c.in-Some.own.now c.of_table-2.ensures.foreign below read own_read in
    subst (λ (index : Option KeyIndex). IsIndexIfGiven (IsIndexOf (rows_at c.args.database.now.rows c.args.key.now.target)) (Some c.args.key.now.target_columns) index) (sym c.own_or.ensures)
    (finds_target c.args.database.now c.args.key.now c.in-Some.own.now c.of_table.result.now.primary finds c.of_table.ensures.primary)
