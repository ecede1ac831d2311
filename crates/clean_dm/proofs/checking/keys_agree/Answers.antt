use Rattle.std.proofs.Common.{◌≡◌, ◌∙◌, ◌+◌, ◌<◌, ◌≤◌, ap, arith, ℕ, Some, true, false, get_or, length, refl, subst, sym}
use Rattle.std.specs.Prelude.{slice_get}
use Rattle.std.proofs.lemmas.Option.{slice_get_read, slice_get_within}
use Rattle.members_dm.proofs.ElementsLemmas.{item_at_index}
use Rattle.schema_dm.specs.Schemas.{IsForeignKey, table_at}
use Rattle.schema_dm.specs.declared.table.ForeignKey.{ForeignKey}
use Rattle.schema_dm.specs.declared.table.Table.{Table}
use Rattle.clean_dm.specs.Checking.{KeyAgrees}
use Rattle.clean_dm.proofs.CheckingLemmas.{below_one_more}
use Rattle.clean_dm.proofs.checking.keys_agree.Goals as goal

pub key_agrees-requires-clause-lawful : goal.key_agrees-requires-clause-lawful
key_agrees-requires-clause-lawful c =
    let below : c.loop-place.place < length c.table_of.result.now.foreign = rw c.as_slice-key-items.ensures at c.loop-place-test.true in
    let read : c.key-item.result ≡ get_or c.table_of.result.now.foreign c.loop-place.place c.key-item.result = rw c.as_slice-key-items.ensures at c.key-item.is in
    let there = slice_get_read c.table_of.result.now.foreign (length c.table_of.result.now.foreign) c.loop-place.place c.key-item.result refl below read in
    subst (λ (table : Table). IsForeignKey c.args.database.now.tables table c.key-item.result) c.table_of.ensures.value (c.table_of.ensures.lawful.foreign c.key-item.result (item_at_index c.key-item.result c.table_of.result.now.foreign c.loop-place.place there))

pub returns-then-not-branch : goal.returns-then-not-branch
returns-then-not-branch c =
    let items : c.as_slice-key-items.result.now ≡ (table_at c.args.database.now.tables c.args.table).foreign = c.as_slice-key-items.ensures ∙ ap (λ (table : Table). table.foreign) c.table_of.ensures.value in
    let below : c.loop-place.place < length (table_at c.args.database.now.tables c.args.table).foreign = rw items at c.loop-place-test.true in
    let read : c.key-item.result ≡ get_or (table_at c.args.database.now.tables c.args.table).foreign c.loop-place.place c.key-item.result = rw items at c.key-item.is in
    let there = slice_get_read (table_at c.args.database.now.tables c.args.table).foreign (length (table_at c.args.database.now.tables c.args.table).foreign) c.loop-place.place c.key-item.result refl below read in (
      (λ h. absurd (let no : false ≡ true = h in cc)),
      (λ all. absurd (let yes : c.in_ok-key_agrees.field-0 ≡ true = c.in_ok-key_agrees.ensures.1 (all c.loop-place.place c.key-item.result there) in let no = c.if-not-branch.true in cc)),
    )

pub loop-place-preserved : goal.loop-place-preserved
loop-place-preserved c =
    let items : c.as_slice-key-items.result.now ≡ (table_at c.args.database.now.tables c.args.table).foreign = c.as_slice-key-items.ensures ∙ ap (λ (table : Table). table.foreign) c.table_of.ensures.value in
    let below : c.loop-place.place < length (table_at c.args.database.now.tables c.args.table).foreign = rw items at c.loop-place-test.true in
    let read : c.key-item.result ≡ get_or (table_at c.args.database.now.tables c.args.table).foreign c.loop-place.place c.key-item.result = rw items at c.key-item.is in
    let there = slice_get_read (table_at c.args.database.now.tables c.args.table).foreign (length (table_at c.args.database.now.tables c.args.table).foreign) c.loop-place.place c.key-item.result refl below read in
    let D = c.args.database.now in
    let removals = c.args.removals.now in
    let turns = c.args.turns.now in
    let agrees = c.in_ok-key_agrees.ensures.0 c.if-not-branch.false in
    below_one_more (λ (p : ℕ). (key : ForeignKey) → slice_get (table_at D.tables c.args.table).foreign p ≡ Some key → KeyAgrees D removals turns c.args.table (p + 1) key) c.loop-place.place
    c.loop-place.invariant
    (λ key got.
    let one : Some c.key-item.result ≡ Some key = sym there ∙ got in
    let same : c.key-item.result ≡ key = cc in
    subst (KeyAgrees D removals turns c.args.table (c.loop-place.place + 1)) same agrees)

pub returns : goal.returns
returns c =
    let items : c.as_slice-key-items.result.now ≡ (table_at c.args.database.now.tables c.args.table).foreign = c.as_slice-key-items.ensures ∙ ap (λ (table : Table). table.foreign) c.table_of.ensures.value in
    let whole : length (table_at c.args.database.now.tables c.args.table).foreign ≤ c.loop-place.place = rw items at c.loop-place-test.false in (
      (λ h place key got.
          let below = slice_get_within (table_at c.args.database.now.tables c.args.table).foreign place key got in
          c.loop-place.invariant place (omega arith) key got),
      (λ h. refl),
    )
