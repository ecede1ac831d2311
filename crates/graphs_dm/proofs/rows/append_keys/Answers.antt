use Rattle.std.proofs.Common.{◌≡◌, ◌∙◌, ◌++◌, ℕ, List, Some, sym, ap, arith, length, refl}
use Rattle.std.proofs.lemmas.List.{append-nil}
use Rattle.std.proofs.lemmas.Option.{slice_get_read}
use Rattle.std.specs.Prelude.{slice_get}
use Rattle.schema_dm.specs.Schemas.{table_at}
use Rattle.schema_dm.specs.declared.table.Table.{Table}
use Rattle.graphs_dm.specs.Lines.{keys_line}
use Rattle.graphs_dm.proofs.Keys.{item_in, item_read}
use Rattle.graphs_dm.proofs.LineTexts.{up_to-more, up_to-none}
use Rattle.graphs_dm.proofs.rows.append_keys.Goals as goal

pub loop-k-init : goal.loop-k-init
loop-k-init c = sym (ap (λ (l : List ℕ). c.args.out.now.items ++ l) (up_to-none _) ∙ append-nil c.args.out.now.items)

pub append_key-requires-clause-target : goal.append_key-requires-clause-target
append_key-requires-clause-target c =
    (c.table_of-table.ensures.lawful.foreign c.key-item.result (item_in c.as_slice-key-items.result.now c.table_of-table.result.now.foreign c.loop-k.k c.key-item.result c.as_slice-key-items.ensures c.loop-k-test.true c.key-item.is)).target

pub append_key-requires-clause-key : goal.append_key-requires-clause-key
append_key-requires-clause-key c =
    item_read c.as_slice-key-items.result.now (table_at c.args.source.now.database.now.tables c.args.t).foreign c.loop-k.k c.key-item.result
    (c.as_slice-key-items.ensures ∙ ap (λ (table : Table). table.foreign) c.table_of-table.ensures.value) c.loop-k-test.true c.key-item.is

pub loop-k-preserved : goal.loop-k-preserved
loop-k-preserved c =
    let base = c.args.source.now.base.now in
    let D = c.args.source.now.database.now in
    let foreign = (table_at D.tables c.args.t).foreign in
    let items = c.as_slice-key-items.ensures ∙ ap (λ (table : Table). table.foreign) c.table_of-table.ensures.value in
    let key : slice_get foreign c.loop-k.k ≡ Some c.key-item.result = item_read c.as_slice-key-items.result.now foreign c.loop-k.k c.key-item.result items c.loop-k-test.true c.key-item.is in
    let many = ap length items in
    let head : slice_get c.args.heads.now c.loop-k.k ≡ Some c.index-heads-k.result =
    slice_get_read c.args.heads.now (length c.args.heads.now) c.loop-k.k c.index-heads-k.result refl (omega (arith, many, c.requires.many, c.loop-k-test.true)) c.index-heads-k.is in
    up_to-more (λ k. keys_line base D c.args.subject.now (slice_get c.args.heads.now k) (slice_get (table_at D.tables c.args.t).foreign k) c.args.row.now) c.loop-k.k c.args.out.now.items c.loop-k.out.items _ c.loop-k.invariant
    (rw (head, key, ← c.as_slice.ensures) c.in_ok-append_key.ensures)
