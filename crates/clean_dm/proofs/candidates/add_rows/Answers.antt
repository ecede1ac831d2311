use Rattle.keys_dm.specs.declared.index.Entry.{Entry}
use Rattle.std.proofs.Common.{subst}
use Rattle.clean_dm.specs.RowSets.{Gains}
use Rattle.clean_dm.proofs.ReferenceLemmas.{entries_all, entries_on}
use Rattle.clean_dm.proofs.candidates.add_rows.Goals as goal

abbrev no_entry : Entry
no_entry = record { hash = 0; row = 0 }

pub loop-entry-preserved : goal.loop-entry-preserved
loop-entry-preserved c =
    entries_on c.args.set.now c.loop-entry.set c.insert.new.self c.args.table c.loop-entry.entry-index no_entry c.args.entries.now c.loop-entry-test.true c.loop-entry.invariant
    (subst (λ row. Gains c.loop-entry.set c.insert.new.self c.args.table row) c.position.ensures c.in_ok-insert.ensures)

pub returns : goal.returns
returns c = entries_all c.args.set.now c.loop-entry.set c.args.table c.loop-entry.entry-index c.args.entries.now c.loop-entry-test.false c.loop-entry.invariant
