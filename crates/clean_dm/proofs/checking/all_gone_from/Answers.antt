use Rattle.std.proofs.Common.{List, get_or, subst, sym, take}
use Rattle.std.proofs.lemmas.List.{take_all, take_more}
use Rattle.keys_dm.specs.declared.index.Entry.{Entry}
use Rattle.clean_dm.specs.Checking.{HoldsFrom}
use Rattle.clean_dm.proofs.CheckingLemmas.{AllGone, gone_more}
use Rattle.clean_dm.proofs.checking.all_gone_from.Goals as goal

abbrev no_entry : Entry
no_entry = record { hash = 0; row = 0 }

pub loop-entry-preserved : goal.loop-entry-preserved
loop-entry-preserved c =
    let n = c.loop-entry.entry-index in
    let entry : Entry = get_or c.args.entries.now n no_entry in
    let gone = rw c.position.ensures at c.gone_from-turn.ensures in
    subst (λ (es : List Entry). HoldsFrom c.args.removals.now (AllGone c.args.table es) c.later-last.result) (sym (take_more c.args.entries.now n no_entry c.loop-entry-test.true))
    (gone_more c.args.removals.now c.args.table c.loop-entry.last c.gone_from-turn.result c.later-last.result (take n c.args.entries.now) entry c.loop-entry.invariant gone c.later-last.ensures)

pub returns : goal.returns
returns c =
    subst (λ (es : List Entry). HoldsFrom c.args.removals.now (AllGone c.args.table es) c.loop-entry.last) (take_all c.loop-entry.entry-index c.args.entries.now c.loop-entry-test.false) c.loop-entry.invariant
