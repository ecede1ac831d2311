use Rattle.clean_dm.specs.Checking.{KeysAgree}
use Rattle.clean_dm.proofs.CheckingLemmas.{below_one_more}
use Rattle.clean_dm.proofs.checking.tables_agree.Goals as goal

pub loop-table-preserved : goal.loop-table-preserved
loop-table-preserved c =
    below_one_more (KeysAgree c.args.database.now c.args.removals.now c.args.turns.now) c.loop-table.table c.loop-table.invariant (c.in_ok-keys_agree.ensures.0 c.if-not-branch.false)
