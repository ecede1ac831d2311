use Rattle.std.proofs.Common.{subst, sym}
use Rattle.members_dm.specs.Membership.{IsIn}
use Rattle.keys_dm.specs.Entries.{positions_of}
use Rattle.graphs_dm.proofs.KeyRows.{row_of_entry}
use Rattle.graphs_dm.proofs.rows.append_links.Goals as goal

pub append_link-requires-clause-has : goal.append_link-requires-clause-has
append_link-requires-clause-has c =
    c.requires.rows c.position.result
    (subst (λ n. IsIn n (positions_of c.args.entries.now)) (sym c.position.ensures) (row_of_entry c.args.entries.now c.loop-entry.entry-index (record { hash = 0; row = 0 }) c.loop-entry-test.true))
