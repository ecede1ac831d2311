use Rattle.query_rows_dm.proofs.JoinLemmas.{joined_by_steps}
use Rattle.query_rows_dm.proofs.joins.joined.Goals as goal

pub returns : goal.returns
returns c = joined_by_steps c.args.left c.args.right.now (record { attributes = c.in_ok-attributes.attributes; rows = c.in_ok-rows.rows }) c.in_ok-common.common c.in_ok-kept.kept
    (rw (c.as_slice.ensures, c.as_slice-2.ensures) at c.in_ok-common.ensures)
    (rw c.as_slice-4.ensures at c.in_ok-kept.ensures)
    c.in_ok-rows.ensures
    (rw c.as_slice-3.ensures at c.in_ok-attributes.ensures)
