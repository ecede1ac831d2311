use Rattle.std.proofs.Common.{List, subst}
use Rattle.keys_dm.specs.Adding.{Adds}
use Rattle.keys_dm.specs.Violations.{IsOfRow, Violates}
use Rattle.keys_dm.specs.declared.violation.Violation.{Violation}
use Rattle.keys_dm.proofs.DatabaseLevels.{some_listed}
use Rattle.keys_dm.proofs.database.is_violated.Goals as goal

pub returns : goal.returns
returns c =
    let D = c.args.database.now in
    let adds = subst (λ (xs : List Violation). Adds (IsOfRow (Violates c.args.database.now c.args.table c.args.row) c.args.table c.args.row) xs c.push_of_row.new.found) c.new-found.ensures c.in_ok-push_of_row.ensures in
    rw c.len.ensures (some_listed D c.args.table c.args.row c.push_of_row.new.found adds)
