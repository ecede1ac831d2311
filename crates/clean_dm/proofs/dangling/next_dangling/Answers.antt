use Rattle.clean_dm.specs.Working.{IsFirstKey}
use Rattle.clean_dm.proofs.FirstKey.{candidates_but, candidates_less, first_row_found, none_dangles}
use Rattle.clean_dm.proofs.dangling.next_dangling.Goals as goal

pub returns-in-Some-first_key_if_left-clause-some : goal.returns-in-Some-first_key_if_left-clause-some
returns-in-Some-first_key_if_left-clause-some c =
    let key : IsFirstKey c.args.database.now c.args.left.now c.in-Some.table c.in-Some.row c.in-Some-first_key_if_left.number = c.in-Some-first_key_if_left.ensures.some in
    first_row_found c.args.database.now c.args.left.now c.loop-table.due c.pop_first.new.self c.loop-table.invariant c.in-Some.table c.in-Some.row c.in-Some-first_key_if_left.number c.in-Some.ensures.first key

pub returns-in-Some-first_key_if_left-clause-rest : goal.returns-in-Some-first_key_if_left-clause-rest
returns-in-Some-first_key_if_left-clause-rest c = candidates_but c.args.database.now c.args.left.now c.loop-table.due c.pop_first.new.self c.loop-table.invariant c.in-Some.table c.in-Some.row c.in-Some.ensures.rest

pub loop-table-preserved : goal.loop-table-preserved
loop-table-preserved c =
    candidates_less c.args.database.now c.args.left.now c.loop-table.due c.pop_first.new.self c.loop-table.invariant c.in-Some.table c.in-Some.row c.in-Some.ensures.rest c.in_default-first_key_if_left.ensures.none

pub returns-clause-none : goal.returns-clause-none
returns-clause-none c = none_dangles c.args.database.now c.args.left.now c.loop-table.due c.loop-table.due c.loop-table.invariant c.in_default.ensures.none
