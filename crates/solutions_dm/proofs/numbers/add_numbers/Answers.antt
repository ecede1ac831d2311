use Rattle.std.proofs.Common.{◌≡◌, ◌++◌, ℕ, List, OnOk, map, ap, ◌∙◌, subst}
use Rattle.members_dm.specs.InOrder.{positions_below}
use Rattle.solutions_dm.proofs.NumberLemmas.{unbound_numbers, column_numbers}
use Rattle.solutions_dm.proofs.numbers.add_numbers.Goals as goal

pub returns-in-None : goal.returns-in-None
returns-in-None c = subst (λ (ns : List ℕ). OnOk c.add_unbound.result (c.add_unbound.new.numbers ≡ c.args.numbers.now ++ ns))
    (ap (λ n. map (λ _. 0) (positions_below n)) c.len.ensures ∙ unbound_numbers c.args.rows.now c.args.name.now c.in-None.ensures) c.add_unbound.ensures

pub returns-in-Some : goal.returns-in-Some
returns-in-Some c = subst (λ (ns : List ℕ). OnOk c.add_column.result (c.add_column.new.numbers ≡ c.args.numbers.now ++ ns))
    (column_numbers c.args.rows.now c.args.name.now c.in-Some.column.now c.in-Some.ensures.1 c.in-Some.ensures.2) c.add_column.ensures
