use Rattle.std.proofs.Common.{List, length, subst, sym}
use Rattle.solutions_dm.specs.declared.columns.Column.{Column}
use Rattle.solutions_dm.specs.Picks.{IsPicked}
use Rattle.solutions_dm.specs.Table.{IsTable}
use Rattle.solutions_dm.proofs.PickLemmas.{picked_table, is_picked}
use Rattle.solutions_dm.proofs.picks.picked.Goals as goal

pub invariant_of-result : goal.invariant_of-result
invariant_of-result c = subst (λ (cs : List Column). IsTable (record { columns = cs; rows = length c.args.places.now })) (sym c.in_ok-columns.ensures.columns)
    (picked_table c.args.places.now c.args.rows.now.columns c.in_ok-columns.ensures.apart)

pub returns : goal.returns
returns c = subst (λ (cs : List Column). IsPicked c.args.rows.now c.args.places.now (record { columns = cs; rows = length c.args.places.now })) (sym c.in_ok-columns.ensures.columns)
    (is_picked c.args.places.now c.args.rows.now)
