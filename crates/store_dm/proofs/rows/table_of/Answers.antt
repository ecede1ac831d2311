use Rattle.std.proofs.Common.{List, length, subst, sym}
use Rattle.solutions_dm.specs.declared.columns.Column.{Column}
use Rattle.solutions_dm.specs.Table.{IsTable}
use Rattle.store_dm.proofs.RowLemmas.{slot_table}
use Rattle.store_dm.proofs.rows.table_of.Goals as goal

pub of_columns-requires : goal.of_columns-requires
of_columns-requires c = subst (λ (cs : List Column). IsTable (record { columns = cs; rows = length c.args.found.now })) (sym c.in_ok-columns.ensures)
    (slot_table c.args.s.now c.args.p.now c.args.o.now c.args.found.now)
