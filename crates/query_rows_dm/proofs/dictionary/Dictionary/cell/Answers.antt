use Rattle.std.proofs.Common.{Some, ap, ◌∙◌}
use Rattle.value_dm.specs.declared.value.Value.{Value}
use Rattle.query_rows_dm.proofs.KeyLemmas.{read_cell}
use Rattle.query_rows_dm.proofs.dictionary.Dictionary.cell.Goals as goal

pub returns : goal.returns
returns c = rw (← c.self.view_is) (ap (λ (v : Value). Some v) c.in_ok-copy.ensures ∙ read_cell c.self.inside.values.keys c.args.number c.index-key.result.now c.if-number-lt-FIRST.false c.index-key.ensures)
