use Rattle.std.proofs.Common.{◌∙◌, sym, refl}
use Rattle.schema_dm.proofs.ShapeRules.{table_rule}
use Rattle.schema_dm.proofs.order.is_shape_table.Goals as goal

pub returns-then-rises : goal.returns-then-rises
returns-then-rises c =
    table_rule c.are_shape_columns.result c.args.table.now c.as_slice-columns.result.now c.as_slice-columns.ensures (λ bad. (let e = c.if-is_bad_name.ensures.1 bad in cc))
    (sym c.is_empty.ensures ∙ c.if-is_empty.false) c.if-columns-gt-MOST_COLUMNS.false (c.if-rises.ensures.0 refl) c.are_shape_columns.ensures
