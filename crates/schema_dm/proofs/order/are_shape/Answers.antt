use Rattle.std.proofs.Common.{◌∙◌, sym, refl}
use Rattle.schema_dm.proofs.ShapeRules.{tables_rule}
use Rattle.schema_dm.proofs.order.are_shape.Goals as goal

pub returns-then-rises : goal.returns-then-rises
returns-then-rises c =
    tables_rule c.are_shape_tables.result c.args.tables.now (sym c.is_empty.ensures ∙ c.if-is_empty.false) c.if-tables-gt-MOST_TABLES.false (c.if-rises.ensures.0 refl) c.are_shape_tables.ensures
