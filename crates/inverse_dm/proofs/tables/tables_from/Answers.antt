use Rattle.std.proofs.Common.{◌≡◌, ◌∙◌, true, false, List, map, sym, subst}
use Rattle.schema_dm.specs.Shapes.{IsShape}
use Rattle.table_csv.specs.Plain.{PlainTable}
use Rattle.graph_tables_dm.specs.TableReadings.{plain_of}
use Rattle.inverse_dm.proofs.TableParts.{are_fit, fit_along, is_shape, tables_along}
use Rattle.inverse_dm.proofs.tables.tables_from.Goals as goal

pub invariant_of-result : goal.invariant_of-result
invariant_of-result c =
    let made : List PlainTable = map plain_of c.args.made in
    fit_along made c.in-Some.shape c.in_ok-parts.parts.rows (c.in-Some.ensures.value ∙ c.in_ok-parts.ensures.shape) c.in_ok-parts.ensures.rows (are_fit made c.requires.shape c.requires.limits)

pub unreachable-requires : goal.unreachable-requires
unreachable-requires c =
    let made : List PlainTable = map plain_of c.args.made in
    let shape : IsShape c.in_ok-parts.parts.shape = subst IsShape (sym c.in_ok-parts.ensures.shape) (is_shape made c.requires.shape c.requires.limits) in
    let none : false ≡ true = c.in-None.ensures.shape.1 shape in
    cc

pub returns : goal.returns
returns c =
    tables_along (map plain_of c.args.made) c.in-Some.shape c.in_ok-parts.parts.rows (c.in-Some.ensures.value ∙ c.in_ok-parts.ensures.shape) c.in_ok-parts.ensures.rows
