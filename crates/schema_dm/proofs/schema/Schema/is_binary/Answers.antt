use Rattle.std.proofs.Common.{◌∙◌, subst}
use Rattle.std.specs.Prelude.{IfNone, IfSome}
use Rattle.members_dm.proofs.ElementsLemmas.{item_within}
use Rattle.schema_dm.specs.Schemas.{IsSchema, IsTable, no_table, table_at}
use Rattle.schema_dm.proofs.OneRelation.{only_sides}
use Rattle.schema_dm.specs.declared.table.Binary.{Binary}
use Rattle.schema_dm.specs.Relations.{IsBinaryRelation}
use Rattle.schema_dm.proofs.schema.Schema.is_binary.Goals as goal

pub returns-clause-none : goal.returns-clause-none
returns-clause-none c = subst (λ tables. IfNone c.sides.result ((sides : Binary) → ¬ IsBinaryRelation tables c.args.table sides)) (c.as_slice.ensures ∙ c.self.view_is) c.sides.ensures.none

pub returns-clause-only : goal.returns-clause-only
returns-clause-only c = λ sides relation.
    (let valid : IsSchema c.args.self.now = subst IsSchema c.self.view_is c.self.invariant in
    let table : IsTable c.args.self.now (table_at c.args.self.now c.args.table) = valid.each (table_at c.args.self.now c.args.table) (item_within c.args.self.now c.args.table no_table c.requires) in
    only_sides c.args.self.now c.args.table c.sides.result
    (subst (λ tables. IfSome c.sides.result (IsBinaryRelation tables c.args.table)) (c.as_slice.ensures ∙ c.self.view_is) c.sides.ensures.found)
    (returns-clause-none c) table.apart sides relation)
