use Rattle.std.proofs.Common.{◌≢◌, ℕ, List, [], map, subst}
use Rattle.std.proofs.lemmas.Result.{IfOk-weaker}
use Rattle.names_dm.specs.Statements.{Statement}
use Rattle.members_dm.specs.Membership.{IsIn}
use Rattle.layouts_dm.specs.LayoutTables.{StandsFor}
use Rattle.layouts_dm.specs.Outcomes.{Applies, Cause}
use Rattle.roles_dm.specs.Roles.{IsRead}
use Rattle.graph_tables_dm.specs.declared.listed.NumberedName.{NumberedName}
use Rattle.graph_tables_dm.specs.declared.table.GraphTable.{GraphTable}
use Rattle.graph_tables_dm.specs.TableReadings.{AreTablesNamed, plain_of}
use Rattle.graph_tables_dm.proofs.TablesStand.{tables_stand}
use Rattle.graph_tables_dm.proofs.tables.tables_of.Goals as goal

pub tables_named-requires : goal.tables_named-requires
tables_named-requires c = λ e i. (c.in_ok-names.ensures.lists.items e).0 (subst (λ (es : List NumberedName). IsIn e es) c.as_slice.ensures.value i)

pub returns : goal.returns
returns c =
    let base = c.args.base.now in
    let g = c.args.graph.now in
    let w = c.args.words.now in
    let rs = c.args.roles.now in
    IfOk-weaker c.tables_named.result (λ (made : List GraphTable). AreTablesNamed g w rs c.as_slice.result.now made)
    (λ (made : List GraphTable). (G : List Statement) → IsRead base g w rs G → G ≢ [] → ((i : ℕ) (cause : Cause) → ¬ Applies base G i cause) → StandsFor base G (map plain_of made))
    (λ made each. tables_stand base c.naming_laws.ensures g w rs made (record {
      names = c.in_ok-names.names.items;
      all = c.in_ok-names.ensures;
      each = subst (λ (es : List NumberedName). AreTablesNamed g w rs es made) c.as_slice.ensures.value each;
    }))
    c.tables_named.ensures
