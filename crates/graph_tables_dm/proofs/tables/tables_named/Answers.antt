use Rattle.std.proofs.Common.{◌+◌, List, Option, sym, subst, take, ◌∙◌}
use Rattle.std.specs.List.{AllZip}
use Rattle.members_dm.specs.Membership.{IsIn}
use Rattle.members_dm.proofs.ElementsLemmas.{item_within}
use Rattle.graph_tables_dm.specs.declared.listed.NumberedName.{NumberedName}
use Rattle.graph_tables_dm.specs.declared.table.GraphTable.{GraphTable}
use Rattle.graph_tables_dm.specs.TableReadings.{IsTableAt, TellsTable}
use Rattle.graph_tables_dm.proofs.LoopLemmas.{zip_more}
use Rattle.graph_tables_dm.proofs.tables.tables_named.Goals as goal
use Rattle.graph_tables_dm.proofs.tables.tables_named.Goals.{in-Some+in_ok-push, in_default}

pub loop-name-preserved : goal.loop-name-preserved
loop-name-preserved c = elim c.match-branch-2.branch [
  | in-Some+in_ok-push w ↦
      (let R = λ (e : NumberedName) (T : GraphTable). IsTableAt c.args.graph.now c.args.words.now c.args.roles.now e.number T in
      subst (λ (ts : List GraphTable). AllZip R (take (c.loop-name.name-index + 1) c.args.names.now) ts) (sym (w.tables-is ∙ w.in_ok-push.ensures.ok))
      (zip_more R c.args.names.now c.loop-name.tables c.loop-name.name-index c.name-item.result w.in-Some.table c.loop-name-test.true c.name-item.is c.loop-name.invariant
      (subst (λ (o : Option GraphTable). TellsTable c.args.graph.now c.args.words.now c.args.roles.now c.name-item.result.number o) w.in-Some.is c.in_ok-table.ensures)))
  | in_default w ↦
      (let e = c.name-item.result in
      let there : IsIn e c.args.names.now = subst (λ (d : NumberedName). IsIn d c.args.names.now) (sym c.name-item.is) (item_within c.args.names.now c.loop-name.name-index e c.loop-name-test.true) in
      absurd (subst (λ (o : Option GraphTable). TellsTable c.args.graph.now c.args.words.now c.args.roles.now e.number o) w.in_default.is c.in_ok-table.ensures e.name (c.requires e there)))
]
