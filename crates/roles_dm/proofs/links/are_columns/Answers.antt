use Rattle.std.proofs.Common.{◌≡◌, ◌↔◌, List, Bool, true, false, IsTrue}
use Rattle.std.proofs.lemmas.Result.{IfOk-weaker}
use Rattle.members_dm.specs.Membership.{IsIn}
use Rattle.members_dm.proofs.ElementsLemmas.{NoRepeats-from_not}
use Rattle.names_dm.specs.Statements.{Statement}
use Rattle.schema_dm.specs.Naming.{Name}
use Rattle.roles_dm.specs.Links.{AreColumns, HasKind}
use Rattle.roles_dm.specs.Numbers.{AreDatatypes, AreWords, IsGraphOf}
use Rattle.roles_dm.proofs.ColumnLemmas.{fails}
use Rattle.roles_dm.proofs.LinkLemmas.{repeats_not}
use Rattle.roles_dm.proofs.links.are_columns.Goals as goal

pub returns-then-repeat : goal.returns-then-repeat
returns-then-repeat c G is words datatypes = ((λ e. absurd (let f : false ≡ true = e in cc)), (λ h. absurd (repeats_not c.args.name.now.columns h.0 (c.in_ok-repeat.ensures.0 c.if-repeat.true))))

pub returns : goal.returns
returns c = IfOk-weaker c.all_columns.result
    (λ (told : Bool). (G : List Statement) → IsGraphOf c.args.graph.now G → AreWords c.args.graph.now c.args.words.now → AreDatatypes c.args.graph.now c.args.datatypes.now → IsTrue told ↔ ((n : Name) → IsIn n c.args.name.now.columns → HasKind c.args.base.now G c.args.name.now.table n))
    (λ (told : Bool). (G : List Statement) → IsGraphOf c.args.graph.now G → AreWords c.args.graph.now c.args.words.now → AreDatatypes c.args.graph.now c.args.datatypes.now → IsTrue told ↔ AreColumns c.args.base.now G c.args.name.now)
    (λ told each G is words datatypes. (
      (λ e. (NoRepeats-from_not c.args.name.now.columns (fails c.in_ok-repeat.repeat c.in_ok-repeat.ensures c.if-repeat.false), (each G is words datatypes).0 e)),
      (λ h. (each G is words datatypes).1 h.1),
    ))
    c.all_columns.ensures
