use Rattle.std.proofs.Common.{◌≡◌, ◌∙◌, sym, subst, List, Some, Option}
use Rattle.std.proofs.lemmas.Result.{IfOk-weaker}
use Rattle.schema_dm.specs.Naming.{Name}
use Rattle.names_dm.specs.Statements.{Statement}
use Rattle.names_dm.specs.declared.term.Term.{Term}
use Rattle.store_dm.specs.Terms.{term_at}
use Rattle.roles_dm.specs.Naming.{NamesTable}
use Rattle.roles_dm.specs.Numbers.{AreWords, IsGraphOf}
use Rattle.roles_dm.specs.Roles.{TellsClass}
use Rattle.roles_dm.proofs.ColumnLemmas.{class_told, fails, no_class}
use Rattle.roles_dm.proofs.columns.class_of.Goals as goal

pub returns-then-not-has : goal.returns-then-not-has
returns-then-not-has c G x is words at = no_class c.args.base.now c.args.graph.now G is c.args.words.now words c.args.number x at (fails c.has.result c.has.ensures c.if-not-has.true)

unsome : (x y : Term) → Some x ≡ Some y → x ≡ y
unsome x y e = cc

pub returns : goal.returns
returns c = IfOk-weaker c.table_named.result (NamesTable c.args.base.now c.term_of.result.now)
    (λ (found : Option Name). (G : List Statement) (x : Term) → IsGraphOf c.args.graph.now G → AreWords c.args.graph.now c.args.words.now → term_at c.args.graph.now.terms c.args.number ≡ Some x → TellsClass c.args.base.now G x found)
    (λ found told G x is words at.
    class_told c.args.base.now c.args.graph.now G is c.args.words.now words c.args.number x found at (c.has.ensures.0 c.if-not-has.false)
    (subst (λ y. NamesTable c.args.base.now y found) (unsome c.term_of.result.now x (sym c.term_of.ensures ∙ at)) told))
    c.table_named.ensures
