use Rattle.std.proofs.Common.{◌≡◌, ◌∙◌, List, Some, Option, sym, subst}
use Rattle.std.proofs.lemmas.Result.{IfOk-weaker}
use Rattle.names_dm.specs.Statements.{Statement}
use Rattle.names_dm.specs.declared.names.ColumnName.{ColumnName}
use Rattle.names_dm.specs.declared.term.Term.{Term}
use Rattle.store_dm.specs.Terms.{term_at}
use Rattle.roles_dm.specs.Naming.{NamesColumn}
use Rattle.roles_dm.specs.Numbers.{AreWords, IsGraphOf}
use Rattle.roles_dm.specs.Roles.{TellsProperty}
use Rattle.roles_dm.proofs.ColumnLemmas.{fails, no_property, property_told}
use Rattle.roles_dm.proofs.columns.stated_property.Goals as goal

pub returns-then-not-has : goal.returns-then-not-has
returns-then-not-has c G x is words at = no_property c.args.base.now c.args.graph.now G is c.args.words.now words c.args.number x at (fails c.has.result c.has.ensures c.if-not-has.true)

unsome : (x y : Term) → Some x ≡ Some y → x ≡ y
unsome x y e = cc

pub returns : goal.returns
returns c = IfOk-weaker c.column_named.result (NamesColumn c.args.base.now c.term_of.result.now)
    (λ (found : Option ColumnName). (G : List Statement) (x : Term) → IsGraphOf c.args.graph.now G → AreWords c.args.graph.now c.args.words.now → term_at c.args.graph.now.terms c.args.number ≡ Some x → TellsProperty c.args.base.now G x found)
    (λ found told G x is words at.
    property_told c.args.base.now c.args.graph.now G is c.args.words.now words c.args.number x found at (c.has.ensures.0 c.if-not-has.false)
    (subst (λ y. NamesColumn c.args.base.now y found) (unsome c.term_of.result.now x (sym c.term_of.ensures ∙ at)) told))
    c.column_named.ensures
