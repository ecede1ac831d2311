use Rattle.roles_dm.proofs.ColumnLemmas.{class_says, fails}
use Rattle.roles_dm.proofs.columns.class_number.Goals as goal

pub returns-then-has : goal.returns-then-has
returns-then-has c G is words = (
  c.in_ok-number.ensures,
  (class_says c.args.base.now c.args.graph.now G is c.args.words.now words c.args.table.now c.in_ok-number.number c.in_ok-number.ensures).0 (c.has.ensures.0 c.if-has.true),
)

pub returns-else-has : goal.returns-else-has
returns-else-has c G is words said =
    fails c.has.result c.has.ensures c.if-has.false
    ((class_says c.args.base.now c.args.graph.now G is c.args.words.now words c.args.table.now c.in_ok-number.number c.in_ok-number.ensures).1 said)
