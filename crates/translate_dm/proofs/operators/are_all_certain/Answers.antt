use Rattle.translate_dm.proofs.CertainLemmas.{certain_in_both}
use Rattle.translate_dm.proofs.operators.are_all_certain.Goals as goal

pub returns : goal.returns
returns c = certain_in_both c.args.context.now.mode c.args.context.now.schema.now c.args.left.now c.args.right.now c.in_ok-left.left c.in_ok-right.right c.in_ok-in_left.in_left c.in_ok-in_right.in_right c.neither.result
    c.in_ok-left.ensures c.in_ok-right.ensures c.in_ok-in_left.ensures c.in_ok-in_right.ensures c.neither.ensures
