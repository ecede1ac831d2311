use Rattle.std.proofs.Common.{◌∙◌}
use Rattle.std.proofs.lemmas.Bool.{iff_false}
use Rattle.pattern_dm.proofs.FormedLemmas.{target_rest}
use Rattle.pattern_dm.proofs.formed.+is_target.Goals as goal

pub returns-else-same : goal.returns-else-same
returns-else-same t c = c.is_target.ensures ∙ target_rest c.first-item.result _ c.args.name.now c.in-len1-up.len_at_least c.first-item.is (iff_false c.same.ensures c.if-same.false)
