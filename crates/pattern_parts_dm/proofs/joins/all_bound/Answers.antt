use Rattle.pattern_parts_dm.proofs.TextLemmas.{first_named, rest_named}
use Rattle.pattern_parts_dm.proofs.joins.all_bound.Goals as goal

pub bound-requires : goal.bound-requires
bound-requires c = first_named c.args.names.now c.first-item.result c.in-len1-up.len_at_least c.first-item.is c.requires

pub and_bound-requires : goal.and_bound-requires
and_bound-requires c = rest_named c.args.names.now c.first-item.result c.in-len1-up.len_at_least c.first-item.is c.requires
