use Rattle.std.proofs.Common.{◌≡◌, ◌≤◌, ◌<◌, ◌∙◌, rules, sym, get_or, length}
use Rattle.std.proofs.lemmas.List.{get_or_default}
use Rattle.members_dm.proofs.OrderLemmas.{first_here, none_behind, none_here, ties_from_eq}
use Rattle.schema_dm.proofs.index.first_place.Goals as goal

pub returns-in-None : goal.returns-in-None
returns-in-None g c =
    let ties = ties_from_eq g.K.PartialEq.eq g.K.Ord.cmp g.met.K.Ord.matches_eq g.met.K.ExactEq.decides in
    let past : length c.args.order.now ≤ c.start_of.result = search rules in
    none_behind g.met.K.Ord.total ties c.args.items.now c.args.order.now c.requires c.args.key.now c.start_of.result c.start_of.ensures.point past

pub returns-then-stands_at : goal.returns-then-stands_at
returns-then-stands_at g c =
    let ties = ties_from_eq g.K.PartialEq.eq g.K.Ord.cmp g.met.K.Ord.matches_eq g.met.K.ExactEq.decides in
    let below : c.start_of.result < length c.args.order.now = search rules in
    let read : c.in-Some.position.now ≡ get_or c.args.order.now c.start_of.result c.in-Some.position.now = search rules in
    first_here g.met.K.Ord.total ties c.args.items.now c.args.order.now c.requires c.args.key.now c.start_of.result c.start_of.ensures.point c.in-Some.position.now below (sym read)
    (c.stands_at.ensures.0 c.if-stands_at.true)

pub returns-else-stands_at : goal.returns-else-stands_at
returns-else-stands_at g c =
    let ties = ties_from_eq g.K.PartialEq.eq g.K.Ord.cmp g.met.K.Ord.matches_eq g.met.K.ExactEq.decides in
    let below : c.start_of.result < length c.args.order.now = search rules in
    let read : c.in-Some.position.now ≡ get_or c.args.order.now c.start_of.result c.in-Some.position.now = search rules in
    none_here g.met.K.Ord.total ties c.args.items.now c.args.order.now c.requires c.args.key.now c.start_of.result c.start_of.ensures.point c.in-Some.position.now below
    (λ d. get_or_default c.args.order.now c.start_of.result d c.in-Some.position.now below ∙ sym read)
    (λ is. (let yes = c.stands_at.ensures.1 is in let no = c.if-stands_at.false in cc))
