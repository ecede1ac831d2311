use Rattle.consistency_dm.proofs.conflict.conflict_of.Goals as goal

pub returns-then-is_kept_out-clause-told : goal.returns-then-is_kept_out-clause-told
returns-then-is_kept_out-clause-told c = λ triples of. (
  (c.is_kept_out.ensures triples of).0 c.if-is_kept_out.true,
  (λ same. (let yes = c.is_same_node.ensures.same.1 same in let not_so = c.if-is_same_node.false in cc)),
)

pub returns-else-is_kept_out-clause-told : goal.returns-else-is_kept_out-clause-told
returns-else-is_kept_out-clause-told c = λ triples of. (
  (λ same. (let yes = c.is_same_node.ensures.same.1 same in let not_so = c.if-is_same_node.false in cc)),
  (λ out. (let yes = (c.is_kept_out.ensures triples of).1 out in let not_so = c.if-is_kept_out.false in cc)),
)
