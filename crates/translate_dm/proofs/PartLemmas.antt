-- The parts of a well-formed query are well-formed, and the names at its outermost node are not empty.
use Rattle.std.proofs.Common.{◌≡◌, List, [], sym, subst}
use Rattle.members_dm.specs.Membership.{IsIn}
use Rattle.schema_dm.specs.declared.table.Table.{Table as SchemaTable}
use Rattle.algebra_dm.specs.Nodes.{IsWellFormed, names_at}
use Rattle.algebra_dm.specs.declared.query.Query.{Query}
use Rattle.algebra_dm.proofs.TreeLemmas.{OnePart, TwoParts}
use Rattle.query_rows_dm.proofs.EvaluationLemmas.{left_formed, part_fine, part_formed, right_formed}

module _ (tables : List SchemaTable) (q : Query) (h : IsWellFormed tables q) where
  pub part_read : (p read : Query) → read ≡ p → OnePart q p → IsWellFormed tables read
  part_read p read same one = subst (IsWellFormed tables) (sym same) (part_formed tables q h p one)

  pub left_read : (p r read : Query) → read ≡ p → TwoParts q p r → IsWellFormed tables read
  left_read p r read same two = subst (IsWellFormed tables) (sym same) (left_formed tables q h p r two)

  pub right_read : (p r read : Query) → read ≡ r → TwoParts q p r → IsWellFormed tables read
  right_read p r read same two = subst (IsWellFormed tables) (sym same) (right_formed tables q h p r two)

  pub names_read : (p n : Query) → q ≡ n → OnePart q p → ¬ IsIn [] (names_at n)
  names_read p n e one = subst (λ z. ¬ IsIn [] (names_at z)) e (part_fine tables q h p one).names
