-- Reading from left to right.
use Rattle.std.specs.Prelude.{ℕ, zero, suc, List, Bool, Ok, is_some}
use Rattle.value_dm.specs.declared.kind.Kind.{Kind}
use Rattle.value_dm.specs.declared.value.Value.{Value}
use Rattle.schema_dm.specs.Naming.{Name}
use Rattle.grammar_dm.specs.Reading.{◌>>=◌, Answer, fault_at, many_at, token_at}
use Rattle.query_tokens_dm.specs.declared.token.Placed.{Placed}
use Rattle.query_tokens_dm.specs.Tokens.{kind_word}
use Rattle.algebra_dm.specs.declared.query.Query.{Query}
use Rattle.algebra_dm.specs.declared.query.Query.TheVariants as queries
use Rattle.query_text_dm.specs.declared.operator.Operator.{Operator}
use Rattle.query_text_dm.specs.declared.operator.Operator.TheVariants.{Table, Null, Eq, Ne, IsNull, NotNull, Project, Rename, Join, Union, Diff}
use Rattle.query_text_dm.specs.Words.{Mark, close_of, name_of, open_of, operator_of}

abbrev pub Read : Type 0 → Type 0
Read V = List Placed → Answer Placed V

abbrev pub open_at : Read Mark
open_at = token_at (λ t. open_of t.token)

abbrev pub close_at : Read Mark
close_at = token_at (λ t. close_of t.token)

abbrev pub operator_at : Read Operator
operator_at = token_at (λ t. operator_of t.token)

abbrev pub name_at : Read Name
name_at = token_at (λ t. name_of t.token)

abbrev pub is_name : Placed → Bool
is_name t = is_some (name_of t.token)

unfoldable pub names_at : Read (List Name)
names_at = many_at is_name name_at

abbrev pub kind_at : Read Kind
kind_at = token_at (λ t. kind_word t.token)

abbrev pub spelled_at : Read Value
spelled_at = token_at (λ t. t.value)

unfoldable pub value_at : Read Value
value_at ts = kind_at ts >>= λ k. spelled_at k.1

unfoldable pub table_at : Read Query
table_at ts = name_at ts >>= λ n. Ok (queries.Table n.0, n.1)

unfoldable pub null_at : Read Query
null_at ts = name_at ts >>= λ n. Ok (queries.Null n.0, n.1)

unfoldable pub compared_at : Read Query → Read (Query × Name × Value)
compared_at query ts = query ts >>= λ p. name_at p.1 >>= λ n. value_at n.1 >>= λ v. Ok ((p.0, n.0, v.0), v.1)

unfoldable pub eq_at : Read Query → Read Query
eq_at query ts = compared_at query ts >>= λ x. Ok (queries.Eq x.0.0 x.0.1 x.0.2, x.1)

unfoldable pub ne_at : Read Query → Read Query
ne_at query ts = compared_at query ts >>= λ x. Ok (queries.Ne x.0.0 x.0.1 x.0.2, x.1)

unfoldable pub named_at : Read Query → Read (Query × Name)
named_at query ts = query ts >>= λ p. name_at p.1 >>= λ n. Ok ((p.0, n.0), n.1)

unfoldable pub is_null_at : Read Query → Read Query
is_null_at query ts = named_at query ts >>= λ x. Ok (queries.IsNull x.0.0 x.0.1, x.1)

unfoldable pub not_null_at : Read Query → Read Query
not_null_at query ts = named_at query ts >>= λ x. Ok (queries.NotNull x.0.0 x.0.1, x.1)

unfoldable pub project_at : Read Query → Read Query
project_at query ts = query ts >>= λ p. names_at p.1 >>= λ ns. Ok (queries.Project p.0 ns.0, ns.1)

unfoldable pub rename_at : Read Query → Read Query
rename_at query ts = named_at query ts >>= λ x. name_at x.1 >>= λ to. Ok (queries.Rename x.0.0 x.0.1 to.0, to.1)

unfoldable pub two_at : Read Query → Read (Query × Query)
two_at query ts = query ts >>= λ p. query p.1 >>= λ q. Ok ((p.0, q.0), q.1)

unfoldable pub join_at : Read Query → Read Query
join_at query ts = two_at query ts >>= λ x. Ok (queries.Join x.0.0 x.0.1, x.1)

unfoldable pub union_at : Read Query → Read Query
union_at query ts = two_at query ts >>= λ x. Ok (queries.Union x.0.0 x.0.1, x.1)

unfoldable pub diff_at : Read Query → Read Query
diff_at query ts = two_at query ts >>= λ x. Ok (queries.Diff x.0.0 x.0.1, x.1)

abbrev pub operands_at : Operator → Read Query → Read Query
operands_at Table query ts = table_at ts
operands_at Null query ts = null_at ts
operands_at Eq query ts = eq_at query ts
operands_at Ne query ts = ne_at query ts
operands_at IsNull query ts = is_null_at query ts
operands_at NotNull query ts = not_null_at query ts
operands_at Project query ts = project_at query ts
operands_at Rename query ts = rename_at query ts
operands_at Join query ts = join_at query ts
operands_at Union query ts = union_at query ts
operands_at Diff query ts = diff_at query ts

-- a query without its opening parenthesis
unfoldable pub inside_at : Read Query → Read Query
inside_at query ts = operator_at ts >>= λ o. operands_at o.0 query o.1 >>= λ q. close_at q.1 >>= λ c. Ok (q.0, c.1)

-- a query of at most so many levels
unfoldable pub query_at : ℕ → Read Query
query_at zero ts = fault_at ts
query_at (suc n) ts = open_at ts >>= λ o. inside_at (query_at n) o.1
