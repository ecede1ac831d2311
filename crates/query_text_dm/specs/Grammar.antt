-- The grammar of queries.
--   query = "(" operator operands ")"
--   operands of table, null: NAME
--               eq, ne: query NAME value
--               isnull, notnull: query NAME
--               project: query { NAME }
--               rename: query NAME NAME
--               join, union, diff: query query
--   value = kind QUOTED
-- What is quoted in a value spells one of its kind.
use Rattle.std.specs.Prelude.{ℕ, zero, suc}
use Rattle.value_dm.specs.declared.kind.Kind.{Kind}
use Rattle.value_dm.specs.declared.value.Value.{Value}
use Rattle.schema_dm.specs.Naming.{Name}
use Rattle.grammar_dm.specs.Part.{Part, never}
use Rattle.grammar_dm.specs.Part.Part.{token, give, then, repeated, levels}
use Rattle.query_tokens_dm.specs.declared.token.Placed.{Placed}
use Rattle.query_tokens_dm.specs.Tokens.{kind_word}
use Rattle.algebra_dm.specs.declared.query.Query.{Query}
use Rattle.algebra_dm.specs.declared.query.Query.TheVariants as queries
use Rattle.query_text_dm.specs.declared.operator.Operator.{Operator}
use Rattle.query_text_dm.specs.declared.operator.Operator.TheVariants.{Table, Null, Eq, Ne, IsNull, NotNull, Project, Rename, Join, Union, Diff}
use Rattle.query_text_dm.specs.Words.{Mark, close_of, name_of, open_of, operator_of}

abbrev pub open' : Part Placed Mark
open' = token (λ t. open_of t.token)

abbrev pub close : Part Placed Mark
close = token (λ t. close_of t.token)

abbrev pub operator : Part Placed Operator
operator = token (λ t. operator_of t.token)

abbrev pub name : Part Placed Name
name = token (λ t. name_of t.token)

abbrev pub kind : Part Placed Kind
kind = token (λ t. kind_word t.token)

-- a quoted text behind the word of a kind, which spells a value of it
abbrev pub spelled : Part Placed Value
spelled = token (λ t. t.value)

abbrev pub value : Part Placed Value
value = then kind (λ _. spelled)

-- a part, and the attribute and the value that it is compared with
abbrev pub compared : Part Placed Query → Part Placed (Query × Name × Value)
compared query = then query (λ p. then name (λ n. then value (λ v. give (p, n, v))))

-- a part and an attribute of it
abbrev pub named : Part Placed Query → Part Placed (Query × Name)
named query = then query (λ p. then name (λ n. give (p, n)))

-- two parts
abbrev pub two : Part Placed Query → Part Placed (Query × Query)
two query = then query (λ p. then query (λ q. give (p, q)))

-- what stands behind an operator
abbrev pub operands : Operator → Part Placed Query → Part Placed Query
operands Table query = then name (λ n. give (queries.Table n))
operands Null query = then name (λ n. give (queries.Null n))
operands Eq query = then (compared query) (λ x. give (queries.Eq x.0 x.1 x.2))
operands Ne query = then (compared query) (λ x. give (queries.Ne x.0 x.1 x.2))
operands IsNull query = then (named query) (λ x. give (queries.IsNull x.0 x.1))
operands NotNull query = then (named query) (λ x. give (queries.NotNull x.0 x.1))
operands Project query = then query (λ p. then (repeated name) (λ ns. give (queries.Project p ns)))
operands Rename query = then (named query) (λ x. then name (λ to. give (queries.Rename x.0 x.1 to)))
operands Join query = then (two query) (λ x. give (queries.Join x.0 x.1))
operands Union query = then (two query) (λ x. give (queries.Union x.0 x.1))
operands Diff query = then (two query) (λ x. give (queries.Diff x.0 x.1))

-- a query of at most so many levels
unfoldable pub query_within : ℕ → Part Placed Query
query_within zero = never
query_within (suc n) = then open' (λ _. then operator (λ o. then (operands o (query_within n)) (λ q. then close (λ _. give q))))

abbrev pub query : Part Placed Query
query = levels query_within
