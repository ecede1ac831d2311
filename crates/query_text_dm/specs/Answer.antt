-- What a text is answered: its query, or its first fault. Places count bytes from 1.
use Rattle.std.specs.Prelude.{◌≡◌, ◌≢◌, ◌⊎◌, ℕ, ◌+◌, List, [], ◌∷◌, length, Option, Some, None, Result, Ok, Err}
use Rattle.grammar_dm.specs.Part.{Begins, Spells}
use Rattle.grammar_dm.specs.Verdict.{IsFirstFault}
use Rattle.query_tokens_dm.specs.declared.token.Placed.{Placed}
use Rattle.query_tokens_dm.specs.Tokens.{AreTokens}
use Rattle.schema_dm.specs.declared.table.Table.{Table}
use Rattle.algebra_dm.specs.declared.error.QueryError.{QueryError}
use Rattle.algebra_dm.specs.declared.error.QueryError.TheVariants.{BadQuery, TooDeep, Memory}
use Rattle.algebra_dm.specs.declared.query.Query.{Query}
use Rattle.algebra_dm.specs.Nodes.{IsFaultless, nodes}
use Rattle.algebra_dm.specs.Nodes as of_nodes
use Rattle.query_text_dm.specs.Depth.{IsCut}
use Rattle.query_text_dm.specs.Grammar.{query}

-- the bytes are the text of the query
abbrev pub IsTextOfQuery : List ℕ → Query → Type 0
IsTextOfQuery bytes q = (ts : List Placed) × AreTokens bytes ts None × IsCut ts ts None × Spells query ts [] q

-- the tokens before the first text that is no token, or all, and those of them before the first parenthesis that is too deep
pub record AreKept (bytes : List ℕ) (stop : Option ℕ) (kept : List Placed) (deep : Option ℕ) : Type 0 where
  pub tokens : List Placed
  pub are : AreTokens bytes tokens stop
  pub cut : IsCut tokens kept deep

-- the first token with which the tokens so far begin no query
abbrev pub IsTokenFault : List Placed → ℕ → Type 0
IsTokenFault kept place = (t : Placed) × (rest : List Placed) × IsFirstFault query kept (t ∷ rest) × (place ≡ t.place)

-- all tokens begin a query, and behind them stands a text that is no token, or nothing although the query isn't whole
abbrev pub IsEndFault : List ℕ → List Placed → Option ℕ → ℕ → Type 0
IsEndFault bytes kept (Some stop) place = Begins query kept [] × (place ≡ stop)
IsEndFault bytes kept None place = IsFirstFault query kept [] × (place ≡ length bytes + 1)

abbrev pub IsBadQuery : List ℕ → ℕ → Type 0
IsBadQuery bytes place =
    (stop : Option ℕ) × (kept : List Placed) × (deep : Option ℕ) × AreKept bytes stop kept deep × (IsTokenFault kept place ⊎ ((deep ≡ None) × IsEndFault bytes kept stop place))

-- all tokens before an opening parenthesis that is inside 64 open ones begin a query
abbrev pub IsTooDeepAt : List ℕ → ℕ → Type 0
IsTooDeepAt bytes place = (stop : Option ℕ) × (kept : List Placed) × AreKept bytes stop kept (Some place) × Begins query kept []

-- what the text alone is answered
abbrev pub IsSyntaxAnswer : List ℕ → Result Query QueryError → Type 0
IsSyntaxAnswer bytes (Ok q) = IsTextOfQuery bytes q
IsSyntaxAnswer bytes (Err (BadQuery place)) = IsBadQuery bytes place
IsSyntaxAnswer bytes (Err (TooDeep place)) = IsTooDeepAt bytes place
IsSyntaxAnswer bytes (Err Memory) = Unit {0}
IsSyntaxAnswer bytes (Err other) = ⊥

-- what the text is answered for the tables of a schema: a fault of the text before the first fault at a node of its query
abbrev pub IsAnswer : List Table → List ℕ → Result Query QueryError → Type 0
IsAnswer tables bytes (Ok q) = IsTextOfQuery bytes q × IsFaultless tables q
IsAnswer tables bytes (Err (BadQuery place)) = IsBadQuery bytes place
IsAnswer tables bytes (Err (TooDeep place)) = IsTooDeepAt bytes place
IsAnswer tables bytes (Err Memory) = Unit {0}
IsAnswer tables bytes (Err error) = (q : Query) × IsTextOfQuery bytes q × of_nodes.IsFirstFault tables (nodes q) error

-- there is one answer, but for want of memory
abbrev pub HasOneAnswer : List Table → List ℕ → Type 0
HasOneAnswer tables bytes = (first second : Result Query QueryError) → first ≢ Err Memory → second ≢ Err Memory → IsAnswer tables bytes first → IsAnswer tables bytes second → first ≡ second
