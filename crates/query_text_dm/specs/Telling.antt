-- How the reader of a text tells what it found.
use Rattle.std.specs.Prelude.{◌≡◌, ◌⊎◌, ◌+◌, ℕ, List, [], ◌∷◌, Option, Some, None, Result, Ok, Err}
use Rattle.grammar_dm.specs.Part.{Begins}
use Rattle.grammar_dm.specs.Verdict.{IsFirstFault, Judges}
use Rattle.query_tokens_dm.specs.declared.token.Placed.{Placed}
use Rattle.algebra_dm.specs.declared.error.QueryError.{QueryError}
use Rattle.algebra_dm.specs.declared.error.QueryError.TheVariants.{BadQuery, TooDeep, Memory}
use Rattle.algebra_dm.specs.declared.query.Query.{Query}
use Rattle.query_text_dm.specs.declared.answer.End.{End}
use Rattle.query_text_dm.specs.declared.answer.End.TheVariants as end
use Rattle.query_text_dm.specs.Answer.{IsTokenFault}
use Rattle.query_text_dm.specs.Grammar.{query}

abbrev pub behind : Option ℕ → ℕ → End
behind (Some place) len = end.NoToken place
behind None len = end.Nothing (len + 1)

abbrev pub end_of : Option ℕ → Option ℕ → ℕ → End
end_of (Some place) stop len = end.TooDeep place
end_of None stop len = behind stop len

abbrev pub refusal : End → QueryError
refusal (end.TooDeep place) = TooDeep place
refusal (end.NoToken place) = BadQuery place
refusal (end.Nothing place) = BadQuery place

abbrev pub fault_told : List Placed → End → QueryError
fault_told [] e = refusal e
fault_told (t ∷ rest) e = BadQuery t.place

abbrev pub whole_told : Query → End → Result Query QueryError
whole_told q (end.Nothing place) = Ok q
whole_told q (end.TooDeep place) = Err (refusal (end.TooDeep place))
whole_told q (end.NoToken place) = Err (refusal (end.NoToken place))

-- the fault is at what stands behind the tokens
abbrev pub IsAtEnd : List Placed → End → QueryError → Type 0
IsAtEnd kept (end.Nothing place) error = IsFirstFault query kept [] × (error ≡ BadQuery place)
IsAtEnd kept (end.TooDeep place) error = Begins query kept [] × (error ≡ TooDeep place)
IsAtEnd kept (end.NoToken place) error = Begins query kept [] × (error ≡ BadQuery place)

-- what the tokens before an end are answered
abbrev pub IsTold : List Placed → End → Result Query QueryError → Type 0
IsTold kept e (Ok q) = ((place : ℕ) × (e ≡ end.Nothing place)) × Judges query kept (Ok q)
IsTold kept e (Err Memory) = Unit {0}
IsTold kept e (Err error) = ((place : ℕ) × (error ≡ BadQuery place) × IsTokenFault kept place) ⊎ IsAtEnd kept e error
