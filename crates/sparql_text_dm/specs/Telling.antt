-- How the reader of a text tells what it found.
use Rattle.std.specs.Prelude.{◌≡◌, ◌⊎◌, ◌+◌, ℕ, List, [], ◌∷◌, Option, Some, None, Result, Ok, Err}
use Rattle.grammar_dm.specs.Part.{Begins}
use Rattle.grammar_dm.specs.Verdict.{IsFirstFault, Judges}
use Rattle.grammar_dm.specs.declared.read_error.ReadError.{ReadError}
use Rattle.grammar_dm.specs.declared.read_error.ReadError.TheVariants as errors
use Rattle.sparql_tokens_dm.specs.declared.token.Placed.{Placed}
use Rattle.sparql_text_dm.specs.declared.error.SparqlError.{SparqlError}
use Rattle.sparql_text_dm.specs.declared.error.SparqlError.TheVariants.{BadPattern, TooNested, Memory}
use Rattle.sparql_text_dm.specs.declared.parsed.Parsed.{Parsed}
use Rattle.sparql_text_dm.specs.declared.answer.End.{End}
use Rattle.sparql_text_dm.specs.declared.answer.End.TheVariants as end
use Rattle.sparql_text_dm.specs.Answer.{IsTokenFault}
use Rattle.sparql_text_dm.specs.Grammar.{Query, query}

abbrev pub seen : Parsed → Query
seen x = (x.header, x.pattern)

abbrev pub behind : Option ℕ → ℕ → End
behind (Some place) len = end.NoToken place
behind None len = end.Nothing (len + 1)

abbrev pub end_of : Option ℕ → Option ℕ → ℕ → End
end_of (Some place) stop len = end.TooNested place
end_of None stop len = behind stop len

abbrev pub refusal : End → SparqlError
refusal (end.TooNested place) = TooNested place
refusal (end.NoToken place) = BadPattern place
refusal (end.Nothing place) = BadPattern place

abbrev pub fault_told : List Placed → End → SparqlError
fault_told [] e = refusal e
fault_told (t ∷ rest) e = BadPattern t.place

abbrev pub whole_told : Parsed → End → Result Parsed SparqlError
whole_told x (end.Nothing place) = Ok x
whole_told x (end.TooNested place) = Err (refusal (end.TooNested place))
whole_told x (end.NoToken place) = Err (refusal (end.NoToken place))

-- the fault is at what stands behind the tokens
abbrev pub IsAtEnd : List Placed → End → SparqlError → Type 0
IsAtEnd kept (end.Nothing place) error = IsFirstFault query kept [] × (error ≡ BadPattern place)
IsAtEnd kept (end.TooNested place) error = Begins query kept [] × (error ≡ TooNested place)
IsAtEnd kept (end.NoToken place) error = Begins query kept [] × (error ≡ BadPattern place)

-- what the tokens before an end are answered
abbrev pub IsTold : List Placed → End → Result Parsed SparqlError → Type 0
IsTold kept e (Ok x) = ((place : ℕ) × (e ≡ end.Nothing place)) × Judges query kept (Ok (seen x))
IsTold kept e (Err Memory) = Unit {0}
IsTold kept e (Err error) = ((place : ℕ) × (error ≡ BadPattern place) × IsTokenFault kept place) ⊎ IsAtEnd kept e error

-- the verdict on all tokens, unless memory ran out
abbrev pub IsParsed : List Placed → Result Parsed (ReadError Placed) → Type 0
IsParsed ts (Ok x) = Judges query ts (Ok (seen x))
IsParsed ts (Err errors.Memory) = Unit {0}
IsParsed ts (Err (errors.At rest marked)) = Judges query ts (Err (record { rest = rest.now; marked = marked }))
