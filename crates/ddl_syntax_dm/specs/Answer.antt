-- What a file of bytes is answered: its statements, or its first fault.
use Rattle.std.specs.Prelude.{◌≡◌, ℕ, ◌+◌, List, [], ◌∷◌, length, Option, Some, None, Result, Ok, Err, Bool, true, false, ◌&&◌, ◌⊎◌, if◌then◌else◌, IsUtf8}
use Rattle.std.specs.Str.{IsValidUpTo}
use Rattle.grammar_dm.specs.Part.{Spells, Begins, Marks}
use Rattle.grammar_dm.specs.Verdict.{IsFirstFault, Judges}
use Rattle.ddl_tokens_dm.specs.declared.token.Token.{Token}
use Rattle.ddl_tokens_dm.specs.declared.token.Token.TheVariants.{Word}
use Rattle.ddl_tokens_dm.specs.declared.token.Placed.{Placed}
use Rattle.ddl_tokens_dm.specs.declared.lexer.TokenError.{TokenError}
use Rattle.ddl_tokens_dm.specs.declared.lexer.TokenError.TheVariants as lexing
use Rattle.ddl_tokens_dm.specs.Tokens.{AreTokens}
use Rattle.ddl_syntax_dm.specs.declared.syntax.Statement.{Statement}
use Rattle.ddl_syntax_dm.specs.declared.file.SyntaxError.{SyntaxError}
use Rattle.ddl_syntax_dm.specs.declared.file.SyntaxError.TheVariants.{Memory, NotUtf8, BadToken, Unexpected, UnknownType}
use Rattle.ddl_syntax_dm.specs.Grammar.{file}

abbrev pub is_bare : Token → Bool
is_bare (Word name) = true
is_bare _ = false

abbrev pub is_bare_word : Placed → Bool
is_bare_word t = is_bare t.token

-- the first fault is at this token, which stands in the place of a type
abbrev pub IsTypeFault : List Placed → Placed → List Placed → Type 0
IsTypeFault ts t rest = (is_bare_word t ≡ true) × Marks file ts (t ∷ rest)

-- the place of a token with which the tokens so far begin no file, and which is no bare word in the place of a type
abbrev pub IsTokenFault : List Placed → ℕ → Type 0
IsTokenFault ts place = (t : Placed) × (rest : List Placed) × IsFirstFault file ts (t ∷ rest) × (IsTypeFault ts t rest → ⊥) × (place ≡ t.place)

-- the bytes are a file of these statements
abbrev pub IsFile : List ℕ → List Statement → Type 0
IsFile bytes v = IsUtf8 bytes × ((ts : List Placed) × AreTokens bytes ts None × Spells file ts [] v)

-- this is its first fault
abbrev pub IsFault : List ℕ → SyntaxError → Type 0
IsFault bytes Memory = Unit {0}
IsFault bytes (NotUtf8 place) = ¬ (IsUtf8 bytes) × ((n : ℕ) × IsValidUpTo bytes n × (place ≡ n + 1))
IsFault bytes (BadToken place) = IsUtf8 bytes × ((ts : List Placed) × AreTokens bytes ts (Some place) × Begins file ts [])
IsFault bytes (Unexpected place) =
    IsUtf8 bytes × ((ts : List Placed) × (stop : Option ℕ) × AreTokens bytes ts stop
    × (IsTokenFault ts place ⊎ ((stop ≡ None) × IsFirstFault file ts [] × (place ≡ length bytes + 1))))
IsFault bytes (UnknownType place) =
    IsUtf8 bytes × ((ts : List Placed) × (stop : Option ℕ) × AreTokens bytes ts stop
    × ((t : Placed) × (rest : List Placed) × IsFirstFault file ts (t ∷ rest) × IsTypeFault ts t rest × (place ≡ t.place)))

-- The only statements of the file, or else its first fault, unless memory ran out.
abbrev pub IsRead : List ℕ → Result (List Statement) SyntaxError → Type 0
IsRead bytes (Ok v) = IsFile bytes v × ((w : List Statement) → IsFile bytes w → w ≡ v)
IsRead bytes (Err Memory) = Unit {0}
IsRead bytes (Err e) = IsFault bytes e × ((w : List Statement) → IsFile bytes w → ⊥)

-- ---- how it is told

abbrev pub token_error_told : TokenError → SyntaxError → Type 0
token_error_told lexing.Memory e = e ≡ Memory
token_error_told (lexing.NotUtf8 place) e = e ≡ NotUtf8 place

abbrev pub end_told : Option ℕ → ℕ → SyntaxError
end_told None end = Unexpected end
end_told (Some place) end = BadToken place

abbrev pub fault_told : List Placed → Bool → Option ℕ → ℕ → SyntaxError
fault_told [] at_type stop end = end_told stop end
fault_told (t ∷ rest) at_type stop end = if at_type && is_bare_word t then UnknownType t.place else Unexpected t.place

abbrev pub whole_told : List Statement → Option ℕ → Result (List Statement) SyntaxError
whole_told v None = Ok v
whole_told v (Some place) = Err (BadToken place)

-- what the tokens before the stop are answered
abbrev pub IsTold : List Placed → Option ℕ → ℕ → Result (List Statement) SyntaxError → Type 0
IsTold ts stop end (Ok v) = (stop ≡ None) × Judges file ts (Ok v)
IsTold ts stop end (Err Memory) = Unit {0}
IsTold ts stop end (Err (NotUtf8 place)) = ⊥
IsTold ts stop end (Err (BadToken place)) = (stop ≡ Some place) × Begins file ts []
IsTold ts stop end (Err (Unexpected place)) = IsTokenFault ts place ⊎ ((stop ≡ None) × IsFirstFault file ts [] × (place ≡ end))
IsTold ts stop end (Err (UnknownType place)) = (t : Placed) × (rest : List Placed) × IsFirstFault file ts (t ∷ rest) × IsTypeFault ts t rest × (place ≡ t.place)
