-- The tokens of a text of characters, and what stands between them (ISO/IEC 9075-2, 5.2 <token> and
-- <separator>). Each relation says what stands in ts before rest.
use Rattle.std.specs.Prelude.{◌≡◌, ◌≢◌, ℕ, ◌+◌, ◌-◌, List, [], ◌∷◌, ◌++◌, ◌⊎◌, length, Option, Some, None, Bool, true, false, ◌==◌, if◌then◌else◌, encode_utf8_all, chars}
use Rattle.std.specs.List.{list_all}
use Rattle.grammar_dm.specs.Reading.{starts}
use Rattle.ddl_tokens_dm.specs.declared.token.Token.{Token}
use Rattle.ddl_tokens_dm.specs.declared.token.Token.TheVariants.{Sign, Number, Word, Quoted}
use Rattle.ddl_tokens_dm.specs.declared.token.Placed.{Placed}
use Rattle.ddl_tokens_dm.specs.Characters.{character, byte_order_mark, is_space, in_line, is_digit, begins_word, in_word}

-- a longest run of characters of a kind
pub record IsRun (kind : ℕ → Bool) (run ts rest : List ℕ) : Type 0 where
  pub whole : ts ≡ run ++ rest
  pub pass : list_all kind run ≡ true
  pub ends : starts kind rest ≡ false

-- ---- between tokens

abbrev pub IsSpace : List ℕ → List ℕ → Type 0
IsSpace ts rest = (c : ℕ) × (ts ≡ c ∷ rest) × (is_space c ≡ true)

-- -- and the rest of the line
abbrev pub IsLineComment : List ℕ → List ℕ → Type 0
IsLineComment ts rest = (behind line : List ℕ) × (ts ≡ 45 ∷ 45 ∷ behind) × IsRun in_line line behind rest

-- no */ ends within
abbrev pub HasNoEnd : List ℕ → Type 0
HasNoEnd inside = (before after : List ℕ) → inside ++ 42 ∷ [] ≡ before ++ 42 ∷ 47 ∷ after → ⊥

-- /* and what stands before the next */, and that
abbrev pub IsComment : List ℕ → List ℕ → Type 0
IsComment ts rest = (inside : List ℕ) × (ts ≡ 47 ∷ 42 ∷ (inside ++ 42 ∷ 47 ∷ rest)) × HasNoEnd inside

abbrev pub StandsBetween : List ℕ → List ℕ → Type 0
StandsBetween ts rest = IsSpace ts rest ⊎ (IsLineComment ts rest ⊎ IsComment ts rest)

-- ---- tokens

-- each " twice
abbrev pub doubled : List ℕ → List ℕ
doubled [] = []
doubled (c ∷ cs) = if c == 34 then 34 ∷ 34 ∷ doubled cs else c ∷ doubled cs

-- neither empty nor begun by a byte order mark
abbrev pub IsIdentifier : List ℕ → Type 0
IsIdentifier name = (first : ℕ) × (others : List ℕ) × (name ≡ first ∷ others) × (first ≢ byte_order_mark)

abbrev pub StandsToken : Token → List ℕ → List ℕ → Type 0
StandsToken (Sign s) ts rest = ts ≡ character s ∷ rest
StandsToken Number ts rest = (digits : List ℕ) × (digits ≢ []) × IsRun is_digit digits ts rest
StandsToken (Word name) ts rest =
    (first : ℕ) × (others behind : List ℕ) × (name ≡ first ∷ others) × (ts ≡ first ∷ behind) × (begins_word first ≡ true) × IsRun in_word others behind rest
StandsToken (Quoted name) ts rest = (ts ≡ 34 ∷ (doubled name ++ 34 ∷ rest)) × (starts (λ c. c == 34) rest ≡ false) × IsIdentifier name

-- ---- a text

-- The text ts, with which a file of so many bytes ends, consists of these tokens, each at its place, up to rest.
pub data Consists (total : ℕ) : List ℕ → List Placed → List ℕ → Type 0 where
  nothing : {ts : List ℕ} → Consists total ts [] ts
  between : {ts after rest : List ℕ} {found : List Placed} → StandsBetween ts after → Consists total after found rest → Consists total ts found rest
  token : {ts after rest : List ℕ} {token : Token} {found : List Placed} → StandsToken token ts after → Consists total after found rest
      → Consists total ts (record { token = token; place = total - length (encode_utf8_all ts) + 1 } ∷ found) rest

-- no token is at the front, nor what may stand between tokens
pub record IsNoToken (ts : List ℕ) : Type 0 where
  pub no_token : (token : Token) (rest : List ℕ) → StandsToken token ts rest → ⊥
  pub not_between : (rest : List ℕ) → StandsBetween ts rest → ⊥

-- one byte order mark is dropped
abbrev pub unmarked : List ℕ → List ℕ
unmarked [] = []
unmarked (c ∷ cs) = if c == byte_order_mark then cs else c ∷ cs

-- The tokens of a text with which a file of so many bytes ends; or those before the first text that is no
-- token, and its place.
abbrev pub AreTokensOf : ℕ → List ℕ → List Placed → Option ℕ → Type 0
AreTokensOf total text found None = Consists total text found []
AreTokensOf total text found (Some place) =
    (rest : List ℕ) × Consists total text found rest × IsNoToken rest × (rest ≢ []) × (place ≡ total - length (encode_utf8_all rest) + 1)

-- the tokens of a file of UTF-8 bytes
abbrev pub AreTokens : List ℕ → List Placed → Option ℕ → Type 0
AreTokens bytes found stop = AreTokensOf (length bytes) (unmarked (chars bytes)) found stop
