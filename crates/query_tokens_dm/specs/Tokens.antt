-- The tokens of a query's text, and what stands between them. Texts are lists of bytes, and each relation says what stands in
-- ts before rest. What is quoted is UTF-8 (RFC 3629).
use Rattle.std.specs.Prelude.{◌≡◌, ◌≢◌, ℕ, ◌+◌, ◌-◌, List, [], ◌∷◌, ◌++◌, length, Option, Some, None, Bool, true, false, ◌==◌, ◌||◌, MatchOption, IsUtf8, chars, codes, encode_utf8_all, nat_le, ◌&&◌, if◌then◌else◌}
use Rattle.std.specs.Str.{bytes_eq}
use Rattle.value_dm.specs.declared.kind.Kind.{Kind}
use Rattle.value_dm.specs.declared.kind.Kind.TheVariants as kind
use Rattle.value_dm.specs.declared.mode.NullMode.TheVariants.{Plain}
use Rattle.value_dm.specs.declared.value.Value.{Value}
use Rattle.value_dm.specs.declared.value.Value.TheVariants as value
use Rattle.value_dm.specs.Spelling.{Spells}
use Rattle.grammar_dm.specs.Reading.{starts}
use Rattle.ddl_tokens_dm.specs.Tokens.{IsRun, doubled}
use Rattle.query_tokens_dm.specs.declared.token.Token.{Token}
use Rattle.query_tokens_dm.specs.declared.token.Token.TheVariants.{Open, Close, Word, Quoted}
use Rattle.query_tokens_dm.specs.declared.token.Placed.{Placed}

-- space, tab, CR, LF
abbrev pub is_space : ℕ → Bool
is_space c = c == 32 || c == 9 || c == 13 || c == 10

-- an ASCII letter or _
abbrev pub begins_word : ℕ → Bool
begins_word c = (nat_le 65 c && nat_le c 90) || (nat_le 97 c && nat_le c 122) || c == 95

-- these and ASCII digits
abbrev pub in_word : ℕ → Bool
in_word c = begins_word c || (nat_le 48 c && nat_le c 57)

-- the text of these bytes
abbrev pub IsTextOf : List ℕ → List ℕ → Type 0
IsTextOf bytes text = IsUtf8 bytes × (text ≡ chars bytes)

abbrev pub StandsToken : Token → List ℕ → List ℕ → Type 0
StandsToken Open ts rest = ts ≡ 40 ∷ rest
StandsToken Close ts rest = ts ≡ 41 ∷ rest
StandsToken (Word name) ts rest =
    (first : ℕ) × (others behind : List ℕ) × (ts ≡ first ∷ behind) × (begins_word first ≡ true) × IsRun in_word others behind rest × IsTextOf (first ∷ others) name
-- a quote, the bytes of the text with each quote twice, and a quote
StandsToken (Quoted text) ts rest =
    (bytes : List ℕ) × (ts ≡ 34 ∷ (doubled bytes ++ 34 ∷ rest)) × (starts (λ c. c == 34) rest ≡ false) × IsTextOf bytes text

abbrev pub IsSpace : List ℕ → List ℕ → Type 0
IsSpace ts rest = (c : ℕ) × (ts ≡ c ∷ rest) × (is_space c ≡ true)

-- ---- values

abbrev pub is_named : List ℕ → List ℕ → Bool
is_named name word = bytes_eq (encode_utf8_all name) word

abbrev pub kind_named : List ℕ → Option Kind
kind_named name =
    if is_named name (codes "text") then Some kind.Text else
    if is_named name (codes "integer") then Some kind.Integer else
    if is_named name (codes "decimal") then Some kind.Decimal else
    if is_named name (codes "boolean") then Some kind.Boolean else
    if is_named name (codes "date") then Some kind.Date else
    if is_named name (codes "time") then Some kind.Time else
    if is_named name (codes "datetime") then Some kind.DateTime else
    if is_named name (codes "binary") then Some kind.Binary else None

-- the kind whose word the token is
abbrev pub kind_word : Token → Option Kind
kind_word (Word name) = kind_named name
kind_word _ = None

-- a text is taken as it is, and every other value is read as a field
abbrev pub Fits : Kind → List ℕ → Value → Type 0
Fits kind.Text text v = v ≡ value.Text text
Fits k text v = Spells k text Plain (Some v)

-- the value of this kind that the text spells, if it spells one
abbrev pub IsSpelled : Kind → List ℕ → Option Value → Type 0
IsSpelled k text found = MatchOption found ((v : Value) → ¬ Fits k text v) (Fits k text)

-- the value that a token has behind the word of a kind, or behind another token
abbrev pub IsFitting : Option Kind → Token → Option Value → Type 0
IsFitting (Some k) (Quoted text) found = IsSpelled k text found
IsFitting _ _ found = found ≡ None

-- ---- a text

-- The text ts, with which a text of so many bytes ends, and before which the word of this kind stands or none, consists of these
-- tokens, each at its place, up to rest.
pub data Consists (total : ℕ) : Option Kind → List ℕ → List Placed → List ℕ → Type 0 where
  nothing : {before : Option Kind} {ts : List ℕ} → Consists total before ts [] ts
  between : {before : Option Kind} {ts after rest : List ℕ} {found : List Placed} → IsSpace ts after → Consists total before after found rest → Consists total before ts found rest
  token : {before : Option Kind} {ts after rest : List ℕ} {token : Token} {value : Option Value} {found : List Placed} → StandsToken token ts after → IsFitting before token value
      → Consists total (kind_word token) after found rest → Consists total before ts (record { token = token; place = total - length ts + 1; value = value } ∷ found) rest

-- neither a token nor white space is at the front
pub record IsNoToken (ts : List ℕ) : Type 0 where
  pub no_token : (token : Token) (rest : List ℕ) → StandsToken token ts rest → ⊥
  pub no_space : (rest : List ℕ) → IsSpace ts rest → ⊥

-- the tokens of the text; or those before the first text that is no token, and its place, from 1
abbrev pub AreTokens : List ℕ → List Placed → Option ℕ → Type 0
AreTokens bytes found None = Consists (length bytes) None bytes found []
AreTokens bytes found (Some place) =
    (rest : List ℕ) × Consists (length bytes) None bytes found rest × IsNoToken rest × (rest ≢ []) × (place ≡ length bytes - length rest + 1)

-- these, and no others
pub record AreOnlyTokens (bytes : List ℕ) (found : List Placed) (stop : Option ℕ) : Type 0 where
  pub tokens : AreTokens bytes found stop
  pub only : (others : List Placed) (end : Option ℕ) → AreTokens bytes others end → (others ≡ found) × (end ≡ stop)
