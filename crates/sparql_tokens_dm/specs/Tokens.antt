-- The tokens of a text of characters (SPARQL 1.1 Query Language, section 19.8, with the IRIs and literals of RDF 1.1 N-Triples,
-- section 7), and what stands between them. Each relation says what stands in ts before rest.
use Rattle.std.specs.Prelude.{◌≡◌, ◌≢◌, ◌⊎◌, ℕ, ◌+◌, ◌-◌, List, [], ◌∷◌, ◌++◌, length, take, Option, Some, None, true, chars, IsUtf8, encode_utf8_all}
use Rattle.std.specs.Str.{IsValidUpTo}
use Rattle.names_dm.specs.Characters.{is_ascii_letter}
use Rattle.names_dm.specs.Terminals.{is_variable_character}
use Rattle.names_dm.specs.declared.term.Term.TheVariants as terms
use Rattle.ntriples_reader_dm.specs.Front.{IsLongest}
use Rattle.ntriples_reader_dm.specs.Grammar.{iri_ref, literal}
use Rattle.ddl_tokens_dm.specs.Tokens.{IsRun}
use Rattle.sparql_tokens_dm.specs.Characters.{is_space, sign_text, spelling}
use Rattle.sparql_tokens_dm.specs.declared.token.Token.{Token}
use Rattle.sparql_tokens_dm.specs.declared.token.Token.TheVariants.{Sign, Word, Var, Iri, Literal}
use Rattle.sparql_tokens_dm.specs.declared.token.Placed.{Placed}

abbrev pub IsSpace : List ℕ → List ℕ → Type 0
IsSpace ts rest = (c : ℕ) × (ts ≡ c ∷ rest) × (is_space c ≡ true)

-- A key word is a longest run of ASCII letters; a variable is ? and a longest run of the characters of a variable's name. An
-- IRI and a literal are the longest that stand there.
abbrev pub StandsToken : Token → List ℕ → List ℕ → Type 0
StandsToken (Sign s) ts rest = ts ≡ sign_text s ++ rest
StandsToken (Word w) ts rest = IsRun is_ascii_letter (spelling w) ts rest
StandsToken (Var x) ts rest = (x ≢ []) × ((behind : List ℕ) × (ts ≡ 63 ∷ behind) × IsRun is_variable_character x behind rest)
StandsToken (Iri i) ts rest = IsLongest iri_ref ts rest i
StandsToken (Literal l) ts rest = IsLongest literal ts rest (terms.Literal l)

-- ---- a text

-- The text ts, with which a text of so many bytes ends, consists of these tokens, each at its place, up to rest.
pub data Consists (total : ℕ) : List ℕ → List Placed → List ℕ → Type 0 where
  nothing : {ts : List ℕ} → Consists total ts [] ts
  between : {ts after rest : List ℕ} {found : List Placed} → IsSpace ts after → Consists total after found rest → Consists total ts found rest
  token : {ts after rest : List ℕ} {token : Token} {found : List Placed} → StandsToken token ts after → Consists total after found rest
      → Consists total ts (record { token = token; place = total - length (encode_utf8_all ts) + 1 } ∷ found) rest

-- neither a token nor white space is at the front
pub record IsNoToken (ts : List ℕ) : Type 0 where
  pub no_token : (token : Token) (rest : List ℕ) → StandsToken token ts rest → ⊥
  pub no_space : (rest : List ℕ) → IsSpace ts rest → ⊥

-- The tokens of a text of so many bytes; or those before the first text that is no token, and its place.
abbrev pub AreTokensOf : ℕ → List ℕ → List Placed → Option ℕ → Type 0
AreTokensOf total text found None = Consists total text found []
AreTokensOf total text found (Some place) =
    (rest : List ℕ) × Consists total text found rest × IsNoToken rest × (rest ≢ []) × (place ≡ total - length (encode_utf8_all rest) + 1)

-- the place of the first byte that is no text, where all before it is tokens
abbrev pub stop_behind : Option ℕ → ℕ → ℕ
stop_behind None n = n + 1
stop_behind (Some place) n = place

-- The tokens of the bytes, or those before the first text that is no token, and its place, from 1. Bytes that aren't UTF-8 are
-- no token, so the first of them is such a text.
abbrev pub AreTokens : List ℕ → List Placed → Option ℕ → Type 0
AreTokens bytes found stop =
    (IsUtf8 bytes × AreTokensOf (length bytes) (chars bytes) found stop)
    ⊎ ((n : ℕ) × IsValidUpTo bytes n × ((end : Option ℕ) × AreTokensOf n (chars (take n bytes)) found end × (stop ≡ Some (stop_behind end n))))

-- these, and no others
pub record AreOnlyTokens (bytes : List ℕ) (found : List Placed) (stop : Option ℕ) : Type 0 where
  pub tokens : AreTokens bytes found stop
  pub only : (others : List Placed) (end : Option ℕ) → AreTokens bytes others end → (others ≡ found) × (end ≡ stop)
