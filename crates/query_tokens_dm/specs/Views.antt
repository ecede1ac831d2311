-- What the functions of the lexer return.
use Rattle.std.specs.Prelude.{◌≡◌, ◌≤◌, ℕ, List, [], ◌∷◌, ◌++◌, length, Option, Some, None, IsUtf8}
use Rattle.std.specs.Borrow.{Bor}
use Rattle.std.specs.Global.{Vec}
use Rattle.query_tokens_dm.specs.declared.lexer.Front.{Front as Found}
use Rattle.query_tokens_dm.specs.declared.lexer.Front.TheVariants as found
use Rattle.query_tokens_dm.specs.declared.lexer.Lexed.{Lexed}
use Rattle.query_tokens_dm.specs.declared.lexer.Lexed.TheVariants as lexed
use Rattle.query_tokens_dm.specs.declared.token.Token.{Token}
use Rattle.query_tokens_dm.specs.declared.token.Token.TheVariants.{Word, Quoted}
use Rattle.query_tokens_dm.specs.Scanning.{Front}
use Rattle.query_tokens_dm.specs.Scanning.Front.{Space, Opens, Closes, WordOf, QuoteOf, Bad}
use Rattle.query_tokens_dm.specs.Tokens.{IsNoToken, IsSpace, IsTextOf, StandsToken}

abbrev pub front_seen : Found → Front
front_seen (found.Space rest) = Space rest.now
front_seen (found.Opens rest) = Opens rest.now
front_seen (found.Closes rest) = Closes rest.now
front_seen (found.Word bytes rest) = WordOf bytes.items rest.now
front_seen (found.Quote bytes rest) = QuoteOf bytes.items rest.now
front_seen found.Bad = Bad

-- what is left has at most so many bytes
abbrev pub IsShortFront : Found → ℕ → Type 0
IsShortFront (found.Space rest) n = length rest.now ≤ n
IsShortFront (found.Opens rest) n = length rest.now ≤ n
IsShortFront (found.Closes rest) n = length rest.now ≤ n
IsShortFront (found.Word bytes rest) n = length rest.now ≤ n
IsShortFront (found.Quote bytes rest) n = length rest.now ≤ n
IsShortFront found.Bad n = Unit {0}

-- what was found is what stands at the front of ts
abbrev pub IsFound : List ℕ → Lexed → Type 0
IsFound ts (lexed.Between rest) = IsSpace ts rest.now
IsFound ts (lexed.Token token rest) = StandsToken token ts rest.now
IsFound ts lexed.Bad = IsNoToken ts

abbrev pub IsShort : Lexed → ℕ → Type 0
IsShort (lexed.Between rest) n = length rest.now ≤ n
IsShort (lexed.Token token rest) n = length rest.now ≤ n
IsShort lexed.Bad n = Unit {0}

-- the bytes of what is quoted, and those behind it
abbrev pub content_seen : Option (Vec ℕ × Bor (List ℕ)) → Option (List ℕ × List ℕ)
content_seen None = None
content_seen (Some x) = Some (x.0.items, x.1.now)
