-- What the functions of the lexer return, as characters.
use Rattle.std.specs.Prelude.{◌≡◌, ◌⊎◌, ℕ, List, length, take, chars, IsUtf8}
use Rattle.std.specs.Str.{IsValidUpTo}
use Rattle.sparql_tokens_dm.specs.declared.lexer.Lexed.{Lexed}
use Rattle.sparql_tokens_dm.specs.declared.lexer.Lexed.TheVariants as lexed
use Rattle.sparql_tokens_dm.specs.Scanning.{Lexeme}
use Rattle.sparql_tokens_dm.specs.Scanning.Lexeme.{Between, Found, Bad}

abbrev pub lexeme_seen : Lexed → Lexeme
lexeme_seen (lexed.Between rest) = Between (chars rest.now)
lexeme_seen (lexed.Token token rest) = Found token (chars rest.now)
lexeme_seen lexed.Bad = Bad

-- what is left is UTF-8
abbrev pub IsText : Lexed → Type 0
IsText (lexed.Between rest) = IsUtf8 rest.now
IsText (lexed.Token token rest) = IsUtf8 rest.now
IsText lexed.Bad = Unit {0}

-- all bytes, where they are UTF-8, or else their longest front that is
abbrev pub IsTextFront : List ℕ → List ℕ → Type 0
IsTextFront bytes text = IsUtf8 text × ((IsUtf8 bytes × (text ≡ bytes)) ⊎ (IsValidUpTo bytes (length text) × (text ≡ take (length text) bytes)))
