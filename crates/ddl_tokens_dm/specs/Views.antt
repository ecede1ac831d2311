-- What the functions of the lexer return, as characters.
use Rattle.std.specs.Prelude.{◌≡◌, ◌≤◌, ℕ, List, [], ◌++◌, length, Option, Some, None, Bool, false, not, ◌∷◌, chars, ◌==◌, IsUtf8}
use Rattle.std.specs.Borrow.{Bor}
use Rattle.grammar_dm.specs.Reading.{starts}
use Rattle.ddl_tokens_dm.specs.declared.lexer.Lexed.{Lexed}
use Rattle.ddl_tokens_dm.specs.declared.lexer.Lexed.TheVariants as lexed
use Rattle.ddl_tokens_dm.specs.Characters.{byte_order_mark}
use Rattle.ddl_tokens_dm.specs.Scanning.{Lexeme}
use Rattle.ddl_tokens_dm.specs.Scanning.Lexeme.{Between, Found, Bad}

abbrev pub rest_seen : Option (Bor (List ℕ)) → Option (List ℕ)
rest_seen None = None
rest_seen (Some rest) = Some (chars rest.now)

abbrev pub name_seen : Option (List ℕ × Bor (List ℕ)) → Option (List ℕ × List ℕ)
name_seen None = None
name_seen (Some x) = Some (x.0, chars x.1.now)

abbrev pub lexeme_seen : Lexed → Lexeme
lexeme_seen (lexed.Between rest) = Between (chars rest.now)
lexeme_seen (lexed.Token token rest) = Found token (chars rest.now)
lexeme_seen lexed.Bad = Bad

-- what is left has at most so many bytes
abbrev pub IsShort : Lexed → ℕ → Type 0
IsShort (lexed.Between rest) n = length rest.now ≤ n
IsShort (lexed.Token token rest) n = length rest.now ≤ n
IsShort lexed.Bad n = Unit {0}

-- the characters read so far, before those still read
abbrev pub with_front : List ℕ → Option (List ℕ × List ℕ) → Option (List ℕ × List ℕ)
with_front front None = None
with_front front (Some x) = Some (front ++ x.0, x.1)

abbrev pub run_with : List ℕ → List ℕ × List ℕ → List ℕ × List ℕ
run_with front x = (front ++ x.0, x.1)

abbrev pub is_identifier : List ℕ → Bool
is_identifier [] = false
is_identifier (c ∷ name) = not (c == byte_order_mark)

-- what is left is UTF-8
abbrev pub IsText : Lexed → Type 0
IsText (lexed.Between rest) = IsUtf8 rest.now
IsText (lexed.Token token rest) = IsUtf8 rest.now
IsText lexed.Bad = Unit {0}
