-- How what stands at the front of a text is found.
use Rattle.std.specs.Prelude.{◌≡◌, ℕ, List, [], ◌∷◌, Option, Some, None, Bool, true, false, ◌==◌, ◌&&◌, if◌then◌else◌}
use Rattle.grammar_dm.specs.Reading.{starts}
use Rattle.ddl_tokens_dm.specs.declared.token.Token.{Token}
use Rattle.ddl_tokens_dm.specs.declared.token.Token.TheVariants.{Sign, Number, Word, Quoted}
use Rattle.ddl_tokens_dm.specs.declared.token.Sign.TheVariants.{Open, Close, Comma, Semicolon}
use Rattle.ddl_tokens_dm.specs.Characters.{byte_order_mark, is_space, in_line, is_digit, begins_word, in_word}

-- a longest run, and what stands behind it
abbrev pub with_first : ℕ → List ℕ × List ℕ → List ℕ × List ℕ
with_first c x = (c ∷ x.0, x.1)

unfoldable pub run_of : (ℕ → Bool) → List ℕ → List ℕ × List ℕ
run_of kind [] = ([], [])
run_of kind (c ∷ ts) = if kind c then with_first c (run_of kind ts) else ([], c ∷ ts)

-- what stands behind the next */
unfoldable pub after_close : List ℕ → Option (List ℕ)
after_close [] = None
after_close (c ∷ []) = None
after_close (c ∷ d ∷ ts) = if c == 42 && d == 47 then Some ts else after_close (d ∷ ts)

abbrev pub with_char : ℕ → Option (List ℕ × List ℕ) → Option (List ℕ × List ℕ)
with_char c None = None
with_char c (Some x) = Some (c ∷ x.0, x.1)

-- a name up to its closing quote, and what stands behind that
unfoldable pub quoted_at : List ℕ → Option (List ℕ × List ℕ)
quoted_at [] = None
quoted_at (c ∷ []) = if c == 34 then Some ([], []) else None
quoted_at (c ∷ d ∷ ts) = if c == 34 then (if d == 34 then with_char 34 (quoted_at ts) else Some ([], d ∷ ts)) else with_char c (quoted_at (d ∷ ts))

pub data Lexeme : Type 0 where
  Between : List ℕ → Lexeme
  Found : Token → List ℕ → Lexeme
  Bad : Lexeme

abbrev pub skipped : Option (List ℕ) → Lexeme
skipped None = Bad
skipped (Some rest) = Between rest

abbrev pub identifier : Option (List ℕ × List ℕ) → Lexeme
identifier None = Bad
identifier (Some ([], rest)) = Bad
identifier (Some (c ∷ name, rest)) = if c == byte_order_mark then Bad else Found (Quoted (c ∷ name)) rest

abbrev pub line_comment : List ℕ → Lexeme
line_comment [] = Bad
line_comment (c ∷ ts) = if c == 45 then Between (run_of in_line ts).1 else Bad

abbrev pub comment : List ℕ → Lexeme
comment [] = Bad
comment (c ∷ ts) = if c == 42 then skipped (after_close ts) else Bad

unfoldable pub sign_at : ℕ → List ℕ → Lexeme
sign_at c ts =
    if c == 40 then Found (Sign Open) ts
    else (if c == 41 then Found (Sign Close) ts
    else (if c == 44 then Found (Sign Comma) ts
    else (if c == 59 then Found (Sign Semicolon) ts
    else Bad)))

unfoldable pub lexeme : List ℕ → Lexeme
lexeme [] = Bad
lexeme (c ∷ ts) =
    if begins_word c then Found (Word (c ∷ (run_of in_word ts).0)) (run_of in_word ts).1
    else (if is_digit c then Found Number (run_of is_digit ts).1
    else (if is_space c then Between ts
    else (if c == 34 then identifier (quoted_at ts)
    else (if c == 45 then line_comment ts
    else (if c == 47 then comment ts
    else sign_at c ts)))))
