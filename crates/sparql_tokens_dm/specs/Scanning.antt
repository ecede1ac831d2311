-- How what stands at the front of a text is found.
use Rattle.std.specs.Prelude.{ℕ, List, [], ◌∷◌, ◌==◌, Bool, Option, Some, None, codes, bytes_eq, encode_utf8_all, if◌then◌else◌}
use Rattle.names_dm.specs.Characters.{is_ascii_letter}
use Rattle.names_dm.specs.Literals.{LiteralValue}
use Rattle.names_dm.specs.Terminals.{is_variable_character}
use Rattle.ntriples_reader_dm.specs.Reading.{iri_at, longest_literal}
use Rattle.ddl_tokens_dm.specs.Scanning.{run_of}
use Rattle.sparql_tokens_dm.specs.Characters.{is_space}
use Rattle.sparql_tokens_dm.specs.declared.token.Keyword.{Keyword}
use Rattle.sparql_tokens_dm.specs.declared.token.Keyword.TheVariants as keywords
use Rattle.sparql_tokens_dm.specs.declared.token.Sign.TheVariants.{OpenBrace, CloseBrace, OpenParenthesis, CloseParenthesis, Dot, Comma, Not, And, Or}
use Rattle.sparql_tokens_dm.specs.declared.token.Token.{Token}
use Rattle.sparql_tokens_dm.specs.declared.token.Token.TheVariants.{Sign, Word, Var, Iri, Literal}
use Rattle.sparql_tokens_dm.specs.declared.words.Run.{Run}
use Rattle.sparql_tokens_dm.specs.declared.words.Run.TheVariants as runs

abbrev pub run_test : Run → ℕ → Bool
run_test runs.Letters = is_ascii_letter
run_test runs.Name = is_variable_character

abbrev pub is_named : List ℕ → List ℕ → Bool
is_named name word = bytes_eq (encode_utf8_all name) word

unfoldable pub keyword_named : List ℕ → Option Keyword
keyword_named name =
    if is_named name (codes "SELECT") then Some keywords.Select else
    if is_named name (codes "DISTINCT") then Some keywords.Distinct else
    if is_named name (codes "WHERE") then Some keywords.Where else
    if is_named name (codes "AS") then Some keywords.As else
    if is_named name (codes "UNION") then Some keywords.Union else
    if is_named name (codes "MINUS") then Some keywords.Minus else
    if is_named name (codes "OPTIONAL") then Some keywords.Optional else
    if is_named name (codes "FILTER") then Some keywords.Filter else
    if is_named name (codes "true") then Some keywords.True else
    if is_named name (codes "bound") then Some keywords.Bound else
    if is_named name (codes "sameTerm") then Some keywords.SameTerm else None

-- what stands at the front, and what behind it
pub data Lexeme : Type 0 where
  Between : List ℕ → Lexeme
  Found : Token → List ℕ → Lexeme
  Bad : Lexeme

abbrev pub word_lexeme : Option Keyword → List ℕ → Lexeme
word_lexeme None rest = Bad
word_lexeme (Some w) rest = Found (Word w) rest

abbrev pub variable_lexeme : List ℕ → List ℕ → Lexeme
variable_lexeme [] rest = Bad
variable_lexeme (c ∷ cs) rest = Found (Var (c ∷ cs)) rest

abbrev pub iri_lexeme : Option (List ℕ × List ℕ) → Lexeme
iri_lexeme None = Bad
iri_lexeme (Some x) = Found (Iri x.0) x.1

abbrev pub literal_lexeme : Option (LiteralValue × List ℕ) → Lexeme
literal_lexeme None = Bad
literal_lexeme (Some x) = Found (Literal x.0) x.1

-- a mark of two of these characters
abbrev pub twice : ℕ → Lexeme → List ℕ → Lexeme
twice c found [] = Bad
twice c found (d ∷ ts) = if d == c then found else Bad

abbrev pub behind_first : List ℕ → List ℕ
behind_first [] = []
behind_first (d ∷ ts) = ts

unfoldable pub sign_lexeme : ℕ → List ℕ → Lexeme
sign_lexeme c ts =
    if c == 123 then Found (Sign OpenBrace) ts
    else (if c == 125 then Found (Sign CloseBrace) ts
    else (if c == 40 then Found (Sign OpenParenthesis) ts
    else (if c == 41 then Found (Sign CloseParenthesis) ts
    else (if c == 46 then Found (Sign Dot) ts
    else (if c == 44 then Found (Sign Comma) ts
    else (if c == 33 then Found (Sign Not) ts
    else (if c == 38 then twice 38 (Found (Sign And) (behind_first ts)) ts
    else (if c == 124 then twice 124 (Found (Sign Or) (behind_first ts)) ts
    else Bad))))))))

unfoldable pub lexeme : List ℕ → Lexeme
lexeme [] = Bad
lexeme (c ∷ ts) =
    if is_ascii_letter c then word_lexeme (keyword_named (run_of is_ascii_letter (c ∷ ts)).0) (run_of is_ascii_letter (c ∷ ts)).1
    else (if is_space c then Between ts
    else (if c == 63 then variable_lexeme (run_of is_variable_character ts).0 (run_of is_variable_character ts).1
    else (if c == 60 then iri_lexeme (iri_at (c ∷ ts))
    else (if c == 34 then literal_lexeme (longest_literal (c ∷ ts))
    else sign_lexeme c ts))))
