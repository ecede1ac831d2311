-- How marks and key words are written (SPARQL 1.1 Query Language, section 19.8), in characters.
use Rattle.std.specs.Prelude.{ℕ, List, ◌==◌, ◌||◌, Bool, codes}
use Rattle.sparql_tokens_dm.specs.declared.token.Keyword.{Keyword}
use Rattle.sparql_tokens_dm.specs.declared.token.Keyword.TheVariants as keywords
use Rattle.sparql_tokens_dm.specs.declared.token.Sign.{Sign}
use Rattle.sparql_tokens_dm.specs.declared.token.Sign.TheVariants as signs

-- space, tab, CR, LF
abbrev pub is_space : ℕ → Bool
is_space c = c == 32 || c == 9 || c == 13 || c == 10

abbrev pub sign_text : Sign → List ℕ
sign_text signs.OpenBrace = codes "{"
sign_text signs.CloseBrace = codes "}"
sign_text signs.OpenParenthesis = codes "("
sign_text signs.CloseParenthesis = codes ")"
sign_text signs.Dot = codes "."
sign_text signs.Comma = codes ","
sign_text signs.Not = codes "!"
sign_text signs.And = codes "&&"
sign_text signs.Or = codes "||"

abbrev pub spelling : Keyword → List ℕ
spelling keywords.Select = codes "SELECT"
spelling keywords.Distinct = codes "DISTINCT"
spelling keywords.Where = codes "WHERE"
spelling keywords.As = codes "AS"
spelling keywords.Union = codes "UNION"
spelling keywords.Minus = codes "MINUS"
spelling keywords.Optional = codes "OPTIONAL"
spelling keywords.Filter = codes "FILTER"
spelling keywords.True = codes "true"
spelling keywords.Bound = codes "bound"
spelling keywords.SameTerm = codes "sameTerm"
