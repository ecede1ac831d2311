-- How what stands at the front of a text is found.
use Rattle.std.specs.Prelude.{ℕ, List, [], ◌∷◌, ◌==◌, if◌then◌else◌, Option, Some, None}
use Rattle.ddl_tokens_dm.specs.Scanning.{quoted_at, run_of}
use Rattle.query_tokens_dm.specs.Tokens.{begins_word, in_word, is_space}

-- what stands at the front: white space, a parenthesis, the bytes of a word or of what is quoted, or none of these
pub data Front : Type 0 where
  Space : List ℕ → Front
  Opens : List ℕ → Front
  Closes : List ℕ → Front
  WordOf : List ℕ → List ℕ → Front
  QuoteOf : List ℕ → List ℕ → Front
  Bad : Front

abbrev pub quote_front : Option (List ℕ × List ℕ) → Front
quote_front None = Bad
quote_front (Some x) = QuoteOf x.0 x.1

unfoldable pub front : List ℕ → Front
front [] = Bad
front (c ∷ ts) =
    if begins_word c then WordOf (c ∷ (run_of in_word ts).0) (run_of in_word ts).1
    else (if is_space c then Space ts
    else (if c == 40 then Opens ts
    else (if c == 41 then Closes ts
    else (if c == 34 then quote_front (quoted_at ts)
    else Bad))))
