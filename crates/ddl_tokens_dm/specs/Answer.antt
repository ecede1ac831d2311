-- What a file of bytes is answered.
use Rattle.std.specs.Prelude.{◌≡◌, ℕ, ◌+◌, List, Option, Result, Ok, Err, IsUtf8}
use Rattle.std.specs.Str.{IsValidUpTo}
use Rattle.ddl_tokens_dm.specs.declared.token.Placed.{Placed}
use Rattle.ddl_tokens_dm.specs.declared.lexer.TokenError.{TokenError}
use Rattle.ddl_tokens_dm.specs.declared.lexer.TokenError.TheVariants.{Memory, NotUtf8}
use Rattle.ddl_tokens_dm.specs.Tokens.{AreTokens}

-- its tokens and the place of the first text that is none, and there are no others; or the place behind its
-- longest UTF-8 front
abbrev pub IsLexed : List ℕ → Result (List Placed × Option ℕ) TokenError → Type 0
IsLexed bytes (Ok x) =
    IsUtf8 bytes × AreTokens bytes x.0 x.1 × ((found : List Placed) (stop : Option ℕ) → AreTokens bytes found stop → (found ≡ x.0) × (stop ≡ x.1))
IsLexed bytes (Err Memory) = Unit {0}
IsLexed bytes (Err (NotUtf8 place)) = ¬ (IsUtf8 bytes) × ((n : ℕ) × IsValidUpTo bytes n × (place ≡ n + 1))
