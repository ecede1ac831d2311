-- How many braces and parentheses are open.
use Rattle.std.specs.Prelude.{◌≡◌, ◌≤◌, ◌-◌, ◌||◌, ℕ, suc, List, [], ◌∷◌, ◌++◌, Option, Some, None, IsTrue, Bool, if◌then◌else◌}
use Rattle.sparql_tokens_dm.specs.declared.token.Sign.TheVariants.{OpenBrace, CloseBrace, OpenParenthesis, CloseParenthesis}
use Rattle.sparql_tokens_dm.specs.declared.token.Placed.{Placed}
use Rattle.sparql_text_dm.specs.Words.{is_sign}

abbrev pub opens : Placed → Bool
opens t = is_sign OpenBrace t || is_sign OpenParenthesis t

abbrev pub closes : Placed → Bool
closes t = is_sign CloseBrace t || is_sign CloseParenthesis t

abbrev pub past : Placed → ℕ → ℕ
past t n = if opens t then suc n else (if closes t then n - 1 else n)

-- how many are open behind the tokens, where n are open before them
abbrev pub depth_from : ℕ → List Placed → ℕ
depth_from n [] = n
depth_from n (t ∷ ts) = depth_from (past t n) ts

abbrev pub depth : List Placed → ℕ
depth ts = depth_from 0 ts

-- the opening brace or parenthesis behind these tokens is inside 2,048 open ones
abbrev pub IsTooNested : List Placed → Placed → Type 0
IsTooNested before t = IsTrue (opens t) × (2048 ≤ depth before)

-- none of the tokens is
abbrev pub IsShallow : List Placed → Type 0
IsShallow ts = (before after : List Placed) (t : Placed) → ts ≡ before ++ t ∷ after → ¬ IsTooNested before t

-- the tokens before the first one that is, and its place; or all of them
abbrev pub IsCut : List Placed → List Placed → Option ℕ → Type 0
IsCut ts kept None = (kept ≡ ts) × IsShallow ts
IsCut ts kept (Some place) = (t : Placed) × (rest : List Placed) × (ts ≡ kept ++ t ∷ rest) × IsShallow kept × IsTooNested kept t × (place ≡ t.place)
