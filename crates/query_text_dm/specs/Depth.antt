-- How many parentheses are open.
use Rattle.std.specs.Prelude.{◌≡◌, ◌≤◌, ◌-◌, ℕ, suc, List, [], ◌∷◌, ◌++◌, Option, Some, None, IsSome}
use Rattle.query_tokens_dm.specs.declared.token.Token.{Token}
use Rattle.query_tokens_dm.specs.declared.token.Token.TheVariants.{Open, Close, Word, Quoted}
use Rattle.query_tokens_dm.specs.declared.token.Placed.{Placed}
use Rattle.query_text_dm.specs.Words.{open_of}

abbrev pub past : Token → ℕ → ℕ
past Open n = suc n
past Close n = n - 1
past (Word name) n = n
past (Quoted text) n = n

-- how many are open behind the tokens, where n are open before them
abbrev pub depth_from : ℕ → List Placed → ℕ
depth_from n [] = n
depth_from n (t ∷ ts) = depth_from (past t.token n) ts

abbrev pub depth : List Placed → ℕ
depth ts = depth_from 0 ts

-- the opening parenthesis behind these tokens is inside 64 open ones
abbrev pub IsTooDeep : List Placed → Placed → Type 0
IsTooDeep before t = IsSome (open_of t.token) × (64 ≤ depth before)

-- no opening parenthesis of the tokens is
abbrev pub IsShallow : List Placed → Type 0
IsShallow ts = (before after : List Placed) (t : Placed) → ts ≡ before ++ t ∷ after → ¬ IsTooDeep before t

-- the tokens before the first one that is, and its place; or all of them
abbrev pub IsCut : List Placed → List Placed → Option ℕ → Type 0
IsCut ts kept None = (kept ≡ ts) × IsShallow ts
IsCut ts kept (Some place) = (t : Placed) × (rest : List Placed) × (ts ≡ kept ++ t ∷ rest) × IsShallow kept × IsTooDeep kept t × (place ≡ t.place)
