-- The marks and words that stand between terms in written text, with their spaces.
use Rattle.std.proofs.Common.{ℕ, List, [], ◌∷◌, ◌++◌, codes, refl}
use Rattle.sparql_tokens_dm.specs.Characters.{sign_text, spelling}
use Rattle.sparql_tokens_dm.specs.declared.token.Keyword.{Keyword}
use Rattle.sparql_tokens_dm.specs.declared.token.Keyword.TheVariants as keywords
use Rattle.sparql_tokens_dm.specs.declared.token.Sign.{Sign as Mark}
use Rattle.sparql_tokens_dm.specs.declared.token.Sign.TheVariants as signs
use Rattle.sparql_tokens_dm.specs.declared.token.Token.{Token}
use Rattle.sparql_tokens_dm.specs.declared.token.Token.TheVariants.{Sign, Word}
use Rattle.sparql_tokens_dm.proofs.Pieces.{Free, Ends, ends_free, free_ends, free_free, sign_written, space_written, word_written}

module _ (total : ℕ) where
  -- a mark and a space, on either side of one another
  pub spaced_sign : (s : Mark) → Free total (codes " " ++ sign_text s) (λ more. Sign s ∷ more)
  spaced_sign s = free_free total (space_written total) (sign_written total s)

  pub sign_space : (s : Mark) → Free total (sign_text s ++ codes " ") (λ more. Sign s ∷ more)
  sign_space s = free_free total (sign_written total s) (space_written total)

  pub between_spaces : (s : Mark) → Free total (codes " " ++ sign_text s ++ codes " ") (λ more. Sign s ∷ more)
  between_spaces s = free_free total (spaced_sign s) (space_written total)

  pub word_space : (w : Keyword) → Free total (spelling w ++ codes " ") (λ more. Word w ∷ more)
  word_space w = ends_free total (word_written total w) (space_written total) (λ rest. refl)

  pub spaced_word : (w : Keyword) → Free total (codes " " ++ (spelling w ++ codes " ")) (λ more. Word w ∷ more)
  spaced_word w = free_free total (space_written total) (word_space w)

  pub word_parenthesis : (w : Keyword) → Free total (spelling w ++ codes "(") (λ more. Word w ∷ Sign signs.OpenParenthesis ∷ more)
  word_parenthesis w = ends_free total (word_written total w) (sign_written total signs.OpenParenthesis) (λ rest. refl)

  -- ---- around conditions

  pub not_phrase : Free total (codes "( ! ") (λ more. Sign signs.OpenParenthesis ∷ Sign signs.Not ∷ more)
  not_phrase = free_free total (sign_space signs.OpenParenthesis) (sign_space signs.Not)

  pub filter_phrase : Free total (codes " FILTER ( ") (λ more. Word keywords.Filter ∷ Sign signs.OpenParenthesis ∷ more)
  filter_phrase = free_free total (spaced_word keywords.Filter) (sign_space signs.OpenParenthesis)

  -- ---- around patterns

  pub empty_phrase : Free total (codes "{ }") (λ more. Sign signs.OpenBrace ∷ Sign signs.CloseBrace ∷ more)
  empty_phrase = free_free total (sign_space signs.OpenBrace) (sign_written total signs.CloseBrace)

  pub dot_phrase : Free total (codes " . }") (λ more. Sign signs.Dot ∷ Sign signs.CloseBrace ∷ more)
  dot_phrase = free_free total (between_spaces signs.Dot) (sign_written total signs.CloseBrace)

  pub optional_phrase : Free total (codes " OPTIONAL { ") (λ more. Word keywords.Optional ∷ Sign signs.OpenBrace ∷ more)
  optional_phrase = free_free total (spaced_word keywords.Optional) (sign_space signs.OpenBrace)

  pub closing_phrase : Free total (codes " } }") (λ more. Sign signs.CloseBrace ∷ Sign signs.CloseBrace ∷ more)
  closing_phrase = free_free total (between_spaces signs.CloseBrace) (sign_written total signs.CloseBrace)

  pub select_phrase : Free total (codes "{ SELECT ") (λ more. Sign signs.OpenBrace ∷ Word keywords.Select ∷ more)
  select_phrase = free_free total (sign_space signs.OpenBrace) (word_space keywords.Select)

  pub distinct_phrase : Free total (codes "SELECT DISTINCT ") (λ more. Word keywords.Select ∷ Word keywords.Distinct ∷ more)
  distinct_phrase = free_free total (word_space keywords.Select) (word_space keywords.Distinct)

  -- all of them as texts
  pub open_phrase : Free total (codes "{ ") (λ more. Sign signs.OpenBrace ∷ more)
  open_phrase = sign_space signs.OpenBrace

  pub union_phrase : Free total (codes " UNION ") (λ more. Word keywords.Union ∷ more)
  union_phrase = spaced_word keywords.Union

  pub minus_phrase : Free total (codes " MINUS ") (λ more. Word keywords.Minus ∷ more)
  minus_phrase = spaced_word keywords.Minus

  pub where_phrase : Free total (codes " WHERE ") (λ more. Word keywords.Where ∷ more)
  where_phrase = spaced_word keywords.Where

  pub as_phrase : Free total (codes " AS ") (λ more. Word keywords.As ∷ more)
  as_phrase = spaced_word keywords.As
