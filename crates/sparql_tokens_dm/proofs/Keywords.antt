-- Key words by their spelling.
use Rattle.std.proofs.Common.{◌≡◌, ◌∙◌, ℕ, List, ◌∷◌, Bool, true, false, Option, Some, None, refl, sym, ap, cond, encode_utf8_all, chars}
use Rattle.std.specs.Prelude.{codes}
use Rattle.std.specs.Str.{IsAscii}
use Rattle.std.proofs.lemmas.Str.{chars-IsAscii}
use Rattle.std.specs.Cmp.Lexicographic.{bytes_decides}
use Rattle.names_dm.proofs.SafeForms.{marks_ascii}
use Rattle.names_dm.proofs.Utf8.{chars-encodes_any}
use Rattle.names_dm.specs.Characters.{is_ascii_letter}
use Rattle.sparql_tokens_dm.specs.Characters.{spelling}
use Rattle.sparql_tokens_dm.specs.Scanning.{is_named, keyword_named}
use Rattle.sparql_tokens_dm.specs.declared.token.Keyword.{Keyword}
use Rattle.sparql_tokens_dm.specs.declared.token.Keyword.TheVariants as keywords

some_is : (a b : Keyword) → ◌≡◌ {A = Option Keyword} (Some a) (Some b) → a ≡ b
some_is a b e = cc

none_some : {W : Type 0} (a : Keyword) → ◌≡◌ {A = Option Keyword} None (Some a) → W
none_some a e = absurd cc

ascii : (w : Keyword) → IsAscii (spelling w)
ascii keywords.Select = marks_ascii (spelling keywords.Select) refl
ascii keywords.Distinct = marks_ascii (spelling keywords.Distinct) refl
ascii keywords.Where = marks_ascii (spelling keywords.Where) refl
ascii keywords.As = marks_ascii (spelling keywords.As) refl
ascii keywords.Union = marks_ascii (spelling keywords.Union) refl
ascii keywords.Minus = marks_ascii (spelling keywords.Minus) refl
ascii keywords.Optional = marks_ascii (spelling keywords.Optional) refl
ascii keywords.Filter = marks_ascii (spelling keywords.Filter) refl
ascii keywords.True = marks_ascii (spelling keywords.True) refl
ascii keywords.Bound = marks_ascii (spelling keywords.Bound) refl
ascii keywords.SameTerm = marks_ascii (spelling keywords.SameTerm) refl

-- a word in ASCII is its own characters
plain : (w : Keyword) → chars (spelling w) ≡ spelling w
plain w = chars-IsAscii (spelling w) (ascii w)

named : (name : List ℕ) (k w : Keyword) → is_named name (spelling k) ≡ true → ◌≡◌ {A = Option Keyword} (Some k) (Some w) → name ≡ spelling w
named name k w e s = sym (chars-encodes_any name) ∙ ap chars ((bytes_decides (encode_utf8_all name) (spelling k)).0 e) ∙ plain k ∙ ap spelling (some_is k w s)

keyword_step : (name : List ℕ) (w : Keyword) (b0 b1 b2 b3 b4 b5 b6 b7 b8 b9 b10 : Bool) → is_named name (codes "SELECT") ≡ b0 → is_named name (codes "DISTINCT") ≡ b1 → is_named name (codes "WHERE") ≡ b2 → is_named name (codes "AS") ≡ b3 → is_named name (codes "UNION") ≡ b4 → is_named name (codes "MINUS") ≡ b5 → is_named name (codes "OPTIONAL") ≡ b6 → is_named name (codes "FILTER") ≡ b7 → is_named name (codes "true") ≡ b8 → is_named name (codes "bound") ≡ b9 → is_named name (codes "sameTerm") ≡ b10
    → cond b0 (Some keywords.Select) (cond b1 (Some keywords.Distinct) (cond b2 (Some keywords.Where) (cond b3 (Some keywords.As) (cond b4 (Some keywords.Union) (cond b5 (Some keywords.Minus) (cond b6 (Some keywords.Optional) (cond b7 (Some keywords.Filter) (cond b8 (Some keywords.True) (cond b9 (Some keywords.Bound) (cond b10 (Some keywords.SameTerm) (None))))))))))) ≡ Some w → name ≡ spelling w
keyword_step name w true b1 b2 b3 b4 b5 b6 b7 b8 b9 b10 h0 h1 h2 h3 h4 h5 h6 h7 h8 h9 h10 e = named name keywords.Select w h0 e
keyword_step name w false true b2 b3 b4 b5 b6 b7 b8 b9 b10 h0 h1 h2 h3 h4 h5 h6 h7 h8 h9 h10 e = named name keywords.Distinct w h1 e
keyword_step name w false false true b3 b4 b5 b6 b7 b8 b9 b10 h0 h1 h2 h3 h4 h5 h6 h7 h8 h9 h10 e = named name keywords.Where w h2 e
keyword_step name w false false false true b4 b5 b6 b7 b8 b9 b10 h0 h1 h2 h3 h4 h5 h6 h7 h8 h9 h10 e = named name keywords.As w h3 e
keyword_step name w false false false false true b5 b6 b7 b8 b9 b10 h0 h1 h2 h3 h4 h5 h6 h7 h8 h9 h10 e = named name keywords.Union w h4 e
keyword_step name w false false false false false true b6 b7 b8 b9 b10 h0 h1 h2 h3 h4 h5 h6 h7 h8 h9 h10 e = named name keywords.Minus w h5 e
keyword_step name w false false false false false false true b7 b8 b9 b10 h0 h1 h2 h3 h4 h5 h6 h7 h8 h9 h10 e = named name keywords.Optional w h6 e
keyword_step name w false false false false false false false true b8 b9 b10 h0 h1 h2 h3 h4 h5 h6 h7 h8 h9 h10 e = named name keywords.Filter w h7 e
keyword_step name w false false false false false false false false true b9 b10 h0 h1 h2 h3 h4 h5 h6 h7 h8 h9 h10 e = named name keywords.True w h8 e
keyword_step name w false false false false false false false false false true b10 h0 h1 h2 h3 h4 h5 h6 h7 h8 h9 h10 e = named name keywords.Bound w h9 e
keyword_step name w false false false false false false false false false false true h0 h1 h2 h3 h4 h5 h6 h7 h8 h9 h10 e = named name keywords.SameTerm w h10 e
keyword_step name w false false false false false false false false false false false h0 h1 h2 h3 h4 h5 h6 h7 h8 h9 h10 e = none_some w e

pub keyword_is : (name : List ℕ) (w : Keyword) → keyword_named name ≡ Some w → name ≡ spelling w
unfolding keyword_named
keyword_is name w e = keyword_step name w (is_named name (codes "SELECT")) (is_named name (codes "DISTINCT")) (is_named name (codes "WHERE")) (is_named name (codes "AS")) (is_named name (codes "UNION")) (is_named name (codes "MINUS")) (is_named name (codes "OPTIONAL")) (is_named name (codes "FILTER")) (is_named name (codes "true")) (is_named name (codes "bound")) (is_named name (codes "sameTerm")) refl refl refl refl refl refl refl refl refl refl refl e

pub keyword_found : (w : Keyword) → keyword_named (spelling w) ≡ Some w
unfolding keyword_named lib.Utf8.encode
keyword_found keywords.Select = refl
keyword_found keywords.Distinct = refl
keyword_found keywords.Where = refl
keyword_found keywords.As = refl
keyword_found keywords.Union = refl
keyword_found keywords.Minus = refl
keyword_found keywords.Optional = refl
keyword_found keywords.Filter = refl
keyword_found keywords.True = refl
keyword_found keywords.Bound = refl
keyword_found keywords.SameTerm = refl

-- it begins with a letter
pub spelling_first : (w : Keyword) → (first : ℕ) × (others : List ℕ) × (spelling w ≡ first ∷ others) × (is_ascii_letter first ≡ true)
spelling_first keywords.Select = (83, codes "ELECT", refl, refl)
spelling_first keywords.Distinct = (68, codes "ISTINCT", refl, refl)
spelling_first keywords.Where = (87, codes "HERE", refl, refl)
spelling_first keywords.As = (65, codes "S", refl, refl)
spelling_first keywords.Union = (85, codes "NION", refl, refl)
spelling_first keywords.Minus = (77, codes "INUS", refl, refl)
spelling_first keywords.Optional = (79, codes "PTIONAL", refl, refl)
spelling_first keywords.Filter = (70, codes "ILTER", refl, refl)
spelling_first keywords.True = (116, codes "rue", refl, refl)
spelling_first keywords.Bound = (98, codes "ound", refl, refl)
spelling_first keywords.SameTerm = (115, codes "ameTerm", refl, refl)
