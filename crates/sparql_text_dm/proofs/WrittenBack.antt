-- The text of a query is read back.
use Rattle.std.proofs.Common.{◌≡◌, ◌≢◌, ◌∙◌, ℕ, List, [], ◌∷◌, map, Option, Some, None, Result, Ok, Err, refl, sym, ap, subst}
use Rattle.grammar_dm.specs.Part.{Spells}
use Rattle.pattern_dm.specs.declared.pattern.Pattern.{Pattern}
use Rattle.pattern_dm.specs.Texts.{query_text}
use Rattle.sparql_tokens_dm.specs.declared.token.Token.{Token}
use Rattle.sparql_tokens_dm.specs.declared.token.Placed.{Placed}
use Rattle.sparql_tokens_dm.specs.Tokens.{AreTokens}
use Rattle.sparql_tokens_dm.proofs.Pieces.{tokens_in}
use Rattle.sparql_tokens_dm.proofs.Unique.{only_tokens}
use Rattle.sparql_text_dm.specs.declared.error.SparqlError.{SparqlError}
use Rattle.sparql_text_dm.specs.declared.error.SparqlError.TheVariants.{BadPattern, TooNested, Memory}
use Rattle.sparql_text_dm.specs.declared.parsed.Parsed.{Parsed}
use Rattle.sparql_text_dm.specs.Answer.{HasOneAnswer, IsAnswer, IsTextOf}
use Rattle.sparql_text_dm.specs.Grammar.{query}
use Rattle.sparql_text_dm.specs.Written.{GivesBack, IsQuery, IsSpelling, SpellsQuery, TextsReadBack}
use Rattle.sparql_text_dm.proofs.OneAnswer.{one_answer}
use Rattle.sparql_text_dm.proofs.SpelledQuery.{tokens_spell}
use Rattle.sparql_text_dm.proofs.WrittenDepths.{query_shallow}
use Rattle.sparql_text_dm.proofs.WrittenTokens.{query_tokens, text_tokens}

-- bytes with the tokens of a query's text are a text of the query
of_tokens : (bytes : List ℕ) (x : Parsed) (ts : List Placed) → IsQuery x.header x.pattern → AreTokens bytes ts None → tokens_in ts ≡ query_tokens x.header x.pattern [] → IsTextOf bytes x
of_tokens bytes x ts q are e = (ts, are, (refl, (query_shallow x.header x.pattern ts e).1 q.nested), tokens_spell x.header x.pattern ts q.some q.formed e)

pub spelled_text : (bytes : List ℕ) (x : Parsed) → SpellsQuery bytes x → IsTextOf bytes x
spelled_text bytes x s =
    let text = text_tokens x.header x.pattern s.0 in
    let spelling = s.1 in
    let same : text.0 ≡ spelling.1 = ((only_tokens (query_text x.header x.pattern) spelling.1 None spelling.3).only text.0 None text.1).0 in
    of_tokens bytes x spelling.0 s.0 spelling.2 (spelling.4 ∙ ap (λ (us : List Placed). tokens_in us) (sym same) ∙ text.2)

text_of : (header : List (List ℕ)) (p : Pattern) → IsQuery header p → IsTextOf (query_text header p) (record { header = header; pattern = p })
text_of header p q = let text = text_tokens header p q in of_tokens (query_text header p) (record { header = header; pattern = p }) text.0 q text.1 text.2

abbrev an_answer : Parsed → Result Parsed SparqlError
an_answer x = Ok x

no_memory : (x : Parsed) → an_answer x ≢ Err Memory
no_memory x e = absurd cc

no_fault : {W : Type 0} (x : Parsed) (e : SparqlError) → ◌≡◌ {A = Result Parsed SparqlError} (Err e) (Ok x) → W
no_fault x e h = absurd cc

same_query : (x y : Parsed) → an_answer x ≡ an_answer y → x ≡ y
same_query x y e = cc

module _ (header : List (List ℕ)) (p : Pattern) (q : IsQuery header p) where
  only : (r : Result Parsed SparqlError) → r ≢ Err Memory → IsAnswer (query_text header p) r → r ≡ Ok (record { header = header; pattern = p })
  only r n h = one_answer (query_text header p) r (Ok (record { header = header; pattern = p })) n (no_memory (record { header = header; pattern = p })) h (text_of header p q)

  back : (r : Result Parsed SparqlError) → IsAnswer (query_text header p) r → GivesBack header p r
  back (Ok x) h = let same = same_query x (record { header = header; pattern = p }) (only (Ok x) (no_memory x) h) in (ap (λ (y : Parsed). y.header) same, ap (λ (y : Parsed). y.pattern) same)
  back (Err Memory) h = tt
  back (Err (BadPattern place)) h = no_fault (record { header = header; pattern = p }) (BadPattern place) (only (Err (BadPattern place)) (λ e. absurd (let k = e in cc k)) h)
  back (Err (TooNested place)) h = no_fault (record { header = header; pattern = p }) (TooNested place) (only (Err (TooNested place)) (λ e. absurd (let k = e in cc k)) h)

-- the text of every query is read back
pub texts_read_back : TextsReadBack
texts_read_back header p r q h = back header p q r h
