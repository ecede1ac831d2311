-- Each text has its tokens up to the end or to the first text that is no token.
use Rattle.std.proofs.Common.{◌≡◌, ◌≢◌, ◌∙◌, ℕ, zero, suc, ◌+◌, ◌-◌, ◌<◌, ◌≤◌, List, [], ◌∷◌, ◌++◌, length, Option, Some, None, refl, ap, arith, chars}
use Rattle.std.proofs.lemmas.List.{length-append}
use Rattle.value_dm.specs.declared.kind.Kind.{Kind}
use Rattle.value_dm.specs.declared.value.Value.{Value}
use Rattle.ddl_tokens_dm.specs.Tokens.{doubled}
use Rattle.query_tokens_dm.specs.declared.token.Token.{Token}
use Rattle.query_tokens_dm.specs.declared.token.Token.TheVariants.{Open, Close, Word, Quoted}
use Rattle.query_tokens_dm.specs.declared.token.Placed.{Placed}
use Rattle.query_tokens_dm.specs.Scanning.{Front, front}
use Rattle.query_tokens_dm.specs.Scanning.Front.{Space, Opens, Closes, WordOf, QuoteOf, Bad}
use Rattle.query_tokens_dm.specs.Tokens.{AreTokens, Consists, IsFitting, IsNoToken, IsSpace, IsSpelled, StandsToken, kind_word}
use Rattle.query_tokens_dm.specs.Tokens.Consists.{nothing, between, token}
use Rattle.query_tokens_dm.proofs.Fronts.{Stands, bad_is, no_quoted_text, no_word_text, quoted_text, stands, word_text}

-- ---- values

spelled_some : (k : Kind) (text : List ℕ) → ¬ ((value : Option Value) → ¬ IsSpelled k text value)
spelled_some k text none = none None (λ v h. none (Some v) h)

fitting_some : (before : Option Kind) (t : Token) → ¬ ((value : Option Value) → ¬ IsFitting before t value)
fitting_some (Some k) (Quoted text) none = spelled_some k text none
fitting_some (Some k) Open none = none None refl
fitting_some (Some k) Close none = none None refl
fitting_some (Some k) (Word name) none = none None refl
fitting_some None Open none = none None refl
fitting_some None Close none = none None refl
fitting_some None (Word name) none = none None refl
fitting_some None (Quoted text) none = none None refl

-- ---- tokens

-- the tokens of what is left of a text, before which the word of this kind stands or none
abbrev AreTokensFrom : ℕ → Option Kind → List ℕ → List Placed → Option ℕ → Type 0
AreTokensFrom total before ts found None = Consists total before ts found []
AreTokensFrom total before ts found (Some place) = (rest : List ℕ) × Consists total before ts found rest × IsNoToken rest × (rest ≢ []) × (place ≡ total - length rest + 1)

abbrev NoTokens : ℕ → Option Kind → List ℕ → Type 0
NoTokens total before ts = (found : List Placed) (stop : Option ℕ) → ¬ AreTokensFrom total before ts found stop

longer : (ts behind : List ℕ) (c : ℕ) → ts ≡ c ∷ behind → length ts ≡ suc (length behind)
longer ts behind c is = ap (λ (us : List ℕ). length us) is

behind_space : (total : ℕ) (before : Option Kind) (ts rest : List ℕ) (found : List Placed) (stop : Option ℕ) → IsSpace ts rest → AreTokensFrom total before rest found stop → AreTokensFrom total before ts found stop
behind_space total before ts rest found None s h = between s h
behind_space total before ts rest found (Some place) s h = (h.0, between s h.1, h.2, h.3, h.4)

behind_token : (total : ℕ) (before : Option Kind) (ts rest : List ℕ) (t : Token) (value : Option Value) (found : List Placed) (stop : Option ℕ) → StandsToken t ts rest → IsFitting before t value
    → AreTokensFrom total (kind_word t) rest found stop → AreTokensFrom total before ts (record { token = t; place = total - length ts + 1; value = value } ∷ found) stop
behind_token total before ts rest t value found None s v h = token {token = t} s v h
behind_token total before ts rest t value found (Some place) s v h = (h.0, token {token = t} s v h.1, h.2, h.3, h.4)

module _ (total : ℕ) (before : Option Kind) (ts : List ℕ) (some : ts ≢ []) (shorter : (kind : Option Kind) (rest : List ℕ) → length rest < length ts → ¬ NoTokens total kind rest) where
  at_token : (t : Token) (rest : List ℕ) → length rest < length ts → StandsToken t ts rest → ¬ NoTokens total before ts
  at_token t rest less s none =
      fitting_some before t (λ value v.
      shorter (kind_word t) rest less (λ found stop h. none _ stop (behind_token total before ts rest t value found stop s v h)))

  at_none : IsNoToken ts → ¬ NoTokens total before ts
  at_none bad none = none [] (Some _) (ts, nothing, bad, some, refl)

  by_front : (f : Front) → front ts ≡ f → Stands ts f → ¬ NoTokens total before ts
  by_front (Space rest) e s none =
      let size = longer ts rest s.0 s.1 in
      shorter before rest (omega (arith, size)) (λ found stop h. none found stop (behind_space total before ts rest found stop s h))
  by_front (Opens rest) e s none = (let size = longer ts rest 40 s in at_token Open rest (omega (arith, size)) s none)
  by_front (Closes rest) e s none = (let size = longer ts rest 41 s in at_token Close rest (omega (arith, size)) s none)
  by_front (WordOf bytes rest) e s none =
      let size = longer ts s.2 s.0 s.4 in
      let run : length s.2 ≡ length s.1 + length rest = ap (λ (us : List ℕ). length us) s.6.whole ∙ length-append s.1 rest in
      let less : length rest < length ts = omega (arith, size, run) in
      at_none (no_word_text bytes ts rest e (λ utf8. at_token (Word (chars bytes)) rest less (word_text bytes ts rest (chars bytes) e (utf8, refl)) none)) none
  by_front (QuoteOf bytes rest) e s none =
      let size = longer ts (doubled bytes ++ 34 ∷ rest) 34 s.0 in
      let run = length-append (doubled bytes) (34 ∷ rest) in
      let less : length rest < length ts = omega (arith, size, run) in
      at_none (no_quoted_text bytes ts rest e (λ utf8. at_token (Quoted (chars bytes)) rest less (quoted_text bytes ts rest (chars bytes) e (utf8, refl)) none)) none
  by_front Bad e s none = at_none (bad_is ts e) none

tokens_from : (total size : ℕ) (before : Option Kind) (ts : List ℕ) → length ts ≤ size → ¬ NoTokens total before ts
tokens_from total size before [] le none = none [] None nothing
tokens_from total zero before (c ∷ ts) le none = absurd (omega (arith, le))
tokens_from total (suc size) before (c ∷ ts) le none =
    by_front total before (c ∷ ts) (λ e. absurd cc) (λ kind rest less. tokens_from total size kind rest (omega (arith, le, less))) (front (c ∷ ts)) refl (stands (c ∷ ts) (front (c ∷ ts)) refl) none

pub tokens_some : (bytes : List ℕ) → ¬ ((found : List Placed) (stop : Option ℕ) → ¬ AreTokens bytes found stop)
tokens_some bytes none = tokens_from (length bytes) (length bytes) None bytes (omega arith) by_stop
  where
    by_stop : NoTokens (length bytes) None bytes
    by_stop found None h = none found None h
    by_stop found (Some place) h = none found (Some place) h
