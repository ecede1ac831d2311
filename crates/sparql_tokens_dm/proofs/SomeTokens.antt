-- Each text has its tokens up to the end or to the first text that is no token.
use Rattle.std.proofs.Common.{◌≡◌, ◌≢◌, ℕ, zero, suc, ◌+◌, ◌<◌, ◌≤◌, List, [], ◌∷◌, length, take, Option, Some, None, refl, subst, inl, inr, arith, chars}
use Rattle.std.specs.Prelude.{IsUtf8}
use Rattle.std.specs.Str.{IsValidUpTo}
use Rattle.std.proofs.lemmas.Bool.{cases_eq, cases_lt}
use Rattle.std.proofs.lemmas.List.{take_all}
use Rattle.std.proofs.lemmas.Str.{IsUtf8-nil}
use Rattle.sparql_tokens_dm.specs.declared.token.Token.{Token}
use Rattle.sparql_tokens_dm.specs.declared.token.Placed.{Placed}
use Rattle.sparql_tokens_dm.specs.Scanning.{Lexeme, lexeme}
use Rattle.sparql_tokens_dm.specs.Scanning.Lexeme.{Between, Found, Bad}
use Rattle.sparql_tokens_dm.specs.Tokens.{AreTokens, AreTokensOf, IsSpace, StandsToken, stop_behind}
use Rattle.sparql_tokens_dm.specs.Tokens.Consists.{nothing, between, token}
use Rattle.sparql_tokens_dm.proofs.Scans.{bad_is, behind_shorter, space_behind, space_is, token_behind, token_is}

-- ---- characters

record HasTokens (total : ℕ) (ts : List ℕ) : Type 0 where
  pub found : List Placed
  pub stop : Option ℕ
  pub are : AreTokensOf total ts found stop

behind_space : (total : ℕ) (ts rest : List ℕ) (found : List Placed) (stop : Option ℕ) → IsSpace ts rest → AreTokensOf total rest found stop → HasTokens total ts
behind_space total ts rest found None s h = record { found = found; stop = None; are = between s h }
behind_space total ts rest found (Some place) s h = record { found = found; stop = Some place; are = (h.0, between s h.1, h.2, h.3, h.4) }

behind_token : (total : ℕ) (ts rest : List ℕ) (t : Token) (found : List Placed) (stop : Option ℕ) → StandsToken t ts rest → AreTokensOf total rest found stop → HasTokens total ts
behind_token total ts rest t found None s h = record { found = _; stop = None; are = token {token = t} s h }
behind_token total ts rest t found (Some place) s h = record { found = _; stop = Some place; are = (h.0, token {token = t} s h.1, h.2, h.3, h.4) }

tokens_behind : (total : ℕ) (ts : List ℕ) → ts ≢ [] → ((rest : List ℕ) → length rest < length ts → HasTokens total rest) → (l : Lexeme) → lexeme ts ≡ l → HasTokens total ts
tokens_behind total ts some shorter (Between rest) e =
    let stands = space_is ts rest e in
    let further = shorter rest (behind_shorter ts rest (space_behind ts rest stands)) in
    behind_space total ts rest further.found further.stop stands further.are
tokens_behind total ts some shorter (Found t rest) e =
    let stands = token_is ts rest t e in
    let further = shorter rest (behind_shorter ts rest (token_behind t ts rest stands)) in
    behind_token total ts rest t further.found further.stop stands further.are
tokens_behind total ts some shorter Bad e = record { found = []; stop = Some _; are = (ts, nothing, bad_is ts e, some, refl) }

tokens_up_to : (total size : ℕ) (ts : List ℕ) → length ts ≤ size → HasTokens total ts
tokens_up_to total size [] le = record { found = []; stop = None; are = nothing }
tokens_up_to total zero (c ∷ ts) le = absurd (omega (arith, le))
tokens_up_to total (suc size) (c ∷ ts) le =
    tokens_behind total (c ∷ ts) (λ e. absurd cc) (λ rest less. tokens_up_to total size rest (omega (arith, le, less))) (lexeme (c ∷ ts)) refl

tokens_of : (total : ℕ) (ts : List ℕ) → HasTokens total ts
tokens_of total ts = tokens_up_to total (length ts) ts (omega arith)

-- ---- bytes

-- the longest front of at most k bytes that is a text
record Front (bytes : List ℕ) (k : ℕ) : Type 0 where
  pub n : ℕ
  pub within : n ≤ k
  pub front : IsUtf8 (take n bytes)
  pub longest : (m : ℕ) → n < m → m ≤ k → ¬ IsUtf8 (take m bytes)

some_front : (bytes : List ℕ) (k : ℕ) → ¬ ¬ Front bytes k
some_front bytes zero none = none (record { n = 0; within = omega arith; front = IsUtf8-nil; longest = λ m less most. absurd (omega (arith, less, most)) })
some_front bytes (suc k) none =
    let no_text : ¬ IsUtf8 (take (suc k) bytes) = λ text. none (record { n = suc k; within = omega arith; front = text; longest = λ m less most. absurd (omega (arith, less, most)) }) in
    some_front bytes k (λ f. none (record {
      n = f.n;
      within = let w = f.within in omega (arith, w);
      front = f.front;
      longest = λ m less most. elim (cases_eq m (suc k)) [
        | inl same ↦ λ text. no_text (subst (λ (n : ℕ). IsUtf8 (take n bytes)) same text)
        | inr other ↦ f.longest m less (omega (arith, most, other))
      ];
    }))

valid_front : (bytes : List ℕ) → ¬ IsUtf8 bytes → (f : Front bytes (length bytes)) → IsValidUpTo bytes f.n
valid_front bytes no_text f =
    let whole : (m : ℕ) → length bytes ≤ m → ¬ IsUtf8 (take m bytes) = λ m long text. no_text (subst IsUtf8 (take_all m bytes long) text) in
    record {
      short = elim (cases_lt f.n (length bytes)) [
        | inl less ↦ less
        | inr long ↦ absurd (whole f.n long f.front)
      ];
      front = f.front;
      longest = λ m less. elim (cases_lt (length bytes) m) [
        | inl long ↦ whole m (omega (arith, long))
        | inr most ↦ f.longest m less most
      ];
    }

pub tokens_some : (bytes : List ℕ) → ¬ ((found : List Placed) (stop : Option ℕ) → ¬ AreTokens bytes found stop)
tokens_some bytes none =
    let no_text : ¬ IsUtf8 bytes = λ text. (let has = tokens_of (length bytes) (chars bytes) in none has.found has.stop (inl (text, has.are))) in
    some_front bytes (length bytes) (λ f.
    let has = tokens_of f.n (chars (take f.n bytes)) in
    none has.found (Some (stop_behind has.stop f.n)) (inr (f.n, valid_front bytes no_text f, (has.stop, has.are, refl))))
