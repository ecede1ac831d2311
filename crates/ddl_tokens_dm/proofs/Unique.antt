-- A file has one list of tokens, and one end of it.
use Rattle.std.proofs.Common.{◌≡◌, ◌≢◌, ℕ, ◌+◌, ◌-◌, List, [], ◌∷◌, length, Option, Some, None, Result, Ok, Err, refl, sym, ap, subst, ◌∙◌, encode_utf8_all, chars}
use Rattle.std.specs.Prelude.{IsUtf8}
use Rattle.ddl_tokens_dm.specs.declared.token.Token.{Token}
use Rattle.ddl_tokens_dm.specs.declared.token.Placed.{Placed}
use Rattle.ddl_tokens_dm.specs.Tokens.{Consists, IsNoToken, StandsBetween, StandsToken, AreTokensOf, AreTokens, unmarked}
use Rattle.ddl_tokens_dm.specs.Tokens.Consists.{nothing, between, token}
use Rattle.ddl_tokens_dm.specs.Scanning.{Lexeme, lexeme}
use Rattle.ddl_tokens_dm.specs.Scanning.Lexeme.{Between, Found, Bad}
use Rattle.ddl_tokens_dm.proofs.Scans.{bad_is, token_found, between_found}

between_one : (a b : List ℕ) → Between a ≡ Between b → a ≡ b
between_one a b e = cc

found_one : (t u : Token) (a b : List ℕ) → Found t a ≡ Found u b → (t ≡ u) × (a ≡ b)
found_one t u a b e = (cc, cc)

between_no_token : {W : Type 0} (u : Token) (a b : List ℕ) → Between a ≡ Found u b → W
between_no_token u a b e = absurd cc

abbrev placed_at : ℕ → List ℕ → Token → List Placed → List Placed
placed_at total ts t found = record { token = t; place = total - length (encode_utf8_all ts) + 1 } ∷ found

one_list : {total : ℕ} {ts r : List ℕ} {found : List Placed} → Consists total ts found r → (found' : List Placed) (r' : List ℕ) → Consists total ts found' r' → IsNoToken r → IsNoToken r' → (found ≡ found') × (r ≡ r')
one_list nothing found' r' nothing n n' = (refl, refl)
one_list nothing found' r' (between {after = after} s h) n n' = absurd (n.not_between after s)
one_list nothing found' r' (token {after = after} {token = t} s h) n n' = absurd (n.no_token t after s)
one_list (between {after = after} s h) found' r' nothing n n' = absurd (n'.not_between after s)
one_list {total} (between {ts = ts} {after = after} s h) found' r' (between {after = after'} s' h') n n' =
    let same : after' ≡ after = between_one after' after (sym (between_found ts after' s') ∙ between_found ts after s) in
    one_list h found' r' (subst (λ (us : List ℕ). Consists total us found' r') same h') n n'
one_list (between {ts = ts} {after = after} s h) found' r' (token {after = after'} {token = t} s' h') n n' =
    between_no_token t after after' (sym (between_found ts after s) ∙ token_found t ts after' s')
one_list (token {after = after} {token = t} s h) found' r' nothing n n' = absurd (n'.no_token t after s)
one_list (token {ts = ts} {after = after} {token = t} s h) found' r' (between {after = after'} s' h') n n' =
    between_no_token t after' after (sym (between_found ts after' s') ∙ token_found t ts after s)
one_list {total} (token {ts = ts} {after = after} {token = t} {found = others} s h) found' r' (token {after = after'} {token = t'} {found = others'} s' h') n n' =
    let same = found_one t' t after' after (sym (token_found t' ts after' s') ∙ token_found t ts after s) in
    let again = one_list h others' r' (subst (λ (us : List ℕ). Consists total us others' r') same.1 h') n n' in
    (ap (λ fs. placed_at total ts t fs) again.0 ∙ ap (λ u. placed_at total ts u others') (sym same.0), again.1)

nil_ends : IsNoToken []
unfolding lexeme
nil_ends = bad_is [] refl

pub tokens_one : (total : ℕ) (text : List ℕ) (found found' : List Placed) (stop stop' : Option ℕ) → AreTokensOf total text found stop → AreTokensOf total text found' stop' → (found' ≡ found) × (stop' ≡ stop)
tokens_one total text found found' None None h k = ((one_list k found [] h nil_ends nil_ends).0, refl)
tokens_one total text found found' None (Some p) h k = absurd (k.3 (one_list k.1 found [] h k.2 nil_ends).1)
tokens_one total text found found' (Some p) None h k = absurd (h.3 (sym (one_list k found h.0 h.1 nil_ends h.2).1))
tokens_one total text found found' (Some p) (Some p') h k =
    let same = one_list k.1 found h.0 h.1 k.2 h.2 in
    (same.0, ap (λ (n : ℕ). some_place n) (k.4 ∙ ap (λ us. total - length (encode_utf8_all us) + 1) same.1 ∙ sym h.4))
  where
    some_place : ℕ → Option ℕ
    some_place n = Some n

-- the tokens are the only ones of the file
pub only_tokens : (bytes : List ℕ) (x : List Placed × Option ℕ) → AreTokens bytes x.0 x.1 → (found : List Placed) (stop : Option ℕ) → AreTokens bytes found stop → (found ≡ x.0) × (stop ≡ x.1)
only_tokens bytes x h found stop k = tokens_one (length bytes) (unmarked (chars bytes)) x.0 found x.1 stop h k
