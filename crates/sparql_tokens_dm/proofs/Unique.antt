-- A text has one list of tokens, and one end of it.
use Rattle.std.proofs.Common.{◌≡◌, ℕ, ◌+◌, ◌-◌, List, [], ◌∷◌, length, take, Option, Some, None, refl, sym, ap, subst, ◌∙◌, arith, encode_utf8_all, chars, inl, inr}
use Rattle.std.specs.Prelude.{IsUtf8}
use Rattle.std.specs.Str.{IsValidUpTo}
use Rattle.std.proofs.lemmas.Str.{utf8_valid_len-IsUtf8, utf8_valid_len-IsValidUpTo}
use Rattle.sparql_tokens_dm.specs.declared.token.Token.{Token}
use Rattle.sparql_tokens_dm.specs.declared.token.Placed.{Placed}
use Rattle.sparql_tokens_dm.specs.Tokens.{AreOnlyTokens, AreTokens, AreTokensOf, Consists, IsNoToken, stop_behind}
use Rattle.sparql_tokens_dm.specs.Tokens.Consists.{nothing, between, token}
use Rattle.sparql_tokens_dm.specs.Scanning.{lexeme}
use Rattle.sparql_tokens_dm.specs.Scanning.Lexeme.{Between, Found}
use Rattle.sparql_tokens_dm.proofs.Scans.{bad_is, space_found, token_found}

between_one : (a b : List ℕ) → Between a ≡ Between b → a ≡ b
between_one a b e = cc

found_one : (t u : Token) (a b : List ℕ) → Found t a ≡ Found u b → (t ≡ u) × (a ≡ b)
found_one t u a b e = (cc, cc)

between_no_token : {W : Type 0} (u : Token) (a b : List ℕ) → Between a ≡ Found u b → W
between_no_token u a b e = absurd cc

abbrev placed_at : ℕ → List ℕ → Token → List Placed → List Placed
placed_at total ts t found = record { token = t; place = total - length (encode_utf8_all ts) + 1 } ∷ found

one_list : {total : ℕ} {ts r : List ℕ} {found : List Placed} → Consists total ts found r → (found' : List Placed) (r' : List ℕ) → Consists total ts found' r' → IsNoToken r → IsNoToken r' → (found ≡ found') × (r ≡ r')
one_list nothing found' r' nothing n n' = (refl, refl)
one_list nothing found' r' (between {after = after} s h) n n' = absurd (n.no_space after s)
one_list nothing found' r' (token {after = after} {token = t} s h) n n' = absurd (n.no_token t after s)
one_list (between {after = after} s h) found' r' nothing n n' = absurd (n'.no_space after s)
one_list {total} (between {ts = ts} {after = after} s h) found' r' (between {after = after'} s' h') n n' =
    let same : after' ≡ after = between_one after' after (sym (space_found ts after' s') ∙ space_found ts after s) in
    one_list h found' r' (subst (λ (us : List ℕ). Consists total us found' r') same h') n n'
one_list (between {ts = ts} {after = after} s h) found' r' (token {after = after'} {token = t} s' h') n n' =
    between_no_token t after after' (sym (space_found ts after s) ∙ token_found t ts after' s')
one_list (token {after = after} {token = t} s h) found' r' nothing n n' = absurd (n'.no_token t after s)
one_list (token {ts = ts} {after = after} {token = t} s h) found' r' (between {after = after'} s' h') n n' =
    between_no_token t after' after (sym (space_found ts after' s') ∙ token_found t ts after s)
one_list {total} (token {ts = ts} {after = after} {token = t} {found = others} s h) found' r' (token {after = after'} {token = t'} {found = others'} s' h') n n' =
    let same = found_one t' t after' after (sym (token_found t' ts after' s') ∙ token_found t ts after s) in
    let again = one_list h others' r' (subst (λ (us : List ℕ). Consists total us others' r') same.1 h') n n' in
    (ap (λ fs. placed_at total ts t fs) again.0 ∙ ap (λ u. placed_at total ts u others') (sym same.0), again.1)

nil_ends : IsNoToken []
unfolding lexeme
nil_ends = bad_is [] refl

tokens_one : (total : ℕ) (text : List ℕ) (found found' : List Placed) (stop stop' : Option ℕ) → AreTokensOf total text found stop → AreTokensOf total text found' stop' → (found' ≡ found) × (stop' ≡ stop)
tokens_one total text found found' None None h k = ((one_list k found [] h nil_ends nil_ends).0, refl)
tokens_one total text found found' None (Some p) h k = absurd (k.3 (one_list k.1 found [] h k.2 nil_ends).1)
tokens_one total text found found' (Some p) None h k = absurd (h.3 (sym (one_list k found h.0 h.1 nil_ends h.2).1))
tokens_one total text found found' (Some p) (Some p') h k =
    let same = one_list k.1 found h.0 h.1 k.2 h.2 in
    (same.0, ap (λ (n : ℕ). some_place n) (k.4 ∙ ap (λ us. total - length (encode_utf8_all us) + 1) same.1 ∙ sym h.4))
  where
    some_place : ℕ → Option ℕ
    some_place n = Some n

not_both : {W : Type 0} (bytes : List ℕ) (n : ℕ) → IsUtf8 bytes → IsValidUpTo bytes n → W
not_both bytes n u v = let same = sym (utf8_valid_len-IsValidUpTo bytes n v) ∙ utf8_valid_len-IsUtf8 bytes u in absurd (omega (arith, same, v.short))

one_length : (bytes : List ℕ) (n m : ℕ) → IsValidUpTo bytes n → IsValidUpTo bytes m → n ≡ m
one_length bytes n m u v = sym (utf8_valid_len-IsValidUpTo bytes n u) ∙ utf8_valid_len-IsValidUpTo bytes m v

abbrev some_stop : ℕ → Option ℕ
some_stop n = Some n

-- the tokens are the only ones of the bytes
one_way : (bytes : List ℕ) (found others : List Placed) (stop end : Option ℕ) → AreTokens bytes found stop → AreTokens bytes others end → (others ≡ found) × (end ≡ stop)
one_way bytes found others stop end (inl h) (inl k) = tokens_one (length bytes) (chars bytes) found others stop end h.1 k.1
one_way bytes found others stop end (inl h) (inr k) = not_both bytes k.0 h.0 k.1
one_way bytes found others stop end (inr h) (inl k) = not_both bytes h.0 k.0 h.1
one_way bytes found others stop end (inr h) (inr k) =
    let n = one_length bytes k.0 h.0 k.1 h.1 in
    let a = h.2 in
    let b = k.2 in
    let same = tokens_one h.0 (chars (take h.0 bytes)) found others a.0 b.0 a.1 (subst (λ (m : ℕ). AreTokensOf m (chars (take m bytes)) others b.0) n b.1) in
    (same.0, b.2 ∙ ap (λ m. some_stop (stop_behind b.0 m)) n ∙ ap (λ s. some_stop (stop_behind s h.0)) same.1 ∙ sym a.2)

pub only_tokens : (bytes : List ℕ) (found : List Placed) (stop : Option ℕ) → AreTokens bytes found stop → AreOnlyTokens bytes found stop
only_tokens bytes found stop h = record { tokens = h; only = λ others end k. one_way bytes found others stop end h k }
