-- The loops of the lexer, and that a text has no other tokens.
use Rattle.std.proofs.Common.{◌≡◌, ◌≢◌, ℕ, ◌+◌, ◌-◌, List, [], ◌∷◌, ◌++◌, length, Option, Some, None, refl, sym, ap, subst, ◌∙◌, append_assoc}
use Rattle.std.specs.Prelude.{MatchOption, IsUtf8}
use Rattle.std.proofs.lemmas.List.{append-nil}
use Rattle.value_dm.specs.declared.kind.Kind.{Kind}
use Rattle.value_dm.specs.declared.kind.Kind.TheVariants as kind
use Rattle.value_dm.specs.declared.value.Value.{Value}
use Rattle.value_dm.specs.declared.mode.NullMode.TheVariants.{Plain}
use Rattle.value_dm.specs.Spelling.{Spells}
use Rattle.value_dm.proofs.Values.{spells_one}
use Rattle.query_tokens_dm.specs.declared.token.Token.{Token}
use Rattle.query_tokens_dm.specs.declared.token.Token.TheVariants.{Open, Close, Word, Quoted}
use Rattle.query_tokens_dm.specs.declared.token.Placed.{Placed}
use Rattle.query_tokens_dm.specs.declared.lexer.Lexed.{Lexed}
use Rattle.query_tokens_dm.specs.Scanning.{front}
use Rattle.query_tokens_dm.specs.Tokens.{AreOnlyTokens, AreTokens, Consists, Fits, IsFitting, IsNoToken, IsSpace, IsSpelled, StandsToken, kind_word}
use Rattle.query_tokens_dm.specs.Tokens.Consists.{nothing, between, token}
use Rattle.query_tokens_dm.proofs.Fronts.{bad_is, one_space, one_token, space_no_token}

-- ---- one value

some_is : (v w : Value) → ◌≡◌ {A = Option Value} (Some v) (Some w) → v ≡ w
some_is v w e = cc

fits_one : (k : Kind) (text : List ℕ) (v w : Value) → Fits k text v → Fits k text w → v ≡ w
fits_one kind.Text text v w h k = h ∙ sym k
fits_one kind.Integer text v w h k = some_is v w (spells_one kind.Integer text Plain (Some v) (Some w) h k)
fits_one kind.Decimal text v w h k = some_is v w (spells_one kind.Decimal text Plain (Some v) (Some w) h k)
fits_one kind.Boolean text v w h k = some_is v w (spells_one kind.Boolean text Plain (Some v) (Some w) h k)
fits_one kind.Date text v w h k = some_is v w (spells_one kind.Date text Plain (Some v) (Some w) h k)
fits_one kind.Time text v w h k = some_is v w (spells_one kind.Time text Plain (Some v) (Some w) h k)
fits_one kind.DateTime text v w h k = some_is v w (spells_one kind.DateTime text Plain (Some v) (Some w) h k)
fits_one kind.Binary text v w h k = some_is v w (spells_one kind.Binary text Plain (Some v) (Some w) h k)

-- a value that is no text is read as a field
pub field_of : (k : Kind) (text : List ℕ) (v : Value) → k ≢ kind.Text → Fits k text v → Spells k text Plain (Some v)
field_of kind.Text text v n h = absurd (n refl)
field_of kind.Integer text v n h = h
field_of kind.Decimal text v n h = h
field_of kind.Boolean text v n h = h
field_of kind.Date text v n h = h
field_of kind.Time text v n h = h
field_of kind.DateTime text v n h = h
field_of kind.Binary text v n h = h

spelled_one : (k : Kind) (text : List ℕ) (a b : Option Value) → IsSpelled k text a → IsSpelled k text b → a ≡ b
spelled_one k text None None h e = refl
spelled_one k text None (Some w) h e = absurd (h w e)
spelled_one k text (Some v) None h e = absurd (e v h)
spelled_one k text (Some v) (Some w) h e = ap (λ (x : Value). a_value x) (fits_one k text v w h e)
  where
    a_value : Value → Option Value
    a_value x = Some x

fitting_one : (before : Option Kind) (t : Token) (a b : Option Value) → IsFitting before t a → IsFitting before t b → a ≡ b
fitting_one (Some k) (Quoted text) a b h e = spelled_one k text a b h e
fitting_one (Some k) Open a b h e = h ∙ sym e
fitting_one (Some k) Close a b h e = h ∙ sym e
fitting_one (Some k) (Word name) a b h e = h ∙ sym e
fitting_one None t a b h e = h ∙ sym e

-- ---- one list of tokens

abbrev placed_at : ℕ → List ℕ → Token → Option Value → List Placed → List Placed
placed_at total ts t value found = record { token = t; place = total - length ts + 1; value = value } ∷ found

one_list : {total : ℕ} {before : Option Kind} {ts r : List ℕ} {found : List Placed} → Consists total before ts found r → (found' : List Placed) (r' : List ℕ) → Consists total before ts found' r' → IsNoToken r → IsNoToken r'
    → (found ≡ found') × (r ≡ r')
one_list nothing found' r' nothing n n' = (refl, refl)
one_list nothing found' r' (between {after = after} s h) n n' = absurd (n.no_space after s)
one_list nothing found' r' (token {after = after} {token = t} s v h) n n' = absurd (n.no_token t after s)
one_list (between {after = after} s h) found' r' nothing n n' = absurd (n'.no_space after s)
one_list {total} {before} (between {ts = ts} {after = after} s h) found' r' (between {after = after'} s' h') n n' =
    one_list h found' r' (subst (λ (us : List ℕ). Consists total before us found' r') (one_space ts after' after s' s) h') n n'
one_list (between {ts = ts} {after = after} s h) found' r' (token {after = after'} {token = t} s' v' h') n n' = space_no_token t ts after after' s s'
one_list (token {after = after} {token = t} s v h) found' r' nothing n n' = absurd (n'.no_token t after s)
one_list (token {ts = ts} {after = after} {token = t} s v h) found' r' (between {after = after'} s' h') n n' = space_no_token t ts after' after s' s
one_list {total} {before} (token {ts = ts} {after = after} {token = t} {value = value} {found = others} s v h) found' r' (token {after = after'} {token = t'} {value = value'} {found = others'} s' v' h') n n' =
    let same = one_token t' t ts after' after s' s in
    let behind = subst (λ (u : Token). Consists total (kind_word u) after others' r') same.0 (subst (λ (us : List ℕ). Consists total (kind_word t') us others' r') same.1 h') in
    let again = one_list h others' r' behind n n' in
    let one = fitting_one before t value value' v (subst (λ (u : Token). IsFitting before u value') same.0 v') in
    (ap (λ fs. placed_at total ts t value fs) again.0 ∙ ap (λ x. placed_at total ts t x others') one ∙ ap (λ u. placed_at total ts u value' others') (sym same.0), again.1)

nil_ends : IsNoToken []
unfolding front
nil_ends = bad_is [] refl

pub tokens_one : (bytes : List ℕ) (found found' : List Placed) (stop stop' : Option ℕ) → AreTokens bytes found stop → AreTokens bytes found' stop' → (found' ≡ found) × (stop' ≡ stop)
tokens_one bytes found found' None None h k = ((one_list k found [] h nil_ends nil_ends).0, refl)
tokens_one bytes found found' None (Some p) h k = absurd (k.3 (one_list k.1 found [] h k.2 nil_ends).1)
tokens_one bytes found found' (Some p) None h k = absurd (h.3 (sym (one_list k found h.0 h.1 nil_ends h.2).1))
tokens_one bytes found found' (Some p) (Some p') h k =
    let same = one_list k.1 found h.0 h.1 k.2 h.2 in
    (same.0, ap (λ (n : ℕ). some_place n) (k.4 ∙ ap (λ us. length bytes - length us + 1) same.1 ∙ sym h.4))
  where
    some_place : ℕ → Option ℕ
    some_place n = Some n

pub only_tokens : (bytes : List ℕ) (found : List Placed) (stop : Option ℕ) → AreTokens bytes found stop → AreOnlyTokens bytes found stop
only_tokens bytes found stop h = record { tokens = h; only = λ others end k. tokens_one bytes found others stop end h k }

-- ---- the loop over tokens

-- what was found of the text, whatever its rest consists of
pub record Read (text : List ℕ) (found : List Placed) (before : Option Kind) (rest : List ℕ) : Type 0 where
  pub goes_on : (others : List Placed) (end : List ℕ) → Consists (length text) before rest others end → Consists (length text) None text (found ++ others) end

pub read_begins : (text : List ℕ) (none : List Placed) → none ≡ [] → Read text none None text
read_begins text none e = record { goes_on = λ others end h. subst (λ (fs : List Placed). Consists (length text) None text (fs ++ others) end) (sym e) h }

pub read_between : (text rest after : List ℕ) (found : List Placed) (before : Option Kind) → Read text found before rest → IsSpace rest after → Read text found before after
read_between text rest after found before r s = record { goes_on = λ others end h. r.goes_on others end (between s h) }

pub read_token : (text rest after : List ℕ) (found new : List Placed) (before : Option Kind) (t : Token) (value : Option Value) (place : ℕ) → Read text found before rest → StandsToken t rest after → IsFitting before t value
    → place ≡ length text - length rest + 1 → new ≡ found ++ record { token = t; place = place; value = value } ∷ [] → Read text new (kind_word t) after
read_token text rest after found new before t value place r s v at made = record {
  goes_on = λ others end h.
      let one : Placed = record { token = t; place = length text - length rest + 1; value = value } in
      let placed : new ≡ found ++ one ∷ [] = made ∙ ap (λ n. found ++ record { token = t; place = n; value = value } ∷ []) at in
      subst (λ (fs : List Placed). Consists (length text) None text fs end) (sym (ap (λ fs. fs ++ others) placed ∙ append_assoc found (one ∷ []) others))
      (r.goes_on (one ∷ others) end (token s v h));
}

pub read_ends : (text rest : List ℕ) (found : List Placed) (before : Option Kind) → Read text found before rest → Consists (length text) None text found rest
read_ends text rest found before r = subst (λ (fs : List Placed). Consists (length text) None text fs rest) (append-nil found) (r.goes_on [] rest nothing)
