-- The loops of the lexer.
use Rattle.std.proofs.Common.{◌≡◌, ◌≢◌, ℕ, ◌+◌, ◌-◌, List, [], ◌∷◌, ◌++◌, length, Bool, true, false, Option, Some, None, refl, sym, ap, subst, ◌∙◌, append_assoc, encode_utf8_all, cond}
use Rattle.std.specs.Prelude.{◌==◌, not}
use Rattle.std.proofs.lemmas.Bool.{eqb-true}
use Rattle.std.proofs.lemmas.List.{append-nil}
use Rattle.ddl_tokens_dm.specs.declared.token.Token.{Token}
use Rattle.ddl_tokens_dm.specs.declared.token.Token.TheVariants.{Quoted}
use Rattle.ddl_tokens_dm.specs.declared.token.Placed.{Placed}
use Rattle.ddl_tokens_dm.specs.Characters.{byte_order_mark}
use Rattle.ddl_tokens_dm.specs.Tokens.{Consists, StandsBetween, StandsToken}
use Rattle.ddl_tokens_dm.specs.Tokens.Consists.{nothing, between, token}
use Rattle.ddl_tokens_dm.specs.Scanning.{with_char, quoted_at, identifier, Lexeme, lexeme}
use Rattle.ddl_tokens_dm.specs.Scanning.Lexeme.{Between, Found, Bad}
use Rattle.ddl_tokens_dm.specs.Views.{with_front, is_identifier}
use Rattle.ddl_tokens_dm.proofs.Scans.{quote_other, quote_two, between_is, token_is}

is_not : (b : Bool) → (b ≡ true → ⊥) → b ≡ false
is_not true h = absurd (h refl)
is_not false h = refl

pub not_equal : (c d : ℕ) → c ≢ d → (c == d) ≡ false
not_equal c d h = is_not (c == d) (λ k. h (eqb-true c d k))

abbrev some_pair : List ℕ → List ℕ → Option (List ℕ × List ℕ)
some_pair name rest = Some (name, rest)

front_char : (front : List ℕ) (c : ℕ) (o : Option (List ℕ × List ℕ)) → with_front (front ++ c ∷ []) o ≡ with_front front (with_char c o)
front_char front c None = refl
front_char front c (Some x) = ap (λ us. some_pair us x.1) (append_assoc front (c ∷ []) x.0)

no_front : (o : Option (List ℕ × List ℕ)) → with_front [] o ≡ o
no_front None = refl
no_front (Some x) = refl

pub quoted_begins : (front ts : List ℕ) → front ≡ [] → with_front front (quoted_at ts) ≡ quoted_at ts
quoted_begins front ts e = ap (λ us. with_front us (quoted_at ts)) e ∙ no_front (quoted_at ts)

-- a character that is no quote
pub quoted_on : (front new ts after : List ℕ) (c : ℕ) (total : Option (List ℕ × List ℕ)) → with_front front (quoted_at ts) ≡ total → new ≡ front ++ c ∷ [] → ts ≡ c ∷ after → c ≢ 34 → with_front new (quoted_at after) ≡ total
quoted_on front new ts after c total so_far made e n =
    ap (λ us. with_front us (quoted_at after)) made ∙ front_char front c (quoted_at after)
    ∙ sym (ap (with_front front) (ap quoted_at e ∙ quote_other c after (not_equal c 34 n))) ∙ so_far

-- two quotes
pub quoted_twice : (front new ts behind after : List ℕ) (c : ℕ) (total : Option (List ℕ × List ℕ)) → with_front front (quoted_at ts) ≡ total → new ≡ front ++ c ∷ [] → ts ≡ c ∷ behind → c ≡ 34 → behind ≡ 34 ∷ after
    → with_front new (quoted_at after) ≡ total
quoted_twice front new ts behind after c total so_far made e q d =
    ap (λ us. with_front us (quoted_at after)) (made ∙ ap (λ x. front ++ x ∷ []) q) ∙ front_char front 34 (quoted_at after)
    ∙ sym (ap (with_front front) (ap quoted_at (e ∙ ap (λ x. x ∷ behind) q ∙ ap (λ us. 34 ∷ us) d) ∙ quote_two after)) ∙ so_far

-- ---- identifiers

pub identifier_taken : (name rest : List ℕ) → is_identifier name ≡ true → identifier (Some (name, rest)) ≡ Found (Quoted name) rest
identifier_taken [] rest e = absurd cc
identifier_taken (c ∷ name) rest e = by_mark (c == byte_order_mark) e
  where
    by_mark : (b : Bool) → not b ≡ true → cond b Bad (Found (Quoted (c ∷ name)) rest) ≡ Found (Quoted (c ∷ name)) rest
    by_mark true d = absurd cc
    by_mark false d = refl

pub identifier_refused : (name rest : List ℕ) → is_identifier name ≡ false → identifier (Some (name, rest)) ≡ Bad
identifier_refused [] rest e = refl
identifier_refused (c ∷ name) rest e = by_mark (c == byte_order_mark) e
  where
    by_mark : (b : Bool) → not b ≡ false → cond b Bad (Found (Quoted (c ∷ name)) rest) ≡ Bad
    by_mark true d = refl
    by_mark false d = absurd cc

pub ruleset identifiers = (identifier_taken, identifier_refused)

-- ---- all tokens

-- what was found of the text, whatever its rest consists of
pub record Read (total : ℕ) (text : List ℕ) (found : List Placed) (rest : List ℕ) : Type 0 where
  pub goes_on : (others : List Placed) (end : List ℕ) → Consists total rest others end → Consists total text (found ++ others) end

pub read_begins : (total : ℕ) (text : List ℕ) (none : List Placed) → none ≡ [] → Read total text none text
read_begins total text none e = record { goes_on = λ others end h. subst (λ (fs : List Placed). Consists total text (fs ++ others) end) (sym e) h }

pub read_between : (total : ℕ) (text rest after : List ℕ) (found : List Placed) → Read total text found rest → lexeme rest ≡ Between after → Read total text found after
read_between total text rest after found r e = record { goes_on = λ others end h. r.goes_on others end (between (between_is rest after e) h) }

pub read_token : (total place : ℕ) (text rest after : List ℕ) (found new : List Placed) (t : Token) → Read total text found rest → lexeme rest ≡ Found t after
    → place ≡ total - length (encode_utf8_all rest) + 1 → new ≡ found ++ record { token = t; place = place } ∷ [] → Read total text new after
read_token total place text rest after found new t r e at made = record {
  goes_on = λ others end h.
      let one : Placed = record { token = t; place = total - length (encode_utf8_all rest) + 1 } in
      let placed : new ≡ found ++ one ∷ [] = made ∙ ap (λ n. found ++ record { token = t; place = n } ∷ []) at in
      subst (λ (fs : List Placed). Consists total text fs end) (sym (ap (λ fs. fs ++ others) placed ∙ append_assoc found (one ∷ []) others))
      (r.goes_on (one ∷ others) end (token (token_is rest after t e) h));
}

pub read_ends : (total : ℕ) (text rest : List ℕ) (found : List Placed) → Read total text found rest → Consists total text found rest
read_ends total text rest found r = subst (λ (fs : List Placed). Consists total text fs rest) (append-nil found) (r.goes_on [] rest nothing)
