-- The loop over tokens.
use Rattle.std.proofs.Common.{◌≡◌, ℕ, ◌+◌, ◌-◌, List, [], ◌∷◌, ◌++◌, length, Option, Some, None, refl, sym, ap, subst, ◌∙◌, append_assoc, arith, encode_utf8_all, chars, inl, inr}
use Rattle.std.specs.Option.{unwrap_or}
use Rattle.std.proofs.lemmas.List.{append-nil}
use Rattle.sparql_tokens_dm.specs.declared.token.Token.{Token}
use Rattle.sparql_tokens_dm.specs.declared.token.Placed.{Placed}
use Rattle.sparql_tokens_dm.specs.Tokens.{AreTokens, AreTokensOf, Consists, stop_behind}
use Rattle.sparql_tokens_dm.specs.Tokens.Consists.{nothing, between, token}
use Rattle.sparql_tokens_dm.specs.Views.{IsTextFront}
use Rattle.sparql_tokens_dm.specs.Scanning.{lexeme}
use Rattle.sparql_tokens_dm.specs.Scanning.Lexeme.{Between, Found}
use Rattle.sparql_tokens_dm.proofs.Scans.{space_is, token_is}

-- what was found of the text, whatever its rest consists of
pub record Read (total : ℕ) (text : List ℕ) (found : List Placed) (rest : List ℕ) : Type 0 where
  pub goes_on : (others : List Placed) (end : List ℕ) → Consists total rest others end → Consists total text (found ++ others) end

pub read_begins : (total : ℕ) (text : List ℕ) (none : List Placed) → none ≡ [] → Read total text none text
read_begins total text none e = record { goes_on = λ others end h. subst (λ (fs : List Placed). Consists total text (fs ++ others) end) (sym e) h }

pub read_between : (total : ℕ) (text rest after : List ℕ) (found : List Placed) → Read total text found rest → lexeme rest ≡ Between after → Read total text found after
read_between total text rest after found r e = record { goes_on = λ others end h. r.goes_on others end (between (space_is rest after e) h) }

pub read_token : (total place : ℕ) (text rest after : List ℕ) (found new : List Placed) (t : Token) → Read total text found rest → lexeme rest ≡ Found t after
    → place ≡ total - length (encode_utf8_all rest) + 1 → new ≡ found ++ record { token = t; place = place } ∷ [] → Read total text new after
read_token total place text rest after found new t r e at made = record {
  goes_on = λ others end h.
      let one : Placed = record { token = t; place = total - length (encode_utf8_all rest) + 1 } in
      let placed : new ≡ found ++ one ∷ [] = made ∙ ap (λ n. found ++ record { token = t; place = n } ∷ []) at in
      subst (λ (fs : List Placed). Consists total text fs end) (sym (ap (λ fs. fs ++ others) placed ∙ append_assoc found (one ∷ []) others))
      (r.goes_on (one ∷ others) end (token (token_is rest after t e) h));
}

pub read_ends : (total : ℕ) (text rest : List ℕ) (found : List Placed) → Read total text found rest → Consists total text found rest
read_ends total text rest found r = subst (λ (fs : List Placed). Consists total text fs rest) (append-nil found) (r.goes_on [] rest nothing)

-- ---- the bytes

-- the whole text is the bytes
pub whole_tokens : (bytes text : List ℕ) (found : List Placed) (stop : Option ℕ) → IsTextFront bytes text → length text ≡ length bytes → AreTokensOf (length text) (chars text) found stop → AreTokens bytes found stop
whole_tokens bytes text found stop front same h = elim front.1 [
  | inl w ↦ inl (w.0, subst (λ (bs : List ℕ). AreTokensOf (length bs) (chars bs) found stop) w.1 h)
  | inr w ↦ absurd (omega (arith, same, w.0.short))
]

-- bytes follow that are no text
pub front_tokens : (bytes text : List ℕ) (found : List Placed) (stop : Option ℕ) → IsTextFront bytes text → (length text ≡ length bytes → ⊥) → AreTokensOf (length text) (chars text) found stop
    → AreTokens bytes found (Some (stop_behind stop (length text)))
front_tokens bytes text found stop front other h = elim front.1 [
  | inl w ↦ absurd (other (ap length w.1))
  | inr w ↦ inr (length text, w.0, (stop, subst (λ (bs : List ℕ). AreTokensOf (length text) (chars bs) found stop) w.1 h, refl))
]

pub stop_is : (stop : Option ℕ) (n r : ℕ) → r ≡ unwrap_or stop (n + 1) → r ≡ stop_behind stop n
stop_is None n r e = e
stop_is (Some place) n r e = e
