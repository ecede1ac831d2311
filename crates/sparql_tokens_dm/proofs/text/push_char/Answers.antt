use Rattle.std.proofs.Common.{◌≡◌, ℕ, List, [], ◌∷◌, ◌++◌, sym, ap, ◌∙◌, Result, Ok, Err, chars, encode_utf8, string_bytes, OnOk}
use Rattle.std.specs.Prelude.{is_ok, if◌then◌else◌, IsUtf8}
use Rattle.std.specs.Char.{IsScalar}
use Rattle.std.proofs.lemmas.List.{append-nil}
use Rattle.std.proofs.lemmas.Str.{chars-append, chars_past_char, chars-nil, IsUtf8-encode, IsUtf8-string_bytes}
use Rattle.sparql_tokens_dm.proofs.text.push_char.Goals as goal

chars_one : (c : ℕ) → IsScalar c → chars (encode_utf8 c) ≡ c ∷ []
chars_one c s = chars_past_char (encode_utf8 c) [] c (IsUtf8-encode c s) (sym (append-nil (encode_utf8 c))) ∙ ap (λ us. c ∷ us) chars-nil

pushed : {X E : Type 0} (r : Result X E) (old new : List ℕ) (c : ℕ) → new ≡ (if is_ok r then old ++ encode_utf8 c else old) → IsUtf8 old → IsScalar c → OnOk r (chars new ≡ chars old ++ c ∷ [])
pushed (Ok x) old new c e u s = ap chars e ∙ chars-append old (encode_utf8 c) u ∙ ap (λ us. chars old ++ us) (chars_one c s)
pushed (Err x) old new c e u s = tt

pub returns : goal.returns
returns c = pushed c.push.result (string_bytes c.args.name.now) (string_bytes c.push.new.self) c.args.character c.push.ensures.bytes (IsUtf8-string_bytes c.args.name.now) c.ranges.character.0
