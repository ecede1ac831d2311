use Rattle.std.proofs.Common.{◌≡◌, ℕ, List, ◌++◌, ap, ◌∙◌, Result, Ok, Err, chars, string_bytes, OnOk}
use Rattle.std.specs.Prelude.{is_ok, if◌then◌else◌, IsUtf8}
use Rattle.std.proofs.lemmas.Str.{chars-append, IsUtf8-string_bytes}
use Rattle.ntriples_reader_dm.proofs.text.push_text.Goals as goal

pushed : {X E : Type 0} (r : Result X E) (old new text : List ℕ) → new ≡ (if is_ok r then old ++ text else old) → IsUtf8 old → OnOk r (chars new ≡ chars old ++ chars text)
pushed (Ok x) old new text e u = ap chars e ∙ chars-append old text u
pushed (Err x) old new text e u = tt

pub returns : goal.returns
returns c = pushed c.push_str.result (string_bytes c.args.name.now) (string_bytes c.push_str.new.self) c.args.text.now c.push_str.ensures.bytes (IsUtf8-string_bytes c.args.name.now)
