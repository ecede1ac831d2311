-- A loop over the characters of a text has seen them all when it ends.
use Rattle.std.proofs.Common.{◌≡◌, ◌∙◌, sym, ℕ, List, Option, None, chars, map-id}
use Rattle.std.specs.Iterator.{Yields}
use Rattle.std.specs.Str.{IsUtf8}
use Rattle.std.specs.Str.Iter.{chars_rest}
use Rattle.std.specs.declared.str.Chars.{Chars}
use Rattle.std.proofs.iter.TextItems.{spells}
use Rattle.std.proofs.lemmas.Iterator.{YieldsList-from_chars}
use Rattle.std.proofs.lemmas.Iterator.Consumers.{YieldsList-end}

pub all_yielded : (bs : List ℕ) → IsUtf8 bs → (s : Chars) → chars_rest s ≡ bs → (xs : List ℕ) (t : Chars) → Yields spells s xs t → (r : Option ℕ) (u : Chars) → r ≡ None → spells t r u → xs ≡ chars bs
all_yielded bs text s rest xs t by r u none steps = sym (map-id xs) ∙ (YieldsList-end (YieldsList-from_chars bs text rest) xs t by r u none steps).0
