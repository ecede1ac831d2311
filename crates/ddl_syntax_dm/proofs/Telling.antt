-- What is told is the first fault of the file.
use Rattle.std.proofs.Common.{◌≡◌, ℕ, ◌+◌, List, [], ◌∷◌, length, Option, Some, None, Result, Ok, Err, Bool, true, false, refl, subst, inl, inr, ◌⊎◌, cond}
use Rattle.std.specs.Prelude.{IsUtf8}
use Rattle.std.specs.Str.{IsValidUpTo}
use Rattle.grammar_dm.specs.Part.{Spells}
use Rattle.grammar_dm.specs.Verdict.{Suffix, IsFirstFault, Judges}
use Rattle.grammar_dm.specs.Verdict.Suffix.{all_left, less_left}
use Rattle.grammar_dm.proofs.Fronts.{whole_begins, less_begins, suffix_trans}
use Rattle.ddl_tokens_dm.specs.declared.token.Placed.{Placed}
use Rattle.ddl_tokens_dm.specs.Tokens.{AreTokens}
use Rattle.ddl_syntax_dm.specs.declared.syntax.Statement.{Statement}
use Rattle.ddl_syntax_dm.specs.declared.file.SyntaxError.{SyntaxError}
use Rattle.ddl_syntax_dm.specs.declared.file.SyntaxError.TheVariants.{Memory, NotUtf8, BadToken, Unexpected, UnknownType}
use Rattle.ddl_syntax_dm.specs.Grammar.{file}
use Rattle.ddl_syntax_dm.specs.Answer.{is_bare_word, IsTokenFault, IsFile, IsRead, IsTold, fault_told, whole_told}

true_false : {W : Type 0} (b : Bool) → b ≡ true → b ≡ false → W
true_false b d e = absurd cc

pub whole_is_told : (ts : List Placed) (stop : Option ℕ) (end : ℕ) (v : List Statement) → Judges file ts (Ok v) → IsTold ts stop end (whole_told v stop)
whole_is_told ts None end v h = (refl, h)
whole_is_told ts (Some place) end v h = (refl, whole_begins file ts [] v h.0)

abbrev told : SyntaxError → Result (List Statement) SyntaxError
told e = Err e

pub fault_is_told : (ts rest : List Placed) (at_type : Bool) (stop : Option ℕ) (end : ℕ) → Judges file ts (Err (record { rest = rest; marked = at_type })) → IsTold ts stop end (told (fault_told rest at_type stop end))
fault_is_told ts [] at_type None end h = inr (refl, h.0, refl)
fault_is_told ts [] at_type (Some place) end h = (refl, h.0.begins [] h.0.is_rest all_left)
fault_is_told ts (t ∷ rest) false stop end h = inl (t, rest, h.0, λ k. true_false false (h.2.1 k.1) refl, refl)
fault_is_told ts (t ∷ rest) true stop end h = by_word (is_bare_word t) refl
  where
    by_word : (b : Bool) → is_bare_word t ≡ b → IsTold ts stop end (told (cond b (UnknownType t.place) (Unexpected t.place)))
    by_word true e = (t, rest, h.0, (e, h.2.0 refl), refl)
    by_word false e = inl (t, rest, h.0, λ k. true_false (is_bare_word t) k.0 e, refl)

-- ---- the whole file

nil_left : {T : Type 0} (ts : List T) → Suffix ts []
nil_left [] = all_left
nil_left (t ∷ ts) = less_left (nil_left ts)

-- where there is a fault, there is no file
no_whole : (ts rest : List Placed) (v : List Statement) → IsFirstFault file ts rest → Spells file ts [] v → ⊥
no_whole ts [] v h s = h.stops v s
no_whole ts (t ∷ rest) v h s = h.stops (less_begins file ts rest [] (whole_begins file ts [] v s) (suffix_trans h.is_rest (less_left all_left)) (nil_left rest))

abbrev OnlyTokens : List ℕ → List Placed → Option ℕ → Type 0
OnlyTokens bytes ts stop = (found : List Placed) (end : Option ℕ) → AreTokens bytes found end → (found ≡ ts) × (end ≡ stop)

none_some : {W : Type 0} (o : Option ℕ) (n : ℕ) → None ≡ o → o ≡ Some n → W
none_some o n e d = absurd cc

spelled : (bytes : List ℕ) (ts : List Placed) (stop : Option ℕ) (w : List Statement) → OnlyTokens bytes ts stop → IsFile bytes w → Spells file ts [] w
spelled bytes ts stop w only h = subst (λ (us : List Placed). Spells file us [] w) (only h.1.0 None h.1.1).0 h.1.2

no_file : (bytes : List ℕ) (ts : List Placed) (stop : Option ℕ) (place : ℕ) → OnlyTokens bytes ts stop
    → IsTokenFault ts place ⊎ ((stop ≡ None) × IsFirstFault file ts [] × (place ≡ length bytes + 1)) → (w : List Statement) → IsFile bytes w → ⊥
no_file bytes ts stop place only (inl h) w k = no_whole ts (h.0 ∷ h.1) w h.2 (spelled bytes ts stop w only k)
no_file bytes ts stop place only (inr h) w k = no_whole ts [] w h.1 (spelled bytes ts stop w only k)

pub is_read : (bytes : List ℕ) (ts : List Placed) (stop : Option ℕ) (result : Result (List Statement) SyntaxError) → IsUtf8 bytes → AreTokens bytes ts stop → OnlyTokens bytes ts stop
    → IsTold ts stop (length bytes + 1) result → IsRead bytes result
is_read bytes ts stop (Ok v) text are only h = ((text, (ts, subst (λ (s : Option ℕ). AreTokens bytes ts s) h.0 are, h.1.0)), λ w k. h.1.1 w (spelled bytes ts stop w only k))
is_read bytes ts stop (Err Memory) text are only h = tt
is_read bytes ts stop (Err (NotUtf8 place)) text are only h = absurd h
is_read bytes ts stop (Err (BadToken place)) text are only h =
    ((text, (ts, subst (λ (s : Option ℕ). AreTokens bytes ts s) h.0 are, h.1)), λ w k. none_some stop place (only k.1.0 None k.1.1).1 h.0)
is_read bytes ts stop (Err (Unexpected place)) text are only h = ((text, (ts, stop, are, h)), no_file bytes ts stop place only h)
is_read bytes ts stop (Err (UnknownType place)) text are only h =
    ((text, (ts, stop, are, h)), λ w k. no_whole ts (h.0 ∷ h.1) w h.2 (spelled bytes ts stop w only k))

pub not_text : (bytes : List ℕ) (place : ℕ) → ¬ (IsUtf8 bytes) → ((n : ℕ) × IsValidUpTo bytes n × (place ≡ n + 1)) → IsRead bytes (told (NotUtf8 place))
not_text bytes place refused h = ((refused, h), λ w k. refused k.0)
