-- What a loop has made of the first items of a list.
use Rattle.std.proofs.Common.{◌≡◌, ◌+◌, ◌<◌, ◌∙◌, ℕ, List, [], ◌∷◌, ◌++◌, length, take, get_or, map, refl, ap, subst, append-nil}
use Rattle.std.specs.Prelude.{All}
use Rattle.std.proofs.lemmas.List.{map-append, take_more}
use Rattle.std.proofs.lemmas.List.Concat.{flat_map-append}
use Rattle.std.proofs.lemmas.List.Elements.{All-more}
use Rattle.csv.specs.Writing.{default_writer, row_text}
use Rattle.table_csv.specs.CanonicalText.{text_of}
use Rattle.table_csv.specs.TableFiles.{Record}

pub made_more : {X Y : Type 0} (f : X → Y) (xs : List X) (i : ℕ) (x : X) (y : Y) (made more : List Y) → i < length xs → x ≡ get_or xs i x → made ≡ map f (take i xs) → more ≡ made ++ y ∷ [] → y ≡ f x
    → more ≡ map f (take (i + 1) xs)
made_more f xs i x y made more lt is e next same =
    rw (take_more xs i x lt, ← is, map-append f (take i xs) (x ∷ []), next, e, same) refl

pub all_more : {X : Type 0} (P : X → Type 0) (xs : List X) (i : ℕ) (x : X) → i < length xs → x ≡ get_or xs i x → All P (take i xs) → P x → All P (take (i + 1) xs)
all_more P xs i x lt is h p = All-more P xs i x lt h (subst P is p)

-- the text of one more record
pub text_more : (lines : List Record) (i : ℕ) (line : Record) → i < length lines → line ≡ get_or lines i line → text_of (take (i + 1) lines) ≡ text_of (take i lines) ++ row_text default_writer line
text_more lines i line lt is =
    rw (take_more lines i line lt, ← is) (flat_map-append (row_text default_writer) (take i lines) (line ∷ []) ∙ ap (λ (t : List ℕ). text_of (take i lines) ++ t) (append-nil (row_text default_writer line)))
