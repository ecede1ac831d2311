-- The texts of variables that are no attribute's.
use Rattle.std.proofs.Common.{◌≡◌, ◌∙◌, ◌++◌, ℕ, List, [], ◌∷◌, Bool, true, false, codes, refl, sym, ap, subst}
use Rattle.std.proofs.Common.{◌≤◌, ◌-◌, cond, drop, take, inr}
use Rattle.std.specs.Str.{bytes_eq, chars, IsUtf8}
use Rattle.solutions_dm.proofs.ColumnLemmas.{opened}
use Rattle.keeping_dm.specs.Guards.{old_name}
use Rattle.std.proofs.lemmas.Str.{IsUtf8-from_ascii, chars-append}
use Rattle.std.proofs.lemmas.Str.Ascii.{IsAscii-nil}
use Rattle.names_dm.proofs.Ascii.{ascii_cons}
use Rattle.std.specs.Str.{encode_utf8_all}
use Rattle.std.proofs.Common.{◌≢◌, ◌<◌, length, get_or, arith}
use Rattle.std.proofs.lemmas.Str.{length-le-encodes}
use Rattle.members_dm.specs.Membership.{IsIn}
use Rattle.members_dm.proofs.ElementsLemmas.{item_within}
use Rattle.names_dm.specs.Terminals.{is_variable}

pub marker_text : chars (95 ∷ 109 ∷ []) ≡ codes "_m"
unfolding chars
marker_text = refl

pub front_text : chars (95 ∷ 113 ∷ []) ≡ codes "_q"
unfolding chars
front_text = refl

pub front_utf8 : IsUtf8 (95 ∷ 113 ∷ [])
front_utf8 = IsUtf8-from_ascii (95 ∷ 113 ∷ []) (ascii_cons 95 (113 ∷ []) (omega arith) (ascii_cons 113 [] (omega arith) IsAscii-nil))

pub marker_variable : is_variable (codes "_m") ≡ true
unfolding is_variable
marker_variable = refl

pub longer_variable : (v : List ℕ) → is_variable v ≡ true → is_variable (codes "_q" ++ v) ≡ true
unfolding is_variable
longer_variable [] h = let bad : false ≡ true = h in absurd (cc)
longer_variable (c ∷ cs) h = h

pub right_text : (front v own text : List ℕ) → IsUtf8 front → chars front ≡ codes "_q" → chars own ≡ v → text ≡ front ++ own → chars text ≡ codes "_q" ++ v
right_text front v own text utf8 e f g = ap chars g ∙ chars-append front own utf8 ∙ (λ i. e i ++ f i)

pub some_bytes : (name : List ℕ) → name ≢ [] → 0 < length (encode_utf8_all name)
some_bytes [] n = absurd (n refl)
some_bytes (c ∷ cs) n = omega (arith, length-le-encodes (c ∷ cs))

-- a name of a list without the empty one
pub not_empty : (names : List (List ℕ)) (k : ℕ) (x : List ℕ) → k < length names → x ≡ get_or names k x → ¬ IsIn [] names → x ≢ []
not_empty names k x l e n s = n (subst (λ y. IsIn y names) (sym e ∙ s) (item_within names k x l))

pub old_named : (from to name old : List ℕ) → old ≡ old_name from to name → from ≢ [] → name ≢ [] → old ≢ []
old_named from to name old e some some_too none = go (bytes_eq to name) (sym e ∙ none)
  where
    go : (b : Bool) → cond b from name ≡ [] → ⊥
    go true = some
    go false = some_too

-- the first of some names, and the others
pub first_named : (names : List (List ℕ)) (x : List ℕ) → 1 ≤ length names → x ≡ get_or names 0 x → ¬ IsIn [] names → x ≢ []
first_named names x l e n s = n (subst (λ y. IsIn y names) (sym e ∙ s) (item_within names 0 x (omega (arith, l))))

pub rest_named : (names : List (List ℕ)) (x : List ℕ) → 1 ≤ length names → x ≡ get_or names 0 x → ¬ IsIn [] names → ¬ IsIn [] (take (length names - 1) (drop 1 names))
rest_named names x l e n i = n (subst (λ ns. IsIn [] ns) (sym (opened x names l e)) (inr i))

pub row_text : chars (95 ∷ 114 ∷ []) ≡ codes "_r"
unfolding chars
row_text = refl

pub row_is_variable : is_variable (codes "_r") ≡ true
unfolding is_variable
row_is_variable = refl

pub second_text : chars (95 ∷ 115 ∷ []) ≡ codes "_s"
unfolding chars
second_text = refl

pub second_is_variable : is_variable (codes "_s") ≡ true
unfolding is_variable
second_is_variable = refl
