-- Lists of names with semicolons between them.
use Rattle.std.proofs.Common.{◌≡◌, ◌∙◌, ◌++◌, [], ◌∷◌, ℕ, List, Bool, false, refl, sym, ap, append_assoc, map}
use Rattle.std.specs.List.{join_with_byte}
use Rattle.std.specs.Prelude.{if◌then◌else◌}
use Rattle.std.proofs.lemmas.List.{map-append}
use Rattle.names_dm.specs.IriSafe.{safe_form}
use Rattle.names_dm.specs.Names.{column_list, semicolon}
use Rattle.names_dm.proofs.Words.{is_empty_list}

pub join-push : (c : ℕ) (xs : List (List ℕ)) (y : List ℕ) → join_with_byte c (xs ++ y ∷ []) ≡ join_with_byte c xs ++ ((if is_empty_list xs then [] else c ∷ []) ++ y)
join-push c [] y = refl
join-push c (x ∷ []) y = refl
join-push c (x ∷ z ∷ zs) y =
    ap (λ (t : List ℕ). x ++ (c ∷ t)) (join-push c (z ∷ zs) y) ∙ sym (append_assoc x (c ∷ join_with_byte c (z ∷ zs)) ((c ∷ []) ++ y))

is_empty-map : (xs : List (List ℕ)) → is_empty_list (map safe_form xs) ≡ is_empty_list xs
is_empty-map [] = refl
is_empty-map (x ∷ xs) = refl

pub column_list-push : (xs : List (List ℕ)) (y : List ℕ) → column_list (xs ++ y ∷ []) ≡ column_list xs ++ ((if is_empty_list xs then [] else semicolon ∷ []) ++ safe_form y)
column_list-push xs y =
    ap (join_with_byte semicolon) (map-append safe_form xs (y ∷ [])) ∙ join-push semicolon (map safe_form xs) (safe_form y)
    ∙ ap (λ (b : Bool). column_list xs ++ ((if b then [] else semicolon ∷ []) ++ safe_form y)) (is_empty-map xs)

pub is_empty-push : (xs : List (List ℕ)) (y : List ℕ) → false ≡ is_empty_list (xs ++ y ∷ [])
is_empty-push [] y = refl
is_empty-push (x ∷ xs) y = refl

pub four_parts : (a b c d : List ℕ) → ((a ++ b) ++ c) ++ d ≡ a ++ (b ++ (c ++ d))
four_parts a b c d = append_assoc (a ++ b) c d ∙ append_assoc a b (c ++ d)
