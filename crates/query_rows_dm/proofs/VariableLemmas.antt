-- Names that aren't empty, and their variables.
use Rattle.std.proofs.Common.{◌≡◌, ◌≢◌, ◌<◌, ◌+◌, ◌↔◌, ◌==◌, ℕ, Bool, true, false, not, IsTrue, List, [], ◌∷◌, ◌++◌, length, map, take, get_or, refl, sym, ap, ◌∙◌, subst, arith}
use Rattle.std.specs.Str.{encode_utf8_all}
use Rattle.std.proofs.lemmas.Bool.{both_ways, eqb-true, eq-eqb, false_from_ne_true}
use Rattle.std.proofs.lemmas.Str.{length-le-encodes}
use Rattle.std.proofs.lemmas.List.{take_more}
use Rattle.members_dm.specs.Elements.{Each}
use Rattle.members_dm.specs.Membership.{IsIn}
use Rattle.members_dm.proofs.ElementsLemmas.{item_within}
use Rattle.names_dm.specs.Variables.{variable_of}
use Rattle.query_rows_dm.specs.Relations.{OwnsVariable}

pub some_bytes : (name : List ℕ) → name ≢ [] → 0 < length (encode_utf8_all name)
some_bytes [] n = absurd (n refl)
some_bytes (c ∷ cs) n = omega (arith, length-le-encodes (c ∷ cs))

pub bytes_tell : (name bytes : List ℕ) (b : Bool) → bytes ≡ encode_utf8_all name → b ≡ (length bytes == 0) → IsTrue (not b) ↔ (name ≢ [])
bytes_tell name bytes b e f = (
  (λ p none. both_ways _ (not_so b p) (f ∙ eq-eqb (length bytes) 0 (ap length (e ∙ ap encode_utf8_all none)))),
  (λ n. so_not b (f ∙ false_from_ne_true _ (λ s. let l = some_bytes name n in omega (arith, l, eqb-true (length bytes) 0 s, ap length e)))),
)
  where
    not_so : (b : Bool) → not b ≡ true → b ≡ false
    not_so true p = cc p
    not_so false p = refl

    so_not : (b : Bool) → b ≡ false → not b ≡ true
    so_not true p = cc p
    so_not false p = refl

-- a name of a list without the empty one
pub not_empty : (names : List (List ℕ)) (k : ℕ) (x : List ℕ) → k < length names → x ≡ get_or names k x → ¬ IsIn [] names → x ≢ []
not_empty names k x l e n s = n (subst (λ y. IsIn y names) (sym e ∙ s) (item_within names k x l))

each_push : (xs : List (List ℕ)) (x : List ℕ) → Each OwnsVariable xs → OwnsVariable x → Each OwnsVariable (xs ++ x ∷ [])
each_push [] x h k = (k, tt)
each_push (y ∷ ys) x h k = (h.0, each_push ys x h.1 k)

map_push : (xs : List (List ℕ)) (x : List ℕ) → map variable_of (xs ++ x ∷ []) ≡ map variable_of xs ++ variable_of x ∷ []
map_push [] x = refl
map_push (y ∷ ys) x = ap (λ zs. variable_of y ∷ zs) (map_push ys x)

module _ (names : List (List ℕ)) (k : ℕ) (x : List ℕ) (l : k < length names) (e : x ≡ get_or names k x) (vars : List (List ℕ)) where
  taken : take (k + 1) names ≡ take k names ++ x ∷ []
  taken = take_more names k x l ∙ ap (λ y. take k names ++ y ∷ []) (sym e)

  pub variables_more : (var : List ℕ) → var ≡ variable_of x → OwnsVariable x → (vars ≡ map variable_of (take k names)) × Each OwnsVariable (take k names) →
      (vars ++ var ∷ [] ≡ map variable_of (take (k + 1) names)) × Each OwnsVariable (take (k + 1) names)
  variables_more var s own h = (
    (λ i. h.0 i ++ s i ∷ []) ∙ sym (map_push (take k names) x) ∙ ap (map variable_of) (sym taken),
    subst (Each OwnsVariable) (sym taken) (each_push (take k names) x h.1 own),
  )
