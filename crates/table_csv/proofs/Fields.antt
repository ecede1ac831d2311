-- The fields of a record by their places.
use Rattle.std.proofs.Common.{◌≡◌, ◌<◌, ℕ, zero, suc, List, [], ◌∷◌, ◌++◌, Some, None, length, take, drop, refl, ap, arith}
use Rattle.std.specs.List.{slice_get}
use Rattle.csv.specs.Records.{field_at}

-- the field that a record gives at a place
pub field_got : (fields : List (List ℕ)) (at : ℕ) → field_at fields at ≡ slice_get fields at
unfolding field_at
field_got [] at = refl
field_got (f ∷ fs) zero = refl
field_got (f ∷ fs) (suc at) = field_got fs at

pub field_next : (fields : List (List ℕ)) (at : ℕ) (field : List ℕ) → field_at fields at ≡ Some field
    → (take (suc at) fields ≡ take at fields ++ field ∷ []) × (fields ≡ take at fields ++ field ∷ drop (suc at) fields) × (at < length fields)
unfolding field_at
field_next [] at field e = cc e
field_next (f ∷ fs) zero field e = let q : f ≡ field = cc e in (rw q refl, rw q refl, omega arith)
field_next (f ∷ fs) (suc at) field e =
    let h = field_next fs at field e in
    (ap (λ (t : List (List ℕ)). f ∷ t) h.0, ap (λ (t : List (List ℕ)). f ∷ t) h.1, omega (arith, h.2))

pub field_end : (fields : List (List ℕ)) (at : ℕ) → field_at fields at ≡ None → take at fields ≡ fields
unfolding field_at
field_end [] zero e = refl
field_end [] (suc at) e = refl
field_end (f ∷ fs) zero e = cc e
field_end (f ∷ fs) (suc at) e = ap (λ (t : List (List ℕ)). f ∷ t) (field_end fs at e)
