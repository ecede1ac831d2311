-- The values of a list of keys, none of which stands twice.
use Rattle.std.proofs.Common.{◌≡◌, ◌≤◌, ◌+◌, ◌-◌, ℕ, zero, suc, List, [], ◌∷◌, ◌++◌, Some, Bool, true, false, cond, map, get_or, refl, sym, ap, ◌∙◌, arith}
use Rattle.std.specs.Prelude.{slice_get}
use Rattle.std.specs.List.{AllByRecursion, IsDistinct, list_any, position}
use Rattle.std.proofs.lemmas.Bool.{both_ways, or_parts}
use Rattle.std.proofs.lemmas.List.Quantifiers.{position-Some}
use Rattle.std.proofs.lemmas.Option.{slice_get-get_or, slice_get-map}
use Rattle.std.specs.Option.{option_map}
use Rattle.value_dm.specs.ValueEquality.{values_decide}
use Rattle.value_dm.specs.declared.value.Value.{Value}
use Rattle.query_rows_dm.specs.Keys.{same_value}
use Rattle.query_rows_dm.specs.Numbers.{AreOneToOne, IsNumbered, IsSought, cell_of}
use Rattle.query_rows_dm.specs.declared.key.Key.{Key}
use Rattle.query_rows_dm.proofs.NumberLemmas.{grown_not, sought_nowhere, sought_there, number_at}

abbrev pub values_of : List Key → List Value
values_of keys = map (λ k. k.value.now) keys

abbrev pub same_key : Key → Key → Bool
same_key a b = same_value a.value.now b.value.now

get_value : (keys : List Key) (place : ℕ) (k : Key) → slice_get keys place ≡ Some k → slice_get (values_of keys) place ≡ Some k.value.now
get_value keys place k e = slice_get-map (λ k. k.value.now) keys place ∙ ap (option_map (λ k. k.value.now)) e

all_at : (x : Key) (xs : List Key) (j : ℕ) → AllByRecursion (λ y. same_key x y ≡ false) xs → slice_get (values_of xs) j ≡ Some x.value.now → ⊥
all_at x [] j h e = absurd (cc e)
all_at x (y ∷ ys) zero h e = both_ways _ h.0 ((values_decide x.value.now y.value.now).1 (sym (the_same e)))
  where
    the_same : {a b : Value} → Some a ≡ Some b → a ≡ b
    the_same e = cc e
all_at x (y ∷ ys) (suc j) h e = all_at x ys j h.1 e

pub one_place : (keys : List Key) → IsDistinct same_key keys → AreOneToOne (values_of keys)
unfolding IsDistinct
one_place [] apart i j within same = absurd (omega arith)
one_place (x ∷ xs) apart zero zero within same = refl
one_place (x ∷ xs) apart zero (suc j) within same = absurd (all_at x xs j apart.0 (sym same))
one_place (x ∷ xs) apart (suc i) zero within same = absurd (all_at x xs i apart.0 same)
one_place (x ∷ xs) apart (suc i) (suc j) within same = ap suc (one_place xs apart.1 i j (omega arith) same)

-- ---- a value that is looked for

found_at : (keys : List Key) (k : Key) (place : ℕ) → position (same_key k) keys ≡ Some place → slice_get (values_of keys) place ≡ Some k.value.now
found_at keys k place e =
    let p = position-Some (same_key k) keys place k e in
    let other = get_or keys place k in
    get_value keys place other (slice_get-get_or keys place k p.0) ∙ ap (λ (v : Value). Some v) (sym ((values_decide k.value.now other.value.now).0 p.1))

nowhere : (keys : List Key) (k : Key) → list_any (same_key k) keys ≡ false → (place : ℕ) → slice_get (values_of keys) place ≡ Some k.value.now → ⊥
nowhere [] k h place e = absurd (cc e)
nowhere (x ∷ xs) k h zero e = both_ways _ (or_parts (same_key k x) (list_any (same_key k) xs) h).0 ((values_decide k.value.now x.value.now).1 (sym (the_same e)))
  where
    the_same : {a b : Value} → Some a ≡ Some b → a ≡ b
    the_same e = cc e
nowhere (x ∷ xs) k h (suc place) e = nowhere xs k (or_parts (same_key k x) (list_any (same_key k) xs) h).1 place e

pub sought_at : (keys : List Key) (k : Key) (place : ℕ) → position (same_key k) keys ≡ Some place → AreOneToOne (values_of keys) → IsSought (values_of keys) k.value.now (place + 2)
sought_at keys k place e one = sought_there (values_of keys) one k.value.now place (found_at keys k place e)

pub sought_not : (keys : List Key) (k : Key) → list_any (same_key k) keys ≡ false → IsSought (values_of keys) k.value.now 0
sought_not keys k h = sought_nowhere (values_of keys) k.value.now (nowhere keys k h)

-- ---- a value that comes in

map_append : (xs ys : List Key) → values_of (xs ++ ys) ≡ values_of xs ++ values_of ys
map_append [] ys = refl
map_append (x ∷ xs) ys = ap (λ zs. x.value.now ∷ zs) (map_append xs ys)

pub inserted : (old new : List Key) (k : Key) (place : ℕ) → new ≡ cond (list_any (same_key k) old) old (old ++ k ∷ []) →
    (stored : Key) → slice_get new place ≡ Some stored → same_key k stored ≡ true → IsDistinct same_key new → IsNumbered (values_of old) (values_of new) (Some k.value.now) (place + 2)
inserted old new k place e stored at same apart = record {
  grown = record { more = more_of (list_any (same_key k) old) e; apart = λ _. one_place new apart };
  number = number_at (values_of new) k.value.now place (get_value new place stored at ∙ ap (λ (v : Value). Some v) (sym ((values_decide k.value.now stored.value.now).0 same)));
}
  where
    more_of : (b : Bool) → new ≡ cond b old (old ++ k ∷ []) → (rest : List Value) × (values_of new ≡ values_of old ++ rest)
    more_of true e = let g = grown_not (values_of old) in (g.more.0, ap values_of e ∙ g.more.1)
    more_of false e = (k.value.now ∷ [], ap values_of e ∙ map_append old (k ∷ []))

-- ---- the cell of a number

pub read_cell : (keys : List Key) (n : ℕ) (k : Key) → 2 ≤ n → slice_get keys (n - 2) ≡ Some k → Some k.value.now ≡ cell_of (values_of keys) n
read_cell keys zero k l e = absurd (omega arith)
read_cell keys (suc zero) k l e = absurd (omega arith)
read_cell keys (suc (suc n)) k l e = sym (get_value keys n k (ap (slice_get keys) less ∙ e))
  where
    less : n ≡ suc (suc n) - 2
    less = omega arith
