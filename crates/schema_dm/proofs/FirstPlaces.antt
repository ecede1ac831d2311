-- The first place of a name among the names of items.
use Rattle.std.proofs.Common.{◌≡◌, ◌↔◌, ℕ, zero, suc, ◌+◌, ◌<◌, ◌≤◌, List, [], ◌∷◌, map, length, take, cond, not, Option, None, Some, Bool, true, false, refl, ap, inl, inr, arith, Any}
use Rattle.std.specs.Prelude.{slice_get, nat_lt}
use Rattle.std.specs.Cmp.Lexicographic.{bytes_decides}
use Rattle.std.specs.List.{position_or_len}
use Rattle.std.specs.Option.{unwrap_or}
use Rattle.std.proofs.lemmas.Bool.{cases_lt}
use Rattle.std.proofs.lemmas.Bool.Decides.{nat_tests}
use Rattle.members_dm.specs.InOrder.{IsFirstPlace}
use Rattle.members_dm.proofs.AnyLemmas.{key_IsIn, IsIn_key}
use Rattle.members_dm.proofs.ElementsLemmas.{index_of_item, item_at_index}
use Rattle.schema_dm.specs.Naming.{Name, same_name}

module _ {X : Type 0} (name_of : X → Name) (name : Name) where
  pub place_by_first : (xs : List X) (first : Option ℕ) → IsFirstPlace (map name_of xs) name first → unwrap_or first (length xs) ≡ position_or_len (λ x. same_name (name_of x) name) xs
  place_by_first [] None h = refl
  place_by_first [] (Some place) h = absurd (let none : None ≡ Some name = h.0 in cc)
  place_by_first (x ∷ xs) first h = at (λ other is. place_by_first xs other is) (same_name (name_of x) name) (bytes_decides (name_of x) name) first h
    where
      at : ((other : Option ℕ) → IsFirstPlace (map name_of xs) name other → unwrap_or other (length xs) ≡ position_or_len (λ x. same_name (name_of x) name) xs)
          → (b : Bool) → (b ≡ true → name_of x ≡ name) × (name_of x ≡ name → b ≡ true) → (first : Option ℕ) → IsFirstPlace (map name_of (x ∷ xs)) name first
          → unwrap_or first (length (x ∷ xs)) ≡ cond (not b) (1 + position_or_len (λ x. same_name (name_of x) name) xs) 0
      at later true test None h = absurd (h 0 (ap (λ n. Some n) (test.0 refl)))
      at later true test (Some zero) h = refl
      at later true test (Some (suc place)) h = absurd (h.1 0 (omega arith) (ap (λ n. Some n) (test.0 refl)))
      at later false test None h = (let rest : length xs ≡ position_or_len (λ x. same_name (name_of x) name) xs = later None (λ place is. h (suc place) is) in omega arith)
      at later false test (Some zero) h = absurd (let one : name_of x ≡ name = (let both : Some (name_of x) ≡ Some name = h.0 in cc) in let no = test.1 one in cc)
      at later false test (Some (suc place)) h =
          (let rest : place ≡ position_or_len (λ x. same_name (name_of x) name) xs = later (Some place) (h.0, (λ other l is. h.1 (suc other) (omega arith) is)) in omega arith)

  pub declared_at : (xs : List X) (place : ℕ) → slice_get (map name_of xs) place ≡ Some name → Any (λ x. name_of x ≡ name) xs
  declared_at xs place is = IsIn_key name_of name xs (item_at_index name (map name_of xs) place is)

  pub not_declared : (xs : List X) → IsFirstPlace (map name_of xs) name None → ¬ Any (λ x. name_of x ≡ name) xs
  not_declared xs none h = (let found = index_of_item name (map name_of xs) (key_IsIn name_of name xs h) in none found.0 found.2)

  pub within_first : (xs : List X) (first : ℕ) → IsFirstPlace (map name_of xs) name (Some first) → first < length xs
  within_first xs first h = go xs first h.0
    where
      go : (ys : List X) (k : ℕ) → slice_get (map name_of ys) k ≡ Some name → k < length ys
      go [] k is = absurd (let none : None ≡ Some name = is in cc)
      go (y ∷ ys) zero is = omega arith
      go (y ∷ ys) (suc k) is = (let rest : k < length ys = go ys k is in omega arith)

  -- those before a place

  in_front : (xs : List X) (n k : ℕ) → k < n → slice_get (map name_of xs) k ≡ Some name → slice_get (map name_of (take n xs)) k ≡ Some name
  in_front xs zero k l is = absurd (omega arith)
  in_front [] (suc n) k l is = is
  in_front (x ∷ xs) (suc n) zero l is = is
  in_front (x ∷ xs) (suc n) (suc k) l is = in_front xs n k (omega arith) is

  from_front : (xs : List X) (n k : ℕ) → slice_get (map name_of (take n xs)) k ≡ Some name → (k < n) × (slice_get (map name_of xs) k ≡ Some name)
  from_front xs zero k is = absurd (let none : None ≡ Some name = is in cc)
  from_front [] (suc n) k is = absurd (let none : None ≡ Some name = is in cc)
  from_front (x ∷ xs) (suc n) zero is = (omega arith, is)
  from_front (x ∷ xs) (suc n) (suc k) is = (let rest = from_front xs n k is in (omega (arith, rest.0), rest.1))

  pub declared_before : (xs : List X) (n first : ℕ) → IsFirstPlace (map name_of xs) name (Some first) → first < n → Any (λ x. name_of x ≡ name) (take n xs)
  declared_before xs n first h l = declared_at (take n xs) first (in_front xs n first l h.0)

  pub none_before : (xs : List X) (n first : ℕ) → IsFirstPlace (map name_of xs) name (Some first) → n ≤ first → ¬ Any (λ x. name_of x ≡ name) (take n xs)
  none_before xs n first h l found =
      let at = index_of_item name (map name_of (take n xs)) (key_IsIn name_of name (take n xs) found) in
      let there = from_front xs n at.0 at.2 in
      let low : at.0 < n = there.0 in
      h.1 at.0 (omega arith) there.1

  pub declared_before_by : (xs : List X) (n first : ℕ) → IsFirstPlace (map name_of xs) name (Some first) → (nat_lt first n ≡ true) ↔ Any (λ x. name_of x ≡ name) (take n xs)
  declared_before_by xs n first h = (
    (λ e. declared_before xs n first h (grind (arith, nat_tests))),
    (λ found. elim (cases_lt first n) [ inl l ↦ grind (arith, nat_tests) | inr l ↦ absurd (none_before xs n first h l found) ]),
  )

  pub none_before_all : (xs : List X) (n : ℕ) → IsFirstPlace (map name_of xs) name None → ¬ Any (λ x. name_of x ≡ name) (take n xs)
  none_before_all xs n none found =
      let at = index_of_item name (map name_of (take n xs)) (key_IsIn name_of name (take n xs) found) in
      none at.0 (from_front xs n at.0 at.2).1
