-- Rows with the same cells are neighbours in an index.
use Rattle.std.proofs.Common.{◌≡◌, ◌≢◌, ◌∙◌, ◌<◌, ◌≤◌, ◌+◌, ◌-◌, ℕ, List, Bool, true, false, not, length, refl, sym, ap, subst, arith, inl, inr}
use Rattle.std.specs.Prelude.{◌↔◌}
use Rattle.std.proofs.lemmas.Bool.{cases_eq, cases_lt}
use Rattle.std.proofs.lemmas.List.{get_or_default, get_or-map, length-map}
use Rattle.members_dm.proofs.AnyLemmas.{item_from_all}
use Rattle.members_dm.proofs.ElementsLemmas.{item_within}
use Rattle.members_dm.proofs.MembershipLemmas.{IsIn-map, map-IsIn}
use Rattle.table_csv.specs.Cells.{Row, cells_at}
use Rattle.keys_dm.specs.Entries.{IsSortedIndexOf, key_of, positions_of}
use Rattle.keys_dm.specs.KeyCells.{HasTwin, row_at}
use Rattle.keys_dm.specs.Twins.{FlagsPair, FlagsPairs, IsPairOf, TellTwins, entry_at}
use Rattle.keys_dm.specs.declared.index.Entry.{Entry}
use Rattle.keys_dm.proofs.EntryOrder.{key_between}
use Rattle.members_dm.proofs.PositionLists.{place_of_item, positions_apart, positions_cover, positions_within}

pub pairs_turn : (rows : List Row) (places : List ℕ) (entries : List Entry) (place : ℕ) (flags new : List Bool) → 1 ≤ place → place < length entries → FlagsPairs rows places entries place flags
    → FlagsPair rows places (entry_at entries (place - 1)) (entry_at entries place) flags new → FlagsPairs rows places entries (place + 1) new
pairs_turn rows places entries place flags new l m old turn = record {
  many = turn.many ∙ old.many;
  each = λ i d k.
      let before = old.each i d k in
      let now = turn.each i d (omega (arith, k, old.many)) in
      let again : (place - 1) + 1 ≡ place = omega (arith, l) in (
        (λ h. elim (now.0 h) [
          | inl told ↦ (let pair = before.0 told in (pair.0, omega (arith, pair.1), pair.2, pair.3))
          | inr pair ↦ (place - 1, omega (arith, l), omega (arith, l, m), subst (λ n. IsPairOf rows places (entry_at entries (place - 1)) (entry_at entries n) i) (sym again) pair)
        ]),
        (λ h. elim (cases_lt (h.0 + 1) place) [
          | inl low ↦ now.1 (inl (before.1 (h.0, low, h.2, h.3)))
          | inr high ↦
              (let few : h.0 + 1 < place + 1 = h.1 in
              let here : h.0 + 1 ≡ place = omega (arith, few, high) in
              let back : h.0 ≡ place - 1 = omega (arith, few, high) in
              now.1 (inr (subst (λ n. IsPairOf rows places (entry_at entries n) (entry_at entries place) i) back (subst (λ n. IsPairOf rows places (entry_at entries h.0) (entry_at entries n) i) here h.3))))
        ]),
      );
}

-- ---- rows

module _ (rows : List Row) (places : List ℕ) (entries : List Entry) (index : IsSortedIndexOf rows places entries) where
  pub below : (k : ℕ) → k < length entries → (entry_at entries k).row < length rows
  below k l = item_from_all (λ n. n < length rows) (positions_of entries) (positions_within (length rows) (positions_of entries) index.permuted) (entry_at entries k).row
      (map-IsIn (λ (x : Entry). x.row) (entry_at entries k) entries (item_within entries k (record { hash = 0; row = 0 }) l))

  apart : (a b : ℕ) → a < b → b < length entries → (entry_at entries a).row ≢ (entry_at entries b).row
  apart a b l m same =
      let z : Entry = record { hash = 0; row = 0 } in
      let read_a = get_or-map (λ (x : Entry). x.row) entries a z 0 (omega (arith, l, m)) in
      let read_b = get_or-map (λ (x : Entry). x.row) entries b z 0 m in
      positions_apart (length rows) (positions_of entries) index.permuted a b 0 l (subst (λ n. b < n) (sym (length-map entries (λ (x : Entry). x.row))) m) (read_a ∙ same ∙ sym read_b)

  place_of_row : (i : ℕ) → i < length rows → (k : ℕ) × (k < length entries) × ((entry_at entries k).row ≡ i)
  place_of_row i l =
      let found = IsIn-map (λ (x : Entry). x.row) i entries (positions_cover (length rows) (positions_of entries) index.permuted i l) in
      let at = place_of_item found.0 entries found.1 in
      (at.0, at.1, ap (λ (x : Entry). x.row) (get_or_default entries at.0 (record { hash = 0; row = 0 }) found.0 at.1 ∙ at.2) ∙ found.2)

  twin_of : (i k : ℕ) → k + 1 < length entries → IsPairOf rows places (entry_at entries k) (entry_at entries (k + 1)) i → HasTwin rows places i
  twin_of i k l pair = elim pair.1 [
    | inl e ↦ (
      (entry_at entries (k + 1)).row,
      (λ same. apart k (k + 1) (omega arith) l (e ∙ sym same)),
      (below (k + 1) l, sym pair.0 ∙ ap (λ n. cells_at places (row_at rows n)) e),
    )
    | inr e ↦ (
      (entry_at entries k).row,
      (λ same. apart k (k + 1) (omega arith) l (same ∙ sym e)),
      (below k (omega (arith, l)), pair.0 ∙ ap (λ n. cells_at places (row_at rows n)) e),
    )
  ]

  pair_of : (i : ℕ) → i < length rows → HasTwin rows places i
      → (k : ℕ) × (k + 1 < length entries) × IsPairOf rows places (entry_at entries k) (entry_at entries (k + 1)) i
  pair_of i l twin =
      let j = twin.0 in
      let a = place_of_row i l in
      let b = place_of_row j twin.2.0 in
      let z : Entry = record { hash = 0; row = 0 } in
      let same : key_of rows places (entry_at entries a.0) ≡ key_of rows places (entry_at entries b.0) =
      ap (λ n. cells_at places (row_at rows n)) a.2 ∙ sym twin.2.1 ∙ ap (λ n. cells_at places (row_at rows n)) (sym b.2) in
      elim (cases_lt a.0 b.0) [
        | inl low ↦ (a.0, omega (arith, low, b.1), (sym (key_between rows places entries index a.0 (a.0 + 1) b.0 z (omega arith) (omega (arith, low)) b.1 same), inl a.2))
        | inr high ↦ elim (cases_eq a.0 b.0) [
          | inl e ↦ absurd (twin.1 (sym b.2 ∙ ap (λ n. (entry_at entries n).row) (sym e) ∙ a.2))
          | inr other ↦
              (let up : (a.0 - 1) + 1 ≡ a.0 = (let more : b.0 ≢ a.0 = (λ e. other (sym e)) in omega (arith, high, other)) in
              let between : key_of rows places (entry_at entries (a.0 - 1)) ≡ key_of rows places (entry_at entries b.0) =
              key_between rows places entries index b.0 (a.0 - 1) a.0 z (omega (arith, high, other)) (omega arith) a.1 (sym same) in (
                a.0 - 1,
                omega (arith, up, a.1),
                subst (λ n. IsPairOf rows places (entry_at entries (a.0 - 1)) (entry_at entries n) i) (sym up) (between ∙ sym same, inr a.2),
              ))
        ]
      ]

  pub twins_told : (count : ℕ) (flags : List Bool) → length entries ≤ count → FlagsPairs rows places entries count flags → TellTwins rows places flags
  twins_told count flags whole pairs = record {
    many = pairs.many;
    each = λ i d l. (
      (λ told. let pair = (pairs.each i d l).0 told in twin_of i pair.0 pair.2 pair.3),
      (λ twin. let pair = pair_of i l twin in (pairs.each i d l).1 (pair.0, omega (arith, pair.1, whole), pair.1, pair.2)),
    );
  }

-- the other answer to a test
pub told_apart : (b : Bool) (P : Type 0) → (b ≡ true) ↔ P → (not b ≡ true) ↔ (P → ⊥)
told_apart true P told = ((λ h. cc h), (λ none. absurd (none (told.0 refl))))
told_apart false P told = ((λ h p. let t : false ≡ true = told.1 p in cc t), (λ none. refl))
