-- The rows that a certificate leaves are the largest lawful part.
use Rattle.std.proofs.Common.{◌≡◌, ◌∙◌, ◌⊎◌, ◌+◌, ℕ, List, [], ◌∷◌, ◌++◌, refl, sym, subst, inl, inr, arith, append_assoc}
use Rattle.std.proofs.lemmas.List.{append-nil}
use Rattle.members_dm.specs.Elements.{HasSome}
use Rattle.members_dm.specs.Places.{Place}
use Rattle.table_csv.specs.Databases.{Data}
use Rattle.keys_dm.specs.Violations.{place_of}
use Rattle.keys_dm.specs.declared.violation.ViolationKind.{ViolationKind}
use Rattle.keys_dm.specs.declared.violation.ViolationKind.TheVariants.{NullKey, RepeatedKey, RepeatedUnique, Dangling}
use Rattle.clean_dm.specs.Parts.{BreaksIn, IsLargestPart, IsLawfulPart, IsRow, Passes}
use Rattle.clean_dm.specs.Removing.{IsCertificate, IsDone, IsDue, IsLeft, IsOf, turn_of}
use Rattle.clean_dm.specs.declared.removal.Removal.{Removal}

-- what breaks a rule in a part breaks it in a smaller part
pub breaks_in_smaller : (D : Data) (Large Small : ℕ → ℕ → Type 0) → ((t i : ℕ) → IsRow D t i → Small t i → Large t i) → (t i : ℕ) (kind : ViolationKind) → BreaksIn Large D t i kind → BreaksIn Small D t i kind
breaks_in_smaller D Large Small smaller t i NullKey h = h
breaks_in_smaller D Large Small smaller t i RepeatedKey h = h
breaks_in_smaller D Large Small smaller t i (RepeatedUnique number) h = h
breaks_in_smaller D Large Small smaller t i (Dangling number) h = (h.0, h.1, (h.2.0, (λ j inside row. h.2.1 j (smaller h.0.target j row.0 inside) row)))

-- the removal of a row
abbrev pub removal_of : ℕ → ℕ → ViolationKind → Removal
removal_of t i kind = record { table = t + 1; row = i + 1; kind = kind }

-- where nothing is due, the rows left are lawful
pub left_is_lawful : (D : Data) (removals : List Removal) → IsDone D removals → IsLawfulPart D (IsLeft removals)
left_is_lawful D removals done t i kind is_row left breaks = done (turn_of kind ∷ t ∷ i ∷ place_of kind) (removal_of t i kind) (record {
  t = t;
  i = i;
  of_row = (refl, refl);
  is_row = is_row;
  left = left;
  breaks = breaks;
  stands = refl;
})

-- one more removal, from behind
pub gone_before : (P : Removal → Type 0) (made : List Removal) (removal : Removal) → HasSome P (made ++ removal ∷ []) → HasSome P made ⊎ P removal
gone_before P [] removal (inl p) = inr p
gone_before P [] removal (inr h) = absurd h
gone_before P (x ∷ made) removal (inl p) = inl (inl p)
gone_before P (x ∷ made) removal (inr h) = elim (gone_before P made removal h) [ inl k ↦ inl (inr k) | inr p ↦ inr p ]

pub same_number : (a b c : ℕ) → c ≡ a + 1 → c ≡ b + 1 → a ≡ b
same_number a b c e f = omega arith

module _ (D : Data) (Part : ℕ → ℕ → Type 0) (lawful : IsLawfulPart D Part) where
  -- a removal takes no row of a lawful part
  still_left : (made : List Removal) (removal : Removal) (place : Place) → ((t i : ℕ) → IsRow D t i → Part t i → IsLeft made t i) → IsDue D made place removal
      → (t i : ℕ) → IsRow D t i → Part t i → IsLeft (made ++ removal ∷ []) t i
  still_left made removal place all due t i is_row inside gone = elim (gone_before (IsOf t i) made removal gone) [
    | inl h ↦ all t i is_row inside h
    | inr h ↦
        (let table : due.t ≡ t = same_number due.t t removal.table due.of_row.0 h.0 in
        let row : due.i ≡ i = same_number due.i i removal.row due.of_row.1 h.1 in
        let here : BreaksIn (IsLeft made) D t i removal.kind = subst {A = ℕ × ℕ} (λ (q : ℕ × ℕ). BreaksIn (IsLeft made) D q.0 q.1 removal.kind) (λ k. (table k, row k)) due.breaks in
        lawful t i removal.kind is_row inside (breaks_in_smaller D (IsLeft made) Part all t i removal.kind here))
  ]

  all_left : (made rest removals : List Removal) → removals ≡ made ++ rest → ((before after : List Removal) (removal : Removal) → removals ≡ before ++ removal ∷ after → (place : Place) × IsDue D before place removal)
      → ((t i : ℕ) → IsRow D t i → Part t i → IsLeft made t i) → (t i : ℕ) → IsRow D t i → Part t i → IsLeft removals t i
  all_left made [] removals whole chain all = subst (λ (xs : List Removal). (t i : ℕ) → IsRow D t i → Part t i → IsLeft xs t i) (sym (whole ∙ append-nil made)) all
  all_left made (removal ∷ rest) removals whole chain all =
      let due = chain made rest removal whole in
      all_left (made ++ removal ∷ []) rest removals (whole ∙ sym (append_assoc made (removal ∷ []) rest)) chain (still_left made removal due.0 all due.1)

pub left_is_largest : (D : Data) (removals : List Removal) → IsCertificate D removals → IsLargestPart D (IsLeft removals)
left_is_largest D removals h = record {
  lawful = left_is_lawful D removals h.done;
  largest = λ other t i lawful is_row inside. all_left D (Passes other) lawful [] removals removals refl h.chain (λ u j row k gone. gone) t i is_row inside;
}
