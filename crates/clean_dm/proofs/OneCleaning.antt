-- A database has one cleaning, which is a certificate.
use Rattle.std.proofs.Common.{◌≡◌, ◌∙◌, ◌⊎◌, ◌+◌, ◌<◌, ℕ, zero, suc, true, false, List, [], ◌∷◌, ◌++◌, refl, sym, ap, subst, inl, inr, arith, length}
use Rattle.std.specs.Prelude.{◌↔◌}
use lib.Dec.{eqb}
use Rattle.std.proofs.Common.{append_assoc}
use Rattle.std.proofs.lemmas.List.{append-nil}
use Rattle.std.proofs.lemmas.Bool.Decides.{eqb_tells}
use Rattle.members_dm.specs.Places.{IsEarlier, Place}
use Rattle.table_csv.specs.Databases.{Data, IsDatabase, rows_at}
use Rattle.table_csv.specs.Cells.{AreRowsOf, Row}
use Rattle.table_csv.proofs.Zips.{zipped_length}
use Rattle.schema_dm.specs.declared.table.Table.{Table}
use Rattle.keys_dm.specs.Violations.{place_of}
use Rattle.keys_dm.specs.declared.violation.ViolationKind.{ViolationKind}
use Rattle.keys_dm.specs.declared.violation.ViolationKind.TheVariants.{NullKey, RepeatedKey, RepeatedUnique, Dangling}
use Rattle.keys_dm.proofs.RowKinds.{one_kind}
use Rattle.clean_dm.specs.Parts.{IsLargestPart, IsRow}
use Rattle.clean_dm.specs.Removing.{IsCertificate, IsCleaning, IsDue, IsLeft, IsNext, turn_of}
use Rattle.clean_dm.specs.RowSets.{Has}
use Rattle.clean_dm.specs.Working.{IsUnderWay}
use Rattle.clean_dm.specs.declared.removal.Removal.{Removal}
use Rattle.clean_dm.specs.declared.row_set.RowSet.{RowSet}
use Rattle.clean_dm.proofs.Largest.{left_is_largest}

pub certificate_of : (D : Data) (removals : List Removal) → IsCleaning D removals → IsCertificate D removals
certificate_of D removals h = record { chain = λ before after removal e. (let next = h.chain before after removal e in (next.place, next.due)); done = h.done }

pub cleaning_is_largest : (D : Data) (removals : List Removal) → IsCleaning D removals → IsLargestPart D (IsLeft removals)
cleaning_is_largest D removals h = left_is_largest D removals (certificate_of D removals h)

-- ---- of two that are due one is earlier, unless they are one

in_order : (p q : Place) → length p ≡ length q → ¬ IsEarlier p q → ¬ IsEarlier q p → p ≡ q
in_order [] [] e h k = refl
in_order [] (b ∷ q) e h k = absurd (omega arith)
in_order (a ∷ p) [] e h k = absurd (omega arith)
in_order (a ∷ p) (b ∷ q) e h k =
    let same : a ≡ b = number (eqb_tells a b) in
    let rest : p ≡ q = in_order p q (omega arith) (λ less. h (inr (same, less))) (λ less. k (inr (sym same, less))) in
    cc
  where
    number : ((eqb a b ≡ true) × (a ≡ b)) ⊎ ((eqb a b ≡ false) × (a ≡ b → ⊥)) → a ≡ b
    number (inl s) = s.1
    number (inr apart) =
        let not_less : ¬ (a < b) = λ less. h (inl less) in
        let not_more : ¬ (b < a) = λ less. k (inl less) in
        omega (arith, not_less, not_more)

place_length : (kind : ViolationKind) → length (place_of kind) ≡ 2
place_length NullKey = refl
place_length RepeatedKey = refl
place_length (RepeatedUnique n) = refl
place_length (Dangling n) = refl

pub due_length : (D : Data) (made : List Removal) (place : Place) (removal : Removal) → IsDue D made place removal → length place ≡ 5
due_length D made place removal due = ap length due.stands ∙ long removal.kind
  where
    long : (kind : ViolationKind) → length (turn_of kind ∷ due.t ∷ due.i ∷ place_of kind) ≡ 5
    long kind = (let two = place_length kind in omega arith)

pub one_next : (D : Data) (made : List Removal) (removal other : Removal) → IsNext D made removal → IsNext D made other → removal ≡ other
one_next D made removal other h k =
    let long : length h.place ≡ length k.place = due_length D made h.place removal h.due ∙ sym (due_length D made k.place other k.due) in
    let place : h.place ≡ k.place = in_order h.place k.place long (k.first h.place removal h.due) (h.first k.place other k.due) in
    let places : turn_of removal.kind ∷ h.due.t ∷ h.due.i ∷ place_of removal.kind ≡ turn_of other.kind ∷ k.due.t ∷ k.due.i ∷ place_of other.kind = sym h.due.stands ∙ place ∙ k.due.stands in
    let t : h.due.t ≡ k.due.t = cc in
    let i : h.due.i ≡ k.due.i = cc in
    let rest : place_of removal.kind ≡ place_of other.kind = cc in
    let kind : removal.kind ≡ other.kind = one_kind other.kind removal.kind [] (append-nil (place_of other.kind) ∙ sym rest) in
    let table : removal.table ≡ other.table = h.due.of_row.0 ∙ ap (λ n. n + 1) t ∙ sym k.due.of_row.0 in
    let row : removal.row ≡ other.row = h.due.of_row.1 ∙ ap (λ n. n + 1) i ∙ sym k.due.of_row.1 in
    λ z. record { table = table z; row = row z; kind = kind z }

module _ (D : Data) (whole other : List Removal) (h : IsCleaning D whole) (k : IsCleaning D other) where
  from_here : (made xs ys : List Removal) → whole ≡ made ++ xs → other ≡ made ++ ys → xs ≡ ys
  from_here made [] [] e f = refl
  from_here made [] (y ∷ ys) e f =
      let next = k.chain made ys y f in
      absurd (h.done next.place y (subst (λ (rs : List Removal). IsDue D rs next.place y) (sym (e ∙ append-nil made)) next.due))
  from_here made (x ∷ xs) [] e f =
      let next = h.chain made xs x e in
      absurd (k.done next.place x (subst (λ (rs : List Removal). IsDue D rs next.place x) (sym (f ∙ append-nil made)) next.due))
  from_here made (x ∷ xs) (y ∷ ys) e f =
      let same : x ≡ y = one_next D made x y (h.chain made xs x e) (k.chain made ys y f) in
      let rest : xs ≡ ys = from_here (made ++ x ∷ []) xs ys (e ∙ sym (append_assoc made (x ∷ []) xs)) (f ∙ sym (append_assoc made (y ∷ []) ys) ∙ ap (λ (z : Removal). (made ++ z ∷ []) ++ ys) (sym same)) in
      cc

  pub one_cleaning : whole ≡ other
  one_cleaning = from_here [] whole other refl refl

-- ---- before the first removal

pub way_at_first : (D : Data) (left : RowSet) → IsDatabase D → ((t i : ℕ) → Has left t i ↔ ((t < length D.tables) × IsRow D t i)) → IsUnderWay D [] left
way_at_first D left fits all = record {
  chain = λ before after removal e. nothing before after removal e;
  exact = λ t i. ((λ h. (((all t i).0 h).1, (λ gone. gone))), (λ h. (all t i).1 (within t i h.0, h.0)));
}
  where
    nothing : (before after : List Removal) (removal : Removal) → [] ≡ before ++ removal ∷ after → IsNext D before removal
    nothing [] after removal e = cc
    nothing (x ∷ before) after removal e = cc

    short : (lists : List (List Row)) (t i : ℕ) → i < length (rows_at lists t) → t < length lists
    short [] t i h = absurd (omega arith)
    short (x ∷ lists) zero i h = omega arith
    short (x ∷ lists) (suc t) i h = (let less = short lists t i h in omega arith)

    within : (t i : ℕ) → IsRow D t i → t < length D.tables
    within t i h =
        let long = zipped_length (λ (table : Table) (rows : List Row). AreRowsOf table.columns rows) D.tables D.rows fits.rows in
        let less = short D.rows t i h in
        omega arith
