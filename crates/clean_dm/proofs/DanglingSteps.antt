-- Removing the first row that dangles.
use Rattle.std.proofs.Common.{◌≡◌, ◌∙◌, ◌⊎◌, ◌+◌, ◌<◌, ℕ, zero, suc, Bool, true, false, List, [], ◌∷◌, ◌++◌, Some, None, refl, sym, ap, subst, inl, inr, arith, length}
use Rattle.std.specs.Prelude.{◌↔◌, slice_get}
use Rattle.std.specs.Cmp.Lexicographic.{slice_cmp}
use Rattle.std.specs.Ordering.{is_eq}
use Rattle.std.proofs.lemmas.Bool.Decides.{eqb_tells, not_from_Decides}
use Rattle.members_dm.specs.Elements.{HasSome}
use Rattle.members_dm.specs.Places.{Place, IsEarlier}
use Rattle.members_dm.proofs.ElementsLemmas.{item_at_index}
use Rattle.schema_dm.specs.Schemas.{table_at}
use Rattle.schema_dm.specs.declared.table.ForeignKey.{ForeignKey}
use Rattle.schema_dm.specs.declared.table.Table.{Table}
use Rattle.table_csv.specs.Cells.{Cell, cells_at}
use Rattle.table_csv.specs.Databases.{Data, rows_at}
use Rattle.keys_dm.specs.KeyCells.{cell_cmp}
use Rattle.keys_dm.specs.KeyCells.{row_at}
use Rattle.keys_dm.specs.Violations.{place_of}
use Rattle.keys_dm.specs.declared.violation.ViolationKind.{ViolationKind}
use Rattle.keys_dm.specs.declared.violation.ViolationKind.TheVariants.{NullKey, RepeatedKey, RepeatedUnique, Dangling}
use Rattle.clean_dm.specs.Parts.{BreaksIn, IsRow}
use Rattle.clean_dm.specs.Removing.{IsChain, IsDone, IsLeft, IsNext, IsOf, turn_of}
use Rattle.clean_dm.specs.RowSets.{Has, Loses}
use Rattle.clean_dm.specs.Working.{AreCandidates, AreCandidatesBut, Dangles, GainsReferencing, IsFirstDangling, IsUnderWay, KeepsUnique, NoneDangles}
use Rattle.clean_dm.specs.declared.removal.Removal.{Removal}
use Rattle.clean_dm.specs.declared.row_set.RowSet.{RowSet}
use Rattle.keys_dm.proofs.CellOrder.{keys_decide}
use Rattle.clean_dm.proofs.Largest.{breaks_in_smaller, gone_before, removal_of, same_number}

pub record WhileDangling (D : Data) (removals : List Removal) (left due : RowSet) : Type 0 where
  pub way : IsUnderWay D removals left
  pub unique : KeepsUnique D left
  pub candidates : AreCandidates D left due

-- ---- one more removal

not_nothing : {X : Type 0} (xs ys : List X) (x : X) → ¬ (◌≡◌ {A = List X} [] (xs ++ x ∷ ys))
not_nothing [] ys x e = cc
not_nothing (z ∷ xs) ys x e = cc

split_last : {X : Type 0} (xs before after : List X) (r x : X) → xs ++ r ∷ [] ≡ before ++ x ∷ after → ((before ≡ xs) × (x ≡ r)) ⊎ ((rest : List X) × (xs ≡ before ++ x ∷ rest))
split_last [] [] after r x e = inl (refl, cc)
split_last {X} [] (b ∷ before) after r x e = absurd (let rest : ◌≡◌ {A = List X} [] (before ++ x ∷ after) = cc in not_nothing before after x rest)
split_last (y ∷ ys) [] after r x e = inr (ys, (let head : y ≡ x = cc in ap (λ z. z ∷ ys) head))
split_last (y ∷ ys) (b ∷ before) after r x e =
    let head : y ≡ b = cc in
    let tail : ys ++ r ∷ [] ≡ before ++ x ∷ after = cc in
    elim (split_last ys before after r x tail) [
      | inl h ↦ (let same = h.0 in inl ((cc), h.1))
      | inr h ↦ (let same = h.1 in inr (h.0, (cc)))
    ]

pub chain_on : (MayFollow : List Removal → Removal → Type 0) (removals : List Removal) (removal : Removal) → IsChain MayFollow removals → MayFollow removals removal → IsChain MayFollow (removals ++ removal ∷ [])
chain_on MayFollow removals removal chain next before after r e = elim (split_last removals before after removal r e) [
  | inl h ↦ subst (λ (made : List Removal). MayFollow made r) (sym h.0) (subst (MayFollow removals) (sym h.1) next)
  | inr h ↦ chain before h.0 r h.1
]

pub still_gone : (P : Removal → Type 0) (made : List Removal) (removal : Removal) → HasSome P made ⊎ P removal → HasSome P (made ++ removal ∷ [])
still_gone P [] removal (inl h) = absurd h
still_gone P [] removal (inr p) = inl p
still_gone P (x ∷ made) removal (inl h) = elim h [ inl p ↦ inl p | inr k ↦ inr (still_gone P made removal (inl k)) ]
still_gone P (x ∷ made) removal (inr p) = inr (still_gone P made removal (inr p))

pub way_on : (D : Data) (removals : List Removal) (removal : Removal) (left rest : RowSet) (t i : ℕ) → IsUnderWay D removals left → IsNext D removals removal → IsOf t i removal → Loses left rest t i → IsUnderWay D (removals ++ removal ∷ []) rest
way_on D removals removal left rest t i way next of_row loses = record {
  chain = chain_on (IsNext D) removals removal way.chain next;
  exact = λ u j. (
    (λ h.
        let both = (loses.each u j).0 h in
        let was = (way.exact u j).0 both.0 in (
          was.0,
          (λ gone. elim (gone_before (IsOf u j) removals removal gone) [
            | inl k ↦ was.1 k
            | inr k ↦ both.1 (same_number u t removal.table k.0 of_row.0, same_number j i removal.row k.1 of_row.1)
          ]),
        )),
    (λ h. (loses.each u j).1 (
      (way.exact u j).1 (h.0, (λ gone. h.1 (still_gone (IsOf u j) removals removal (inl gone)))),
      (λ same. h.1 (still_gone (IsOf u j) removals removal (inr (of_row.0 ∙ ap (λ n. n + 1) (sym same.0), of_row.1 ∙ ap (λ n. n + 1) (sym same.1))))),
    )),
  );
}

-- ---- what is due where no primary or unique key is violated

module _ (D : Data) (removals : List Removal) (left : RowSet) (way : IsUnderWay D removals left) (unique : KeepsUnique D left) where
  into_set : (t i : ℕ) (kind : ViolationKind) → BreaksIn (IsLeft removals) D t i kind → BreaksIn (Has left) D t i kind
  into_set = breaks_in_smaller D (IsLeft removals) (Has left) (λ u j row h. ((way.exact u j).0 h).1)

  pub next_dangling_row : (t i number : ℕ) → IsFirstDangling D left t i number → IsNext D removals (removal_of t i (Dangling number))
  next_dangling_row t i number first = record {
    place = 1 ∷ t ∷ i ∷ 2 ∷ number ∷ [];
    due = record {
      t = t;
      i = i;
      of_row = (refl, refl);
      is_row = ((way.exact t i).0 first.there).0;
      left = ((way.exact t i).0 first.there).1;
      breaks = breaks_in_smaller D (Has left) (IsLeft removals) (λ u j row h. (way.exact u j).1 (row, h)) t i (Dangling number) first.dangles;
      stands = refl;
    };
    first = λ other_place other due. subst (λ (p : Place). ¬ IsEarlier p (1 ∷ t ∷ i ∷ 2 ∷ number ∷ [])) (sym due.stands) (by due.t due.i other.kind ((way.exact due.t due.i).1 (due.is_row, due.left)) (into_set due.t due.i other.kind due.breaks));
  }
    where
      shorter : (u j other : ℕ) → IsEarlier (1 ∷ u ∷ j ∷ 2 ∷ other ∷ []) (1 ∷ t ∷ i ∷ 2 ∷ number ∷ []) → IsEarlier (u ∷ j ∷ other ∷ []) (t ∷ i ∷ number ∷ [])
      shorter u j other (inl h) = absurd (omega arith)
      shorter u j other (inr h) = elim h.1 [
        | inl less ↦ inl less
        | inr same ↦ elim same.1 [
          | inl less ↦ inr (same.0, inl less)
          | inr row ↦ elim row.1 [ inl two ↦ absurd (omega arith) | inr last ↦ inr (same.0, inr (row.0, last.1)) ]
        ]
      ]

      by : (u j : ℕ) (kind : ViolationKind) → Has left u j → BreaksIn (Has left) D u j kind → ¬ IsEarlier (turn_of kind ∷ u ∷ j ∷ place_of kind) (1 ∷ t ∷ i ∷ 2 ∷ number ∷ [])
      by u j NullKey there h k = unique u j NullKey there refl h
      by u j RepeatedKey there h k = unique u j RepeatedKey there refl h
      by u j (RepeatedUnique n) there h k = unique u j (RepeatedUnique n) there refl h
      by u j (Dangling n) there h k = first.first u j n there h (shorter u j n k)

  pub done_dangling : NoneDangles D left → IsDone D removals
  done_dangling none place removal due = by removal.kind (into_set due.t due.i removal.kind due.breaks)
    where
      there : Has left due.t due.i
      there = (way.exact due.t due.i).1 (due.is_row, due.left)

      by : (kind : ViolationKind) → ¬ BreaksIn (Has left) D due.t due.i kind
      by NullKey h = unique due.t due.i NullKey there refl h
      by RepeatedKey h = unique due.t due.i RepeatedKey there refl h
      by (RepeatedUnique n) h = unique due.t due.i (RepeatedUnique n) there refl h
      by (Dangling n) h = none due.t due.i n there h

-- ---- the candidates

-- a table with a foreign key is there
pub table_within : (tables : List Table) (u k : ℕ) (key : ForeignKey) → slice_get (table_at tables u).foreign k ≡ Some key → u < length tables
table_within [] u k key e = (let no : None ≡ Some key = e in cc)
table_within (x ∷ tables) zero k key e = omega arith
table_within (x ∷ tables) (suc u) k key e = (let below = table_within tables u k key e in omega arith)

pub candidates_at_first : (D : Data) (removals : List Removal) (left due : RowSet) → IsUnderWay D removals left → ((t i : ℕ) → Has due t i ↔ ((t < length D.tables) × IsRow D t i)) → AreCandidates D left due
candidates_at_first D removals left due way all = record {
  rows = λ t i h. (all t i).0 h;
  all = λ t i number there dangles. (all t i).1 (table_within D.tables t dangles.1.0 dangles.0 dangles.1.2, ((way.exact t i).0 there).0);
}

module _ (D : Data) (left rest due more : RowSet) (t i : ℕ) (loses : Loses left rest t i) (candidates : AreCandidatesBut D left due t i) (gains : GainsReferencing D due more t i) where
  module _ (u j number : ℕ) (is_row : IsRow D u j) (there : Has rest u j) (dangles : Dangles D rest u j number) where
    abbrev key : ForeignKey
    key = dangles.0

    abbrev cells : List Cell
    cells = cells_at key.columns (row_at (rows_at D.rows u) j)

    abbrev its_cells : List Cell
    its_cells = cells_at key.target_columns (row_at (rows_at D.rows t) i)

    below : u < length D.tables
    below = table_within D.tables u dangles.1.0 key dangles.1.2

    by_match : key.target ≡ t → cells ≡ its_cells → Has more u j
    by_match target same = gains.all u key below (item_at_index key (table_at D.tables u).foreign dangles.1.0 dangles.1.2) target j is_row dangles.2.0 same

    by_others : ¬ ((key.target ≡ t) × (cells ≡ its_cells)) → Has more u j
    by_others apart =
        let was = (loses.each u j).0 there in
        gains.kept u j (candidates.all u j number was.0 (
          key,
          dangles.1,
          (
            dangles.2.0,
            (λ k inside row. dangles.2.1 k ((loses.each key.target k).1 (
              inside,
              (λ same.
                  apart (same.0, sym row.1 ∙ ap (λ (q : ℕ × ℕ). cells_at key.target_columns (row_at (rows_at D.rows q.0) q.1)) (λ z. (same.0 z, same.1 z)))),
            )) row),
          ),
        ) was.1)

    by_cells : (b : Bool) → is_eq (slice_cmp cell_cmp cells its_cells) ≡ b → Has more u j
    by_cells true e = elim (eqb_tells key.target t) [
      | inl same ↦ by_match same.1 ((keys_decide cells its_cells).0 e)
      | inr apart ↦ by_others (λ both. apart.1 both.0)
    ]
    by_cells false e = by_others (λ both. not_from_Decides (is_eq (slice_cmp cell_cmp cells its_cells)) (keys_decide cells its_cells) e both.1)

    still_candidate : Has more u j
    still_candidate = by_cells (is_eq (slice_cmp cell_cmp cells its_cells)) refl

  pub candidates_on : ((u j : ℕ) → Has rest u j → IsRow D u j) → AreCandidates D rest more
  candidates_on rows = record {
    rows = gains.rows;
    all = λ u j number there dangles. still_candidate u j number (rows u j there) there dangles;
  }

-- the turn of the loop
pub while_on : (D : Data) (removals : List Removal) (removal : Removal) (left rest due due_but more : RowSet) (t i number : ℕ) → WhileDangling D removals left due → removal ≡ removal_of t i (Dangling number) → IsFirstDangling D left t i number
    → Loses left rest t i → AreCandidatesBut D left due_but t i → GainsReferencing D due_but more t i → WhileDangling D (removals ++ removal ∷ []) rest more
while_on D removals removal left rest due due_but more t i number before is first loses but gains =
    let next : IsNext D removals removal = subst (IsNext D removals) (sym is) (next_dangling_row D removals left before.way before.unique t i number first) in
    let of_row : IsOf t i removal = subst (IsOf t i) (sym is) (refl, refl) in
    let way : IsUnderWay D (removals ++ removal ∷ []) rest = way_on D removals removal left rest t i before.way next of_row loses in
    record {
      way = way;
      unique = λ u j kind there. before.unique u j kind ((loses.each u j).0 there).0;
      candidates = candidates_on D left rest due_but more t i loses but gains (λ u j there. ((way.exact u j).0 there).0);
    }
