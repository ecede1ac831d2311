-- The rows of a table as columns of numbers.
use Rattle.std.proofs.Common.{◌≡◌, ◌<◌, ◌+◌, ◌↔◌, ℕ, zero, suc, List, [], ◌∷◌, ◌++◌, Some, None, false, ◌||◌, length, map, take, get_or, refl, sym, ap, ◌∙◌, subst, arith, inl, inr, ⊎_elim}
use Rattle.std.specs.Prelude.{slice_get, slice_index, slice_index_or}
use Rattle.std.proofs.lemmas.Slice.Eq.{bytes_eq-Decides}
use Rattle.std.proofs.lemmas.Bool.{false_from_ne_true, cond-true, cond-false}
use Rattle.std.proofs.lemmas.List.{take_more}
use Rattle.std.proofs.lemmas.Option.{get_or_from_slice_get}
use Rattle.members_dm.specs.Membership.{IsIn, NoRepeats}
use Rattle.members_dm.specs.Elements.{Each}
use Rattle.members_dm.proofs.ElementsLemmas.{index_of_item, item_at_index, item_from_each, item_within, NoRepeats-map}
use Rattle.value_dm.specs.declared.value.Value.{Value}
use Rattle.table_csv.specs.Cells.{Row}
use Rattle.schema_dm.specs.Naming.{Name}
use Rattle.names_dm.specs.Variables.{variable_of}
use Rattle.solutions_dm.specs.declared.columns.Column.{Column}
use Rattle.solutions_dm.specs.Columns.{number_at, has_column, AreApart, HaveRows}
use Rattle.solutions_dm.specs.Repeats.{IsDistinct}
use Rattle.solutions_dm.specs.Table.{Table, IsTable, HasRow}
use Rattle.solutions_dm.proofs.ColumnLemmas.{number_at_none}
use Rattle.query_rows_dm.specs.Numbers.{AreGrown, AreOneToOne, IsNumberOf, IsNumbered}
use Rattle.query_rows_dm.specs.Relations.{Numbers, OwnsVariable}
use Rattle.query_rows_dm.specs.Tables.{AreColumnNumbers, AreNumbered, AreColumnsFrom, AreColumns, IsRowOf, IsTableRelation}
use Rattle.query_rows_dm.proofs.NumberLemmas.{grown_not, grown_twice, still_number_of, one_number}
use Rattle.query_rows_dm.proofs.RowLemmas.{in_or_not}

-- ---- one row, and one column, at a time

module _ (old new : List Value) (g : AreGrown old new) where
  numbers_still : (rows : List Row) (place : ℕ) (ns : List ℕ) → AreColumnNumbers old rows place ns → AreColumnNumbers new rows place ns
  numbers_still [] place [] h = h
  numbers_still [] place (n ∷ ns) h = h
  numbers_still (r ∷ rows) place [] h = h
  numbers_still (r ∷ rows) place (n ∷ ns) h = (still_number_of old new g (slice_index_or r place None) n h.0, numbers_still rows place ns h.1)

  columns_still : (rows : List Row) (place : ℕ) (xs : List (List ℕ)) (cs : List Column) → AreColumnsFrom old rows place xs cs → AreColumnsFrom new rows place xs cs
  columns_still rows place [] [] h = h
  columns_still rows place [] (c ∷ cs) h = h
  columns_still rows place (x ∷ xs) [] h = h
  columns_still rows place (x ∷ xs) (c ∷ cs) h = ((h.0.0, numbers_still rows place c.numbers h.0.1), columns_still rows (suc place) xs cs h.1)

zero_plus : (n : ℕ) → n ≡ 0 + n
zero_plus n = omega arith

numbers_push : (values : List Value) (rows : List Row) (place : ℕ) (ns : List ℕ) (r : Row) (n : ℕ) → AreColumnNumbers values rows place ns → IsNumberOf values (slice_index_or r place None) n →
    AreColumnNumbers values (rows ++ r ∷ []) place (ns ++ n ∷ [])
numbers_push values [] place [] r n h k = (k, tt)
numbers_push values [] place (m ∷ ns) r n h k = absurd h
numbers_push values (q ∷ rows) place [] r n h k = absurd h
numbers_push values (q ∷ rows) place (m ∷ ns) r n h k = (h.0, numbers_push values rows place ns r n h.1 k)

columns_push : (values : List Value) (rows : List Row) (place : ℕ) (xs : List (List ℕ)) (cs : List Column) (x : List ℕ) (c : Column) → AreColumnsFrom values rows place xs cs →
    (c.name ≡ x) × AreColumnNumbers values rows (place + length xs) c.numbers → AreColumnsFrom values rows place (xs ++ x ∷ []) (cs ++ c ∷ [])
columns_push values rows place [] [] x c h k = ((k.0, subst (λ p. AreColumnNumbers values rows p c.numbers) (plus_zero place) k.1), tt)
  where
    plus_zero : (n : ℕ) → n + 0 ≡ n
    plus_zero n = omega arith
columns_push values rows place [] (d ∷ cs) x c h k = absurd h
columns_push values rows place (y ∷ xs) [] x c h k = absurd h
columns_push values rows place (y ∷ xs) (d ∷ cs) x c h k = (h.0, columns_push values rows (suc place) xs cs x c h.1 (k.0, subst (λ p. AreColumnNumbers values rows p c.numbers) (moved place (length xs)) k.1))
  where
    moved : (a b : ℕ) → a + suc b ≡ suc a + b
    moved a b = omega arith

pub numbered_none : (values : List Value) (place : ℕ) → AreNumbered values values [] place []
numbered_none values place = record { grown = grown_not values; numbers = tt }

pub numbered_more : (start old new : List Value) (rows : List Row) (k place : ℕ) (ns : List ℕ) (r : Row) (n : ℕ) → k < length rows → r ≡ get_or rows k r →
    AreNumbered start old (take k rows) place ns → IsNumbered old new (slice_index_or r place None) n → AreNumbered start new (take (k + 1) rows) place (ns ++ n ∷ [])
numbered_more start old new rows k place ns r n l e h i = record {
  grown = grown_twice start old new h.grown i.grown;
  numbers = subst (λ rs. AreColumnNumbers new rs place (ns ++ n ∷ [])) (sym (take_more rows k r l ∙ ap (λ y. take k rows ++ y ∷ []) (sym e)))
      (numbers_push new (take k rows) place ns r n (numbers_still old new i.grown (take k rows) place ns h.numbers) i.number);
}

pub columns_none : (values : List Value) (rows : List Row) → AreColumns values values rows [] []
columns_none values rows = record { grown = grown_not values; columns = tt }

pub columns_more : (start old new : List Value) (rows : List Row) (vars : List (List ℕ)) (k : ℕ) (cs : List Column) (x : List ℕ) (c : Column) → k < length vars → x ≡ get_or vars k x → c.name ≡ x →
    AreColumns start old rows (take k vars) cs → AreNumbered old new rows k c.numbers → AreColumns start new rows (take (k + 1) vars) (cs ++ c ∷ [])
columns_more start old new rows vars k cs x c l e s h i = record {
  grown = grown_twice start old new h.grown i.grown;
  columns = subst (λ xs. AreColumnsFrom new rows 0 xs (cs ++ c ∷ [])) (sym (take_more vars k x l ∙ ap (λ y. take k vars ++ y ∷ []) (sym e)))
      (columns_push new rows 0 (take k vars) cs x c (columns_still old new i.grown rows 0 (take k vars) cs h.columns)
      (s, subst (λ p. AreColumnNumbers new rows p c.numbers) (sym (taken vars k l) ∙ zero_plus (length (take k vars))) i.numbers));
}
  where
    taken : (xs : List (List ℕ)) (k : ℕ) → k < length xs → length (take k xs) ≡ k
    taken [] k l = absurd (omega arith)
    taken (x ∷ xs) zero l = refl
    taken (x ∷ xs) (suc k) l = ap suc (taken xs k (omega arith))

-- ---- the rows of such columns

module _ (values : List Value) (rows : List Row) where
  long : (place : ℕ) (ns : List ℕ) (rs : List Row) → AreColumnNumbers values rs place ns → length ns ≡ length rs
  long place [] [] h = refl
  long place [] (r ∷ rs) h = absurd h
  long place (n ∷ ns) [] h = absurd h
  long place (n ∷ ns) (r ∷ rs) h = ap suc (long place ns rs h.1)

  at_row : (place : ℕ) (rs : List Row) (ns : List ℕ) (i : ℕ) → AreColumnNumbers values rs place ns → i < length rs → IsNumberOf values (slice_index_or (slice_index_or rs i []) place None) (slice_index ns i)
  at_row place [] ns i h l = absurd (omega (arith, l))
  at_row place (r ∷ rs) [] i h l = absurd h
  at_row place (r ∷ rs) (n ∷ ns) zero h l = h.0
  at_row place (r ∷ rs) (n ∷ ns) (suc i) h l = at_row place rs ns i h.1 (omega (arith, l))

  have_rows : (place : ℕ) (xs : List (List ℕ)) (cs : List Column) → AreColumnsFrom values rows place xs cs → HaveRows cs (length rows)
  have_rows place [] [] h = tt
  have_rows place [] (c ∷ cs) h = absurd h
  have_rows place (x ∷ xs) [] h = absurd h
  have_rows place (x ∷ xs) (c ∷ cs) h = (long place c.numbers rows h.0.1, have_rows (suc place) xs cs h.1)

  has_no_column : (place : ℕ) (xs : List (List ℕ)) (cs : List Column) (x : List ℕ) → AreColumnsFrom values rows place xs cs → ¬ IsIn x xs → has_column cs x ≡ false
  has_no_column place [] [] x h n = refl
  has_no_column place [] (c ∷ cs) x h n = absurd h
  has_no_column place (y ∷ ys) [] x h n = absurd h
  has_no_column place (y ∷ ys) (c ∷ cs) x h n =
      ap (λ b. b || has_column cs x) (false_from_ne_true _ (λ s. n (inl (sym h.0.0 ∙ (bytes_eq-Decides c.name x).0 s)))) ∙ has_no_column (suc place) ys cs x h.1 (λ k. n (inr k))

  are_apart : (place : ℕ) (xs : List (List ℕ)) (cs : List Column) → AreColumnsFrom values rows place xs cs → NoRepeats xs → AreApart cs
  are_apart place [] [] h once = tt
  are_apart place [] (c ∷ cs) h once = absurd h
  are_apart place (x ∷ xs) [] h once = absurd h
  are_apart place (x ∷ xs) (c ∷ cs) h once = (has_no_column (suc place) xs cs c.name h.1 (λ k. once.0 (subst (λ y. IsIn y xs) h.0.0 k)), are_apart (suc place) xs cs h.1 once.1)

  number_of_column : (i : ℕ) → i < length rows → (from : ℕ) (xs : List (List ℕ)) (cs : List Column) → AreColumnsFrom values rows from xs cs → NoRepeats xs → (place : ℕ) (x : List ℕ) → slice_get xs place ≡ Some x →
      IsNumberOf values (slice_index_or (slice_index_or rows i []) (from + place) None) (number_at cs i x)
  number_of_column i l from [] cs h once place x e = absurd (cc e)
  number_of_column i l from (y ∷ ys) [] h once place x e = absurd h
  number_of_column i l from (y ∷ ys) (c ∷ cs) h once zero x e =
      subst (λ p. IsNumberOf values (slice_index_or (slice_index_or rows i []) p None) (number_at (c ∷ cs) i x)) (plus_zero from)
      (subst (IsNumberOf values (slice_index_or (slice_index_or rows i []) from None)) (sym (cond-true _ _ _ ((bytes_eq-Decides c.name x).1 (h.0.0 ∙ the_same e)))) (at_row from rows c.numbers i h.0.1 l))
    where
      the_same : {a b : List ℕ} → Some a ≡ Some b → a ≡ b
      the_same e = cc e

      plus_zero : (n : ℕ) → n ≡ n + 0
      plus_zero n = omega arith
  number_of_column i l from (y ∷ ys) (c ∷ cs) h once (suc place) x e =
      subst (λ p. IsNumberOf values (slice_index_or (slice_index_or rows i []) p None) (number_at (c ∷ cs) i x)) (moved from place)
      (subst (IsNumberOf values (slice_index_or (slice_index_or rows i []) (suc from + place) None))
      (sym (cond-false _ _ _ (false_from_ne_true _ (λ s. once.0 (subst (λ z. IsIn z ys) (sym (sym h.0.0 ∙ (bytes_eq-Decides c.name x).0 s)) (item_at_index x ys place e))))))
      (number_of_column i l (suc from) ys cs h.1 once.1 place x e))
    where
      moved : (a b : ℕ) → suc a + b ≡ a + suc b
      moved a b = omega arith

  module _ (xs : List (List ℕ)) (cs : List Column) (h : AreColumnsFrom values rows 0 xs cs) (once : NoRepeats xs) where
    pub columns_table : IsTable (record { columns = cs; rows = length rows })
    columns_table = record { filled = have_rows 0 xs cs h; apart = are_apart 0 xs cs h once }

    row_at : (i : ℕ) → i < length rows → IsRowOf values xs (slice_index_or rows i []) (number_at cs i)
    row_at i l = record {
      cells = λ place x e. subst (λ p. IsNumberOf values (slice_index_or (slice_index_or rows i []) p None) (number_at cs i x)) (sym (zero_plus place)) (number_of_column i l 0 xs cs h once place x e);
      others = λ x n. number_at_none cs i x (has_no_column 0 xs cs x h n);
    }

    one_row : AreOneToOne values → (row : Row) (m n : Numbers) → IsRowOf values xs row m → IsRowOf values xs row n → (x : List ℕ) → m x ≡ n x
    one_row one row m n p q x = ⊎_elim
        (λ here. let k = index_of_item x xs here in
        one_number values one (m x) (n x) (p.cells k.0 x k.2).number (q.cells k.0 x k.2).number ((p.cells k.0 x k.2).cell ∙ sym (q.cells k.0 x k.2).cell))
        (λ out. p.others x out ∙ sym (q.others x out))
        (in_or_not x xs)

    -- the row at an item's place
    row_here : (row : Row) → IsIn row rows → (i : ℕ) × (i < length rows) × IsRowOf values xs row (number_at cs i)
    row_here row here =
        let k = index_of_item row rows here in
        (k.0, k.1, subst (λ r. IsRowOf values xs r (number_at cs k.0)) (get_or_from_slice_get rows k.0 row [] k.2) (row_at k.0 k.1))

    pub each_row : (row : Row) → IsIn row rows → (m : Numbers) × IsRowOf values xs row m
    each_row row here = let k = row_here row here in (number_at cs k.0, k.2)

    pub table_has : AreOneToOne values → (m : Numbers) → HasRow (record { columns = cs; rows = length rows }) m ↔ ((row : Row) × IsIn row rows × IsRowOf values xs row m)
    table_has one m = (
      (λ t. (
        slice_index_or rows t.0 [],
        item_within rows t.0 [] t.1,
        record {
          cells = λ place x e. subst (IsNumberOf values (slice_index_or (slice_index_or rows t.0 []) place None)) (sym (t.2 x)) ((row_at t.0 t.1).cells place x e);
          others = λ x n. t.2 x ∙ (row_at t.0 t.1).others x n;
        },
      )),
      (λ p. let k = row_here p.0 p.1 in (k.0, k.1, one_row one p.0 m (number_at cs k.0) p.2 k.2)),
    )

-- ---- a table as a relation

module _ (old new : List Value) (names : List Name) (rows : List Row) (cs : List Column) (once : NoRepeats names) (owned : Each OwnsVariable names) (one : AreOneToOne old)
    (h : AreColumns old new rows (map variable_of names) cs) where
  variables_once : NoRepeats (map variable_of names)
  variables_once = NoRepeats-map variable_of names (λ x y hx hy e. item_from_each OwnsVariable names owned y hy x e) once

  pub table_fits : IsTable (record { columns = cs; rows = length rows })
  table_fits = columns_table new rows (map variable_of names) cs h.columns variables_once

  pub table_is : (attributes : List (List ℕ)) (s : Table) → attributes ≡ map variable_of names → IsDistinct (record { columns = cs; rows = length rows }) s → IsTableRelation old new names rows (record { attributes = attributes; rows = s })
  table_is attributes s e d = record {
    grown = h.grown;
    owned = owned;
    attributes = e;
    once = variables_once;
    rows = λ m. (
        let t = table_has new rows (map variable_of names) cs h.columns variables_once (h.grown.apart one) m in
        ((λ r. t.0 ((d.same m).0 r)), (λ r. (d.same m).1 (t.1 r))));
    each = each_row new rows (map variable_of names) cs h.columns variables_once;
  }
