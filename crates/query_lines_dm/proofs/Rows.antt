-- Rows of cells, the tuples that they stand for, and their rows of terms.
use Rattle.std.proofs.Common.{◌≡◌, ◌≢◌, ◌∙◌, ℕ, zero, suc, List, [], ◌∷◌, Some, None, Bool, true, false, cond, refl, sym, ap, subst, arith, inl, inr, length, map}
use Rattle.std.specs.Prelude.{◌↔◌, slice_get, slice_index_or}
use Rattle.std.specs.Cmp.Lexicographic.{bytes_decides}
use Rattle.std.proofs.lemmas.Option.{same_Some}
use Rattle.members_dm.specs.Membership.{IsIn, NoRepeats}
use Rattle.members_dm.proofs.ElementsLemmas.{item_at_index}
use Rattle.members_dm.proofs.MembershipLemmas.{IsIn-map, map-IsIn, rising-NoRepeats}
use Rattle.names_dm.specs.Variables.{variable_of}
use Rattle.schema_dm.specs.Naming.{Name, same_name}
use Rattle.schema_dm.specs.Shapes.{IsBefore}
use Rattle.table_csv.specs.Cells.{Cell, Row}
use Rattle.table_csv.specs.Databases.{Data}
use Rattle.algebra_dm.specs.Attributes.{AreAttributes}
use Rattle.algebra_dm.specs.Tuples.{IsUnder, Tuple}
use Rattle.algebra_dm.specs.declared.query.Query.{Query}
use Rattle.algebra_dm.proofs.RisingLemmas.{one_way}
use Rattle.query_rows_dm.specs.Answers.{AreRows, HasUnder}
use Rattle.query_rows_dm.specs.Grids.{grid_of, term_in}
use Rattle.tsv_dm.specs.Lines.{IsTsv}
use Rattle.query_lines_dm.specs.Lines.{AreQueryLines, IsTermRow, TermRow}

-- ---- the tuple of a row

-- what the row has under the first of the names that is this one
tuple_of : List Name → Row → Tuple
tuple_of [] row a = None
tuple_of (n ∷ names) [] a = None
tuple_of (n ∷ names) (c ∷ row) a = cond (same_name n a) c (tuple_of names row a)

told_same : (n a : Name) → n ≡ a → same_name n a ≡ true
told_same n a e = (bytes_decides n a).1 e

told_other : (n a : Name) → n ≢ a → same_name n a ≡ false
told_other n a other = go (same_name n a) refl
  where
    go : (b : Bool) → same_name n a ≡ b → b ≡ false
    go true e = absurd (other ((bytes_decides n a).0 e))
    go false e = refl

abbrev chosen_by : Cell → Cell → Bool → Cell
chosen_by c d b = cond b c d

under_named : (names : List Name) (row : Row) → NoRepeats names → length row ≡ length names → (place : ℕ) (name : Name) → slice_get names place ≡ Some name → tuple_of names row name ≡ slice_index_or row place None
unfolding tuple_of
under_named [] row once long place name at = absurd (cc at)
under_named (n ∷ names) [] once long place name at = absurd (omega (arith, long))
under_named (n ∷ names) (c ∷ row) once long zero name at = ap (chosen_by c (tuple_of names row name)) (told_same n name (same_Some n name at))
under_named (n ∷ names) (c ∷ row) once long (suc place) name at =
    let other : n ≢ name = λ e. once.0 (subst (λ (x : Name). IsIn x names) (sym e) (item_at_index name names place at)) in
    ap (chosen_by c (tuple_of names row name)) (told_other n name other) ∙ under_named names row once.1 (omega (arith, long)) place name at

under_others : (names : List Name) (row : Row) (a : Name) → ¬ IsIn a names → tuple_of names row a ≡ None
unfolding tuple_of
under_others [] row a out = refl
under_others (n ∷ names) [] a out = refl
under_others (n ∷ names) (c ∷ row) a out = ap (chosen_by c (tuple_of names row a)) (told_other n a (λ e. out (inl e))) ∙ under_others names row a (λ h. out (inr h))

tuple_under : (names : List Name) (row : Row) → NoRepeats names → length row ≡ length names → IsUnder names row (tuple_of names row)
tuple_under names row once long = record { named = under_named names row once long; others = under_others names row }

-- ---- the row of a tuple

cells_are : (names : List Name) (row : Row) (w : Tuple) → ((place : ℕ) (name : Name) → slice_get names place ≡ Some name → w name ≡ slice_index_or row place None) → length row ≡ length names → row ≡ map w names
cells_are [] [] w named long = refl
cells_are [] (c ∷ row) w named long = absurd (omega (arith, long))
cells_are (n ∷ names) [] w named long = absurd (omega (arith, long))
cells_are (n ∷ names) (c ∷ row) w named long =
    let first : w n ≡ c = named 0 n refl in
    let rest : row ≡ map w names = cells_are names row w (λ place name at. named (suc place) name at) (omega (arith, long)) in
    λ i. sym first i ∷ rest i

pub terms_of_cells : (w : Tuple) (names : List Name) → map term_in (map w names) ≡ map (λ a. term_in (w a)) names
terms_of_cells w [] = refl
terms_of_cells w (n ∷ names) = λ i. term_in (w n) ∷ terms_of_cells w names i

-- ---- the rows of terms of a query

term_rows_exact : (D : Data) (q : Query) (names : List Name) (rows : List Row) → AreAttributes D.tables q names → AreRows D q names rows → (row : TermRow) → IsIn row (grid_of rows) ↔ IsTermRow D q names row
term_rows_exact D q names rows are_names are row = (there, back)
  where
    once : NoRepeats names
    once = rising-NoRepeats IsBefore one_way names are_names.rising

    cells_of : (r : Row) (w : Tuple) → IsIn r rows → IsUnder names r w → r ≡ map w names
    cells_of r w here under = cells_are names r w under.named (are.wide r here)

    there : IsIn row (grid_of rows) → IsTermRow D q names row
    there h =
        let found = IsIn-map (map term_in) row rows h in
        let r : Row = found.0 in
        let w : Tuple = tuple_of names r in
        let under = tuple_under names r once (are.wide r found.1) in
        (w, (are.exact w).0 (r, found.1, under), sym found.2 ∙ ap (map term_in) (cells_of r w found.1 under) ∙ terms_of_cells w names)

    back : IsTermRow D q names row → IsIn row (grid_of rows)
    back h =
        let w : Tuple = h.0 in
        let found : HasUnder names rows w = (are.exact w).1 h.1 in
        let same : map term_in found.0 ≡ row = ap (map term_in) (cells_of found.0 w found.1 found.2) ∙ terms_of_cells w names ∙ sym h.2 in
        subst (λ (r : TermRow). IsIn r (grid_of rows)) same (map-IsIn (map term_in) found.0 rows found.1)

-- the lines of a query's rows are the query's
pub query_lines_made : (D : Data) (q : Query) (names : List Name) (rows : List Row) (header : List (List ℕ)) (terms : List TermRow) (text : List ℕ) → AreAttributes D.tables q names → header ≡ map variable_of names → AreRows D q names rows
    → terms ≡ grid_of rows → IsTsv header terms text → AreQueryLines D q text
query_lines_made D q names rows header terms text are_names head are are_terms tsv = record {
  names = names;
  attributes = are_names;
  lines = record {
    rows = grid_of rows;
    exact = term_rows_exact D q names rows are_names are;
    lines = subst (λ (ts : List TermRow). IsTsv (map variable_of names) ts text) are_terms (subst (λ (h : List (List ℕ)). IsTsv h terms text) head tsv);
  };
}
