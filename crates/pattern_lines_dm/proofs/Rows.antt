-- The rows of a grid of solutions are the rows of the pattern.
use Rattle.std.proofs.Common.{◌≡◌, ◌∙◌, ◌<◌, ℕ, List, ap, map, refl, subst, sym}
use Rattle.std.specs.Prelude.{◌↔◌, Contains}
use Rattle.std.proofs.lemmas.List.Sorted.{IsPermutation-refl}
use Rattle.members_dm.specs.InOrder.{positions_below}
use Rattle.members_dm.specs.Membership.{IsIn}
use Rattle.members_dm.proofs.AnyLemmas.{item_from_all}
use Rattle.members_dm.proofs.MembershipLemmas.{IsIn-map, map-IsIn}
use Rattle.members_dm.proofs.PositionLists.{positions_cover, positions_within}
use Rattle.names_dm.specs.Statements.{Statement}
use Rattle.solutions_dm.specs.Table.{Table}
use Rattle.store_dm.specs.Graphs.{GraphValue, HasTriple}
use Rattle.tsv_dm.specs.Lines.{IsTsv}
use Rattle.pattern_dm.specs.Grids.{grid_of}
use Rattle.pattern_dm.specs.Mappings.{Mapping}
use Rattle.pattern_dm.specs.Solved.{AreSolutions, HasSolution, mapping_at}
use Rattle.pattern_dm.specs.declared.pattern.Pattern.{Pattern}
use Rattle.pattern_dm.proofs.Bridge.{same_mapping}
use Rattle.query_lines_dm.specs.Lines.{TermRow}
use Rattle.pattern_lines_dm.specs.Lines.{AreSolutionLines, IsSolutionRow, StandsIn}
use Rattle.pattern_lines_dm.proofs.Sets.{contains_stands, solution_along}

-- ---- positions

position_in : (n i : ℕ) → i < n → IsIn i (positions_below n)
position_in n = positions_cover n (positions_below n) (IsPermutation-refl (positions_below n))

position_is_below : (n i : ℕ) → IsIn i (positions_below n) → i < n
position_is_below n = item_from_all (λ i. i < n) (positions_below n) (positions_within n (positions_below n) (IsPermutation-refl (positions_below n)))

-- ---- rows

module _ (g : GraphValue) (triples : List Statement) (of_list : (t : Statement) → HasTriple g t ↔ Contains triples t) (p : Pattern) (header : List (List ℕ)) (s : Table) (are : AreSolutions g p s) where
  same : (t : Statement) → HasTriple g t ↔ StandsIn triples t
  same t = ((λ h. (contains_stands triples t).0 ((of_list t).0 h)), (λ h. (of_list t).1 ((contains_stands triples t).1 h)))

  abbrev row_at : ℕ → TermRow
  row_at i = map (mapping_at g.terms s i) header

  rows_exact : (row : TermRow) → IsIn row (grid_of g.terms header s) ↔ IsSolutionRow triples p header row
  rows_exact row = (there, back)
    where
      there : IsIn row (grid_of g.terms header s) → IsSolutionRow triples p header row
      there h =
          let found = IsIn-map row_at row (positions_below s.rows) h in
          let i : ℕ = found.0 in
          let m : Mapping = mapping_at g.terms s i in
          (m, (solution_along (HasTriple g) (StandsIn triples) same p m).0 ((are.exact m).0 (i, position_is_below s.rows i found.1, λ x. refl)), sym found.2)

      back : IsSolutionRow triples p header row → IsIn row (grid_of g.terms header s)
      back h =
          let m : Mapping = h.0 in
          let found : HasSolution g.terms s m = (are.exact m).1 ((solution_along (HasTriple g) (StandsIn triples) same p m).1 h.1) in
          let is : m ≡ mapping_at g.terms s found.0 = same_mapping m (mapping_at g.terms s found.0) found.2 in
          let row_is : row ≡ row_at found.0 = h.2 ∙ ap (λ (n : Mapping). map n header) is in
          subst (λ (r : TermRow). IsIn r (grid_of g.terms header s)) (sym row_is) (map-IsIn row_at found.0 (positions_below s.rows) (position_in s.rows found.0 found.1))

  -- the lines of a grid of the solutions are the pattern's
  pub solution_lines_made : (grid : List TermRow) (text : List ℕ) → grid ≡ grid_of g.terms header s → IsTsv header grid text → AreSolutionLines triples p header text
  solution_lines_made grid text is tsv = record {
    rows = grid_of g.terms header s;
    exact = rows_exact;
    lines = subst (λ (rows : List TermRow). IsTsv header rows text) is tsv;
  }
