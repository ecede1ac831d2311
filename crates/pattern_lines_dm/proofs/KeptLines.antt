-- The lines of a pattern that keeps a query's answers are the query's lines.
use Rattle.std.proofs.Common.{◌≡◌, ◌∙◌, ℕ, List, [], ◌∷◌, map, refl, subst, sym}
use Rattle.std.specs.Prelude.{◌↔◌}
use Rattle.names_dm.specs.Statements.{Statement}
use Rattle.names_dm.specs.Variables.{variable_of}
use Rattle.schema_dm.specs.Naming.{Name}
use Rattle.table_csv.specs.Databases.{Data}
use Rattle.algebra_dm.specs.Attributes.{AreAttributes, HasAttribute}
use Rattle.algebra_dm.specs.Nodes.{IsWellFormed}
use Rattle.algebra_dm.specs.Tuples.{IsTuple, Tuple}
use Rattle.algebra_dm.specs.declared.query.Query.{Query}
use Rattle.algebra_dm.proofs.RisingLemmas.{lists_unique}
use Rattle.query_rows_dm.specs.Grids.{term_in}
use Rattle.query_lines_dm.specs.Lines.{AreLinesOf, AreQueryLines, IsTermRow, TermRow}
use Rattle.pattern_dm.specs.Mappings.{Mapping}
use Rattle.pattern_dm.specs.declared.pattern.Pattern.{Pattern}
use Rattle.keeping_dm.specs.Keeping.{Agrees, Keeps}
use Rattle.keeping_dm.proofs.ImageLemmas.{IsWithin, image, image_agrees}
use Rattle.keeping_dm.proofs.KeepLemmas.{within_list}
use Rattle.keeping_dm.proofs.TupleLemmas.{within}
use Rattle.pattern_lines_dm.specs.Lines.{AreSolutionLines, IsSolutionRow, StandsIn}
use Rattle.pattern_lines_dm.proofs.Sets.{solution_along}

-- lines of the same rows
lines_along : (header : List (List ℕ)) (P Q : TermRow → Type 0) → ((row : TermRow) → P row ↔ Q row) → (text : List ℕ) → AreLinesOf header P text → AreLinesOf header Q text
lines_along header P Q same text h = record {
  rows = h.rows;
  exact = λ row. ((λ k. (same row).0 ((h.exact row).0 k)), (λ k. (h.exact row).1 ((same row).1 k)));
  lines = h.lines;
}

-- a mapping that agrees with a tuple has its terms under the variables of names
agreeing_row : (m : Mapping) (w : Tuple) → Agrees m w → (names : List Name) → map m (map variable_of names) ≡ map (λ a. term_in (w a)) names
agreeing_row m w agrees [] = refl
agreeing_row m w agrees (a ∷ names) = (let first = agrees.bound a in let rest = agreeing_row m w agrees names in λ i. first i ∷ rest i)

module _ (D : Data) (q : Query) (formed : IsWellFormed D.tables q) (triples : List Statement) (g : Statement → Type 0) (same : (t : Statement) → g t ↔ StandsIn triples t) (p : Pattern) (keeps : Keeps g p (IsTuple D q)) (names : List Name) (are : AreAttributes D.tables q names) where
  row_there : (row : TermRow) → IsSolutionRow triples p (map variable_of names) row → IsTermRow D q names row
  row_there row h =
      let m : Mapping = h.0 in
      let kept = keeps.back m ((solution_along g (StandsIn triples) same p m).1 h.1) in
      (kept.0, kept.1, h.2 ∙ agreeing_row m kept.0 kept.2 names)

  row_back : (row : TermRow) → IsTermRow D q names row → IsSolutionRow triples p (map variable_of names) row
  row_back row h =
      let w : Tuple = h.0 in
      let inside : IsWithin names w = within_list (HasAttribute D.tables q) (IsTuple D q) names are.exact (within D q formed.faultless) w h.1 in
      let m : Mapping = image names w in
      let agrees : Agrees m w = image_agrees names w inside in
      (m, (solution_along g (StandsIn triples) same p m).0 (keeps.forth m w h.1 agrees), h.2 ∙ sym (agreeing_row m w agrees names))

  pub same_rows : (row : TermRow) → IsSolutionRow triples p (map variable_of names) row ↔ IsTermRow D q names row
  same_rows row = (row_there row, row_back row)

  pub kept_lines : (text : List ℕ) → AreSolutionLines triples p (map variable_of names) text ↔ AreQueryLines D q text
  kept_lines text = (there, back)
    where
      there : AreSolutionLines triples p (map variable_of names) text → AreQueryLines D q text
      there h = record {
        names = names;
        attributes = are;
        lines = lines_along (map variable_of names) (IsSolutionRow triples p (map variable_of names)) (IsTermRow D q names) same_rows text h;
      }

      back : AreQueryLines D q text → AreSolutionLines triples p (map variable_of names) text
      back h =
          let one : h.names ≡ names = lists_unique (HasAttribute D.tables q) h.names names h.attributes are in
          let lines : AreLinesOf (map variable_of names) (IsTermRow D q names) text = subst (λ (ns : List Name). AreLinesOf (map variable_of ns) (IsTermRow D q ns) text) one h.lines in
          lines_along (map variable_of names) (IsTermRow D q names) (IsSolutionRow triples p (map variable_of names)) (λ row. (row_back row, row_there row)) text lines
