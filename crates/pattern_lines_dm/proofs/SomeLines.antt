-- Each pattern over triples has a text of lines.
use Rattle.std.proofs.Common.{ℕ, List, map, subst, sym}
use Rattle.std.specs.Prelude.{◌↔◌}
use Rattle.members_dm.specs.Membership.{IsIn}
use Rattle.members_dm.proofs.MembershipLemmas.{map-IsIn}
use Rattle.names_dm.specs.Statements.{Statement}
use Rattle.pattern_dm.specs.Mappings.{Mapping}
use Rattle.pattern_dm.specs.declared.pattern.Pattern.{Pattern}
use Rattle.query_lines_dm.specs.Lines.{TermRow}
use Rattle.query_lines_dm.proofs.Choices.{chosen}
use Rattle.query_lines_dm.proofs.SomeLines.{lines_some}
use Rattle.pattern_lines_dm.specs.Lines.{AreSolutionLines, IsSolutionRow}
use Rattle.pattern_lines_dm.proofs.Candidates.{Bound, bound}

module _ (triples : List Statement) (p : Pattern) (header : List (List ℕ)) where
  under : Mapping → TermRow
  under m = map m header

  rows_some : ¬ ((rows : List TermRow) → ¬ ((row : TermRow) → IsIn row rows ↔ IsSolutionRow triples p header row))
  unfolding under
  rows_some =
      let all : Bound triples p = bound triples p in
      chosen (IsSolutionRow triples p header) (map under all.mappings) (λ row h. subst (λ (r : TermRow). IsIn r (map under all.mappings)) (sym h.2) (map-IsIn under h.0 all.mappings (all.all h.0 h.1)))

  pub solution_lines_some : ¬ ((text : List ℕ) → ¬ AreSolutionLines triples p header text)
  solution_lines_some = lines_some header (IsSolutionRow triples p header) rows_some
