-- A pattern over triples has one text of lines.
use Rattle.std.proofs.Common.{◌≡◌, ℕ, List}
use Rattle.names_dm.specs.Statements.{Statement}
use Rattle.pattern_dm.specs.declared.pattern.Pattern.{Pattern}
use Rattle.query_lines_dm.proofs.OneText.{lines_one}
use Rattle.pattern_lines_dm.specs.Lines.{AreSolutionLines, IsSolutionRow}

pub solution_lines_one : (triples : List Statement) (p : Pattern) (header : List (List ℕ)) (text other : List ℕ) → AreSolutionLines triples p header text → AreSolutionLines triples p header other → text ≡ other
solution_lines_one triples p header = lines_one header (IsSolutionRow triples p header)
