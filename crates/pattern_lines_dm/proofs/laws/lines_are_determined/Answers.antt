use Rattle.pattern_lines_dm.specs.Lines.{StandsIn}
use Rattle.pattern_lines_dm.proofs.KeptLines.{kept_lines}
use Rattle.pattern_lines_dm.proofs.OneText.{solution_lines_one}
use Rattle.pattern_lines_dm.proofs.SomeLines.{solution_lines_some}
use Rattle.pattern_lines_dm.proofs.laws.lines_are_determined.Goals as goal

pub returns-clause-one : goal.returns-clause-one
returns-clause-one c = solution_lines_one

pub returns-clause-some : goal.returns-clause-some
returns-clause-some c = solution_lines_some

pub returns-clause-kept : goal.returns-clause-kept
returns-clause-kept c = λ D q triples p names text formed keeps are. kept_lines D q formed triples (StandsIn triples) (λ t. ((λ h. h), (λ h. h))) p keeps names are text
