use Rattle.std.proofs.Common.{◌∙◌, sym}
use Rattle.clean_dm.specs.RowSets.{Has}
use Rattle.clean_dm.proofs.row_set.RowSet.has.Goals as goal

pub returns : goal.returns
unfolding Has
returns c = ((λ h. sym c.contains.ensures ∙ h), (λ h. c.contains.ensures ∙ h))
