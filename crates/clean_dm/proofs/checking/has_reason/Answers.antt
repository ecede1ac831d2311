use Rattle.std.proofs.Common.{◌≡◌, true, false}
use Rattle.clean_dm.proofs.checking.has_reason.Goals as goal

pub returns-in-None : goal.returns-in-None
returns-in-None c = ((λ h. absurd (let no : false ≡ true = h in cc)), (λ h. absurd (c.in-None.ensures.none h.t h.i h.of_row h.is_row)))
