use Rattle.std.proofs.Common.{sym, ◌∙◌}
use Rattle.std.proofs.lemmas.Bool.{false≢true}
use Rattle.value_dm.proofs.Fronts.{date_onto, date_bounds, three_same}
use Rattle.value_dm.proofs.calendar_text.take_date.Goals as goal

pub returns-in-None : goal.returns-in-None
returns-in-None c =
    λ d rest e.
    let h = c.in-Some.ensures in
    let low = date_bounds d in
    let same = three_same 4 45 _ _ _ _ _ _ _ _ h.0 h.1 h.2 low.0 low.1 low.2 (sym h.3 ∙ e ∙ date_onto d rest) in
    false≢true (c.in-None.ensures.exists.1 (rw (same.first, same.second, same.third) d.exists))
