use Rattle.std.proofs.Common.{sym, ◌∙◌, arith}
use Rattle.std.proofs.lemmas.Bool.{false≢true}
use Rattle.value_dm.proofs.Times.{date_time_empty, date_time_other, date_time_no_time, date_time_made}
use Rattle.value_dm.proofs.calendar_text.read_date_time.Goals as goal

pub returns-then-rest-eq0 : goal.returns-then-rest-eq0
returns-then-rest-eq0 c = date_time_empty _ _ c.in-Some.date c.in-Some.ensures (omega arith)

pub returns-then-not-is_separator : goal.returns-then-not-is_separator
returns-then-not-is_separator c =
    date_time_other _ _ c.in-Some.date c.in-Some.ensures (λ is. false≢true (sym c.if-not-is_separator.true ∙ c.is_separator.ensures.1 is))

pub returns-in-Some-read_time : goal.returns-in-Some-read_time
returns-in-Some-read_time c =
    date_time_made _ _ _ c.in-Some.ensures (omega arith) (c.is_separator.ensures.0 c.if-not-is_separator.false) c.in-Some-read_time.ensures

pub returns-in-None : goal.returns-in-None
returns-in-None c = date_time_no_time _ _ c.in-Some.date c.in-Some.ensures c.in-None.ensures
