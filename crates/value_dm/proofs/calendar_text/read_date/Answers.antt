use Rattle.std.proofs.Common.{List, [], ℕ, length, sym, ◌∙◌, ap, arith, append-nil}
use Rattle.value_dm.specs.Lexical.{date_text}
use Rattle.value_dm.proofs.Fronts.{date_onto, date_bounds, three_same}
use Rattle.value_dm.proofs.calendar_text.read_date.Goals as goal

pub returns-in_default : goal.returns-in_default
returns-in_default c = λ d e. c.in_default.ensures d [] (e ∙ sym (append-nil (date_text d)))

pub returns-then-rest-gt0 : goal.returns-then-rest-gt0
returns-then-rest-gt0 c =
    λ d e.
    let own = date_bounds c.in-Some.date in
    let low = date_bounds d in
    let same = three_same 4 45 _ _ _ _ _ _ _ _ own.0 own.1 own.2 low.0 low.1 low.2
    (sym (date_onto c.in-Some.date _) ∙ sym c.in-Some.ensures ∙ e ∙ sym (append-nil (date_text d)) ∙ date_onto d []) in
    let none = ap (λ (x : List ℕ). length x) same.after in
    omega arith
