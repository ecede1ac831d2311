use Rattle.std.proofs.Common.{List, ℕ, ◌∙◌, sym, subst}
use Rattle.std.proofs.lemmas.Bool.{false≢true}
use Rattle.value_dm.specs.Spelling.{SpellsFraction}
use Rattle.value_dm.proofs.Fronts.{clock_onto, clock_bounds, three_same}
use Rattle.value_dm.proofs.Times.{fraction_one}
use Rattle.value_dm.proofs.calendar_text.read_time.Goals as goal

pub returns-in_default-read_nanoseconds : goal.returns-in_default-read_nanoseconds
returns-in_default-read_nanoseconds c =
    λ t spelled.
    let h = c.in-Some.ensures in
    let low = clock_bounds t in
    let same = three_same 2 58 _ _ _ _ _ _ _ spelled.rest h.0 h.1 h.2 low.0 low.1 low.2 (sym h.3 ∙ spelled.text ∙ clock_onto t spelled.rest) in
    let P : List ℕ → Type 0 = λ r. SpellsFraction r t.nanosecond in
    c.in_default-read_nanoseconds.ensures t.nanosecond (subst P (sym same.after) spelled.fraction)

pub returns-in-None : goal.returns-in-None
returns-in-None c =
    λ t spelled.
    let h = c.in-Some.ensures in
    let low = clock_bounds t in
    let same = three_same 2 58 _ _ _ _ _ _ _ spelled.rest h.0 h.1 h.2 low.0 low.1 low.2 (sym h.3 ∙ spelled.text ∙ clock_onto t spelled.rest) in
    let P : List ℕ → Type 0 = λ r. SpellsFraction r t.nanosecond in
    let nanosecond = fraction_one _ _ t.nanosecond c.in-Some-read_nanoseconds.ensures (subst P (sym same.after) spelled.fraction) in
    false≢true (c.in-None.ensures.exists.1 (rw (same.first, same.second, same.third, nanosecond) t.exists))
