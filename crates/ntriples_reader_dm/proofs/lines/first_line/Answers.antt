use Rattle.std.proofs.Common.{◌∙◌, ◌∷◌, ◌<◌, ◌-◌, List, ℕ, sym, ap, subst, length, take, drop, arith, eqb, length-drop, length-take}
use Rattle.std.proofs.lemmas.Bool.{eqb-true, eq-eqb}
use Rattle.std.proofs.lemmas.List.Quantifiers.{position-Some}
use Rattle.lanes_dm.specs.ByteSet.{has_byte}
use Rattle.ntriples_reader_dm.specs.Lines.{is_end, lines}
use Rattle.ntriples_reader_dm.proofs.Exact.{true_false}
use Rattle.ntriples_reader_dm.proofs.Cuts.{cut_found, uncut, no_lines, same_position, behind_short_at}
use Rattle.ntriples_reader_dm.proofs.lines.first_line.Goals as goal

pub returns-then-is_empty-clause-lines : goal.returns-then-is_empty-clause-lines
returns-then-is_empty-clause-lines c = no_lines c.args.bytes.now (eqb-true (length c.args.bytes.now) 0 (sym c.if-is_empty.ensures))

pub returns-in-Some-clause-lines : goal.returns-in-Some-clause-lines
returns-in-Some-clause-lines c =
    cut_found c.args.bytes.now c.in-Some.place (sym (c.in-Some.ensures ∙ same_position (has_byte c.args.class.now) is_end c.requires c.args.bytes.now))
    ∙ ap (λ (us : List ℕ). take c.in-Some.place c.args.bytes.now ∷ lines us) (sym c.behind_end.ensures)

pub returns-in-Some-clause-shorter : goal.returns-in-Some-clause-shorter
returns-in-Some-clause-shorter c =
    let h = position-Some (has_byte c.args.class.now) c.args.bytes.now c.in-Some.place 0 (sym c.in-Some.ensures) in
    let left = length-drop c.in-Some.place c.args.bytes.now in
    let some : 0 < length (drop c.in-Some.place c.args.bytes.now) = omega (arith, h.0, left) in
    let short = behind_short_at (drop c.in-Some.place c.args.bytes.now) some in
    subst (λ (us : List ℕ). length us < length c.args.bytes.now) (sym c.behind_end.ensures) (omega (arith, left, short))

pub returns-in-None-clause-lines : goal.returns-in-None-clause-lines
returns-in-None-clause-lines c =
    uncut c.args.bytes.now (λ e. true_false (eqb (length c.args.bytes.now) 0) (eq-eqb (length c.args.bytes.now) 0 e) (sym c.if-is_empty.ensures))
    (sym (c.in-None.ensures ∙ same_position (has_byte c.args.class.now) is_end c.requires c.args.bytes.now))
    ∙ ap (λ (ls : List (List ℕ)). c.args.bytes.now ∷ ls) (sym (no_lines (take (length c.args.bytes.now - length c.args.bytes.now) (drop (length c.args.bytes.now) c.args.bytes.now))
    (omega (arith, length-take (length c.args.bytes.now - length c.args.bytes.now) (drop (length c.args.bytes.now) c.args.bytes.now)))))
