use Rattle.std.proofs.Common.{◌≡◌, ◌+◌, ◌∙◌, Some, None, option_map, position, drop, ap, arith}
use Rattle.lanes_dm.specs.ByteSet.{has_byte}
use Rattle.lanes_dm.proofs.Searches.{first_in_chunk, none_in_chunk, position-drop, tail_whole}
use Rattle.lanes_dm.proofs.bytes.first_of.Goals as goal

pub wide-preserved : goal.wide-preserved
wide-preserved c = (omega arith, none_in_chunk (has_byte c.args.class.now) c.args.bytes.now c.wide.at 32 c.marks-marks.result (omega arith) c.marks-marks.ensures c.if-marks-ne0.false c.wide.invariant.1)

pub returns-then-marks-ne0 : goal.returns-then-marks-ne0
returns-then-marks-ne0 c = first_in_chunk (has_byte c.args.class.now) c.args.bytes.now c.wide.at c.marks-marks.result (omega arith) c.marks-marks.ensures (omega arith) c.wide.invariant.1

pub returns-in_err-after : goal.returns-in_err-after
returns-in_err-after c =
    let bytes = c.args.bytes.now in
    let at = c.wide.at in
    let p = has_byte c.args.class.now in
    let none : option_map (λ i. at + i) None ≡ option_map (λ i. at + i) (position p (drop at bytes)) = ap (option_map (λ i. at + i)) (c.in_err-after.ensures ∙ ap (position p) (tail_whole bytes at)) in
    c.from_residual.ensures ∙ none ∙ position-drop p bytes at c.wide.invariant.0 c.wide.invariant.1

pub returns : goal.returns
returns c =
    let bytes = c.args.bytes.now in
    let at = c.wide.at in
    let p = has_byte c.args.class.now in
    let some : option_map (λ i. at + i) (Some c.in_ok-after.after) ≡ option_map (λ i. at + i) (position p (drop at bytes)) = ap (option_map (λ i. at + i)) (c.in_ok-after.ensures ∙ ap (position p) (tail_whole bytes at)) in
    some ∙ position-drop p bytes at c.wide.invariant.0 c.wide.invariant.1
