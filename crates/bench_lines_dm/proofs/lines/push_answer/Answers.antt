use Rattle.std.proofs.Common.{◌≡◌, ◌∙◌, codes}
use Rattle.std.proofs.lemmas.List.{append_assoc}
use Rattle.bench_lines_dm.proofs.lines.push_answer.Goals as goal

pub returns : goal.returns
returns c =
    let word : c.word_of.result.now ≡ codes "equal" = c.word_of.ensures c.requires in
    c.in_ok-push_str-3.ensures.bytes ∙ rw (c.in_ok-push_str-2.ensures.bytes, c.in_ok-push_str.ensures.bytes, c.in_ok-push_labelled.ensures, word) (simp append_assoc)
