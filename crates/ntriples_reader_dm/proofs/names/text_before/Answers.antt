use Rattle.std.proofs.Common.{◌≡◌, ◌∙◌, ◌++◌, List, ℕ, ap, Result, Ok, Err, chars}
use Rattle.std.specs.Prelude.{IfOk}
use Rattle.ntriples_reader_dm.proofs.Behind.{rest_fits, rest_place, text_in_front}
use Rattle.ntriples_reader_dm.proofs.names.text_before.Goals as goal

pub split_at-requires : goal.split_at-requires
split_at-requires c = rest_place c.args.text.now c.args.rest.now c.utf8.text c.utf8.rest c.requires

made : {E : Type 0} (r : Result (List ℕ) E) (front rest text : List ℕ) → IfOk r (λ t. t ≡ front) → front ++ rest ≡ text → IfOk r (λ t. t ++ rest ≡ text)
made (Ok t) front rest text e w = ap (λ us. us ++ rest) e ∙ w
made (Err e) front rest text h w = tt

pub returns : goal.returns
returns c =
    made c.from_str.result (chars c.split_at.result.0.now) (chars c.args.rest.now) (chars c.args.text.now) c.from_str.ensures.chars
    (text_in_front c.args.text.now c.args.rest.now c.split_at.result.0.now c.utf8.text c.utf8.rest c.requires c.split_at.ensures.front)

pub overflow_sub-text : goal.overflow_sub-text
overflow_sub-text c = rest_fits c.args.text.now c.args.rest.now c.utf8.text c.utf8.rest c.requires
