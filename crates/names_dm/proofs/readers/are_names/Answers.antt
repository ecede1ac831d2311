use Rattle.std.proofs.Common.{◌≡◌, ◌≤◌, length, take}
use Rattle.std.proofs.lemmas.List.{take_all}
use Rattle.names_dm.proofs.Read.{are_names-from_loop}
use Rattle.names_dm.proofs.readers.are_names.Goals as goal

pub returns : goal.returns
returns c =
    let texts = c.args.texts.now in
    let past : length texts ≤ c.loop-text.text-index = rw c.as_slice-text-items.ensures at c.loop-text-test.false in
    let all : take c.loop-text.text-index texts ≡ texts = take_all c.loop-text.text-index texts past in
    rw (c.loop-text.invariant, all, c.len.ensures) (are_names-from_loop texts)
