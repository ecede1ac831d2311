use Rattle.std.proofs.Common.{◌≡◌, [], ◌∷◌, ◌++◌, sym, ap, chars, string_bytes}
use Rattle.ddl_tokens_dm.specs.Tokens.{doubled}
use Rattle.ddl_dm.proofs.Writing.{adds_along, adds_then, doubled-append, all_yielded}
use Rattle.ddl_dm.proofs.canonical.push_characters.Goals as goal

pub loop-character-preserved : goal.loop-character-preserved
loop-character-preserved c =
    let so_far = c.loop-character.yielded in
    let one = c.in-Some.character in
    let first = string_bytes c.args.text.now in
    let new = string_bytes c.push_doubled.new.text in
    adds_along first new (doubled so_far ++ doubled (one ∷ [])) (doubled (so_far ++ one ∷ [])) (sym (doubled-append so_far (one ∷ [])))
    (adds_then first (string_bytes c.loop-character.text) new (doubled so_far) (doubled (one ∷ [])) c.loop-character.invariant c.in_ok-push_doubled.ensures)

pub returns : goal.returns
returns c =
    let all : c.loop-character.yielded ≡ chars c.args.characters.now = all_yielded _ c.utf8.characters _ (cc) c.loop-character.yielded _ c.loop-character.yielded_by _ _ c.in-None.is c.next.ensures.steps in
    adds_along (string_bytes c.args.text.now) (string_bytes c.loop-character.text) _ _ (ap doubled all) c.loop-character.invariant
