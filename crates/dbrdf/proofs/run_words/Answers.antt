use Rattle.std.specs.Prelude.{map, string_bytes, drop, List, String, ◌≡◌}
use Rattle.std.specs.Vec.Iter.{into_iter_items}
use Rattle.std.proofs.Common.{◌∙◌, ap, sym, inl, Global}
use Rattle.std.proofs.lemmas.List.{drop-map}
use Rattle.dbrdf.proofs.Running.{ran_same}
use Rattle.dbrdf.proofs.run_words.Goals as goal

pub returns-in-Ok-all_words : goal.returns-in-Ok-all_words
returns-in-Ok-all_words g c =
    let taken : c.behind_name.result.now ≡ drop 1 (into_iter_items c.in-Ok.words) =
    c.behind_name.ensures ∙ ap (λ (words : List (String Global)). drop 1 words) (c.as_slice.ensures.value ∙ c.in-Ok-all_words.ensures) in
    let same : map string_bytes c.behind_name.result.now ≡ drop 1 (map string_bytes (into_iter_items c.in-Ok.words)) =
    ap (λ (words : List (String Global)). map string_bytes words) taken ∙ sym (drop-map string_bytes 1 (into_iter_items c.in-Ok.words)) in
    rw c.in-Ok.is (inl (ran_same _ _ _ _ _ same c.run_command.ensures))
