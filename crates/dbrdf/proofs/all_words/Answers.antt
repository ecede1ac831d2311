use Rattle.std.proofs.Common.{◌∙◌, sym, ap, append-nil, List, ◌++◌, [], ◌∷◌, String, Global}
use Rattle.std.proofs.lemmas.List.{append_assoc, nil_from_length}
use Rattle.std.specs.Vec.Iter.{into_iter_items}
use Rattle.dbrdf.proofs.all_words.Goals as goal

pub returns : goal.returns
returns c =
    let none = nil_from_length (into_iter_items c.loop-word.word-iterator) (sym c.loop-word.word-iterator.rest.ok.0 ∙ c.in-None.ensures.steps.0) in
    sym (append-nil c.loop-word.all.items) ∙ ap (λ (rest : List (String Global)). c.loop-word.all.items ++ rest) (sym none) ∙ c.loop-word.invariant

pub loop-word-preserved : goal.loop-word-preserved
loop-word-preserved c =
    ap (λ (front : List (String Global)). front ++ into_iter_items c.next.new.self) c.in_ok-push.ensures.items
    ∙ append_assoc c.loop-word.all.items (c.in-Some.word ∷ []) (into_iter_items c.next.new.self)
    ∙ ap (λ (rest : List (String Global)). c.loop-word.all.items ++ rest) (sym c.in-Some.ensures.steps.0)
    ∙ c.loop-word.invariant
