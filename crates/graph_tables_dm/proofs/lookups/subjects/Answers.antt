use Rattle.std.proofs.Common.{◌≡◌, ◌∙◌, ℕ, List, ap, map, map-id, sym, subst}
use Rattle.std.proofs.lemmas.Iterator.Consumers.{YieldsList-end, YieldsList-from_first}
use Rattle.store_dm.specs.Turns.{matches_left}
use Rattle.roles_dm.specs.Numbers.{HasNumbers}
use Rattle.graph_tables_dm.specs.Listed.{ListsOnce}
use Rattle.graph_tables_dm.proofs.LoopLemmas.{subjects_listed}
use Rattle.graph_tables_dm.proofs.lookups.subjects.Goals as goal

pub returns : goal.returns
returns c =
    let g = c.args.graph.now in
    let left : List (ℕ × ℕ × ℕ) = matches_left c.find-subject-items.result in
    let same : matches_left c.into_iter-subject-iterator.result ≡ left = ap matches_left c.into_iter-subject-iterator.ensures.into_iter_gives in
    let end = YieldsList-end (YieldsList-from_first (λ (x : ℕ × ℕ × ℕ). x) matches_left {s = c.into_iter-subject-iterator.result} left same) c.loop-subject.yielded c.loop-subject.subject-iterator c.loop-subject.yielded_by c.next.result c.next.new.self c.in-None.is
    c.next.ensures.steps in
    let all : c.loop-subject.yielded ≡ left = sym (map-id c.loop-subject.yielded) ∙ end.0 in
    let is : c.loop-subject.found.items ≡ map (λ (x : ℕ × ℕ × ℕ). x.0) left = c.loop-subject.invariant ∙ ap (λ (xs : List (ℕ × ℕ × ℕ)). map (λ (x : ℕ × ℕ × ℕ). x.0) xs) all in
    subst (λ (xs : List ℕ). ListsOnce (λ s. HasNumbers g s c.args.predicate c.args.object) xs) (sym is)
    (subjects_listed g c.len-count.ensures.lawful left c.find-subject-items.ensures.once c.args.predicate c.args.object c.if-predicate-eq0.false c.if-object-eq0.false c.find-subject-items.ensures.exact)
