use Rattle.std.proofs.Common.{◌≡◌, ◌∙◌, ℕ, List, ap, map, map-id, sym, subst}
use Rattle.std.proofs.lemmas.Iterator.Consumers.{YieldsList-end, YieldsList-from_first}
use Rattle.store_dm.specs.Turns.{matches_left}
use Rattle.roles_dm.specs.Numbers.{HasNumbers}
use Rattle.graph_tables_dm.specs.Listed.{ListsOnce}
use Rattle.graph_tables_dm.proofs.LoopLemmas.{pairs_listed}
use Rattle.graph_tables_dm.proofs.lookups.pairs.Goals as goal

pub returns : goal.returns
returns c =
    let g = c.args.graph.now in
    let left : List (ℕ × ℕ × ℕ) = matches_left c.find-subject-items.result in
    let same : matches_left c.into_iter-subject-iterator.result ≡ left = ap matches_left c.into_iter-subject-iterator.ensures.into_iter_gives in
    let end = YieldsList-end (YieldsList-from_first (λ (x : ℕ × ℕ × ℕ). x) matches_left {s = c.into_iter-subject-iterator.result} left same) c.loop-subject.yielded c.loop-subject.subject-iterator c.loop-subject.yielded_by c.next.result c.next.new.self c.in-None.is
    c.next.ensures.steps in
    let all : c.loop-subject.yielded ≡ left = sym (map-id c.loop-subject.yielded) ∙ end.0 in
    let is : c.loop-subject.found.items ≡ map {A = ℕ × ℕ × ℕ} {B = ℕ × ℕ} (λ x. (x.0, x.2)) left = c.loop-subject.invariant ∙ ap (λ (xs : List (ℕ × ℕ × ℕ)). map {A = ℕ × ℕ × ℕ} {B = ℕ × ℕ} (λ x. (x.0, x.2)) xs) all in
    subst (λ (xs : List (ℕ × ℕ)). ListsOnce {X = ℕ × ℕ} (λ z. HasNumbers g z.0 c.args.predicate z.1) xs) (sym is)
    (pairs_listed g c.len-count.ensures.lawful left c.find-subject-items.ensures.once c.args.predicate c.if-predicate-eq0.false c.find-subject-items.ensures.exact)
