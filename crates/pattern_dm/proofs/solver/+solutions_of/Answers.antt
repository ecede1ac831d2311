use Rattle.std.proofs.Common.{◌≡◌, ◌⊎◌, ℕ, List, None, true, rules, subst, sym}
use Rattle.std.proofs.lemmas.Result.{IfOk-weaker}
use Rattle.names_dm.specs.declared.term.Term.{Term}
use Rattle.solutions_dm.specs.Table.{Table}
use Rattle.store_dm.specs.Terms.{AreOneToOne}
use Rattle.pattern_dm.specs.declared.pattern.Pattern.{Pattern}
use Rattle.pattern_dm.specs.Operators.{Join, LeftJoin, Minus, Select}
use Rattle.pattern_dm.specs.Says.{Says}
use Rattle.pattern_dm.specs.Solved.{AreNumbers, HasSolution, IsOutcome, IsSolved}
use Rattle.pattern_dm.specs.declared.pattern.Pattern.{the_lemmas}
use Rattle.pattern_dm.specs.Formed.{IsWellFormed}
use Rattle.pattern_dm.proofs.Layers.{formed_and, formed_left, formed_union, formed_minus, formed_filter, formed_select}
use Rattle.pattern_dm.proofs.Solving.{and_solved, left_solved, union_solved, minus_solved, filter_solved, select_solved}
use Rattle.pattern_dm.proofs.solver.+solutions_of.Goals as goal

pub returns-in_ok-right-in-And : goal.returns-in_ok-right-in-And
returns-in_ok-right-in-And t c =
    let g = c.args.graph.now in
    let left = c.in_ok-left-in-And.left in
    let right = c.in_ok-right-in-And.right in
    let hp : IsSolved g c.in-And.left left = subst (λ (p : Pattern). IsSolved g p left) c.get.ensures c.in_ok-left-in-And.ensures in
    let hq : IsSolved g c.in-And.right right = subst (λ (p : Pattern). IsSolved g p right) c.get-in-And.ensures c.in_ok-right-in-And.ensures in
    IfOk-weaker c.joined.result (λ (s : Table). (terms : List Term) → AreOneToOne terms → AreNumbers terms left → AreNumbers terms right → IsOutcome terms (Join (HasSolution terms left) (HasSolution terms right)) s) (λ (s : Table). IsSolved g c.args.pattern.now s)
    (λ s h. subst (λ (p : Pattern). IsSolved g p s) (sym c.in-And.is) (and_solved g c.in-And.left c.in-And.right left right s hp hq (h g.terms c.requires.lawful.apart hp.numbers hq.numbers)))
    c.joined.ensures

pub returns-in_ok-right-in-LeftJoin : goal.returns-in_ok-right-in-LeftJoin
returns-in_ok-right-in-LeftJoin t c =
    let g = c.args.graph.now in
    let left = c.in_ok-left-in-LeftJoin.left in
    let right = c.in_ok-right-in-LeftJoin.right in
    let hp : IsSolved g c.in-LeftJoin.left left = subst (λ (p : Pattern). IsSolved g p left) c.get-in-LeftJoin.ensures c.in_ok-left-in-LeftJoin.ensures in
    let hq : IsSolved g c.in-LeftJoin.right right = subst (λ (p : Pattern). IsSolved g p right) c.get-in-LeftJoin-2.ensures c.in_ok-right-in-LeftJoin.ensures in
    IfOk-weaker c.left_joined.result (λ (s : Table). IsOutcome g.terms (LeftJoin (HasSolution g.terms left) (HasSolution g.terms right) c.in-LeftJoin.condition) s) (λ (s : Table). IsSolved g c.args.pattern.now s)
    (λ s h. subst (λ (p : Pattern). IsSolved g p s) (sym c.in-LeftJoin.is) (left_solved g c.in-LeftJoin.left c.in-LeftJoin.right left right s hp hq c.in-LeftJoin.condition h))
    c.left_joined.ensures

pub returns-in_ok-right-in-Union : goal.returns-in_ok-right-in-Union
returns-in_ok-right-in-Union t c =
    let g = c.args.graph.now in
    let left = c.in_ok-left-in-Union.left in
    let right = c.in_ok-right-in-Union.right in
    let hp : IsSolved g c.in-Union.left left = subst (λ (p : Pattern). IsSolved g p left) c.get-in-Union.ensures c.in_ok-left-in-Union.ensures in
    let hq : IsSolved g c.in-Union.right right = subst (λ (p : Pattern). IsSolved g p right) c.get-in-Union-2.ensures c.in_ok-right-in-Union.ensures in
    IfOk-weaker c.either.result (λ (s : Table). (terms : List Term) → AreNumbers terms left → AreNumbers terms right → IsOutcome terms (λ m. HasSolution terms left m ⊎ HasSolution terms right m) s) (λ (s : Table). IsSolved g c.args.pattern.now s)
    (λ s h. subst (λ (p : Pattern). IsSolved g p s) (sym c.in-Union.is) (union_solved g c.in-Union.left c.in-Union.right left right s hp hq (h g.terms hp.numbers hq.numbers)))
    c.either.ensures

pub returns-in_ok-right-in-Minus : goal.returns-in_ok-right-in-Minus
returns-in_ok-right-in-Minus t c =
    let g = c.args.graph.now in
    let left = c.in_ok-left-in-Minus.left in
    let right = c.in_ok-right-in-Minus.right in
    let hp : IsSolved g c.in-Minus.left left = subst (λ (p : Pattern). IsSolved g p left) c.get-in-Minus.ensures c.in_ok-left-in-Minus.ensures in
    let hq : IsSolved g c.in-Minus.right right = subst (λ (p : Pattern). IsSolved g p right) c.get-in-Minus-2.ensures c.in_ok-right-in-Minus.ensures in
    IfOk-weaker c.without.result (λ (s : Table). (terms : List Term) → AreOneToOne terms → AreNumbers terms left → AreNumbers terms right → IsOutcome terms (Minus (HasSolution terms left) (HasSolution terms right)) s) (λ (s : Table). IsSolved g c.args.pattern.now s)
    (λ s h. subst (λ (p : Pattern). IsSolved g p s) (sym c.in-Minus.is) (minus_solved g c.in-Minus.left c.in-Minus.right left right s hp hq (h g.terms c.requires.lawful.apart hp.numbers hq.numbers)))
    c.without.ensures

pub returns-in_ok-rows-in-Filter : goal.returns-in_ok-rows-in-Filter
returns-in_ok-rows-in-Filter t c =
    let g = c.args.graph.now in
    let rows = c.in_ok-rows-in-Filter.rows in
    let hp : IsSolved g c.in-Filter.part rows = subst (λ (p : Pattern). IsSolved g p rows) c.get-in-Filter.ensures c.in_ok-rows-in-Filter.ensures in
    IfOk-weaker c.filtered.result (λ (s : Table). IsOutcome g.terms (λ m. HasSolution g.terms rows m × Says c.in-Filter.condition true m) s) (λ (s : Table). IsSolved g c.args.pattern.now s)
    (λ s h. subst (λ (p : Pattern). IsSolved g p s) (sym c.in-Filter.is) (filter_solved g c.in-Filter.part rows s hp c.in-Filter.condition h))
    c.filtered.ensures

pub returns-in_ok-rows-in-Select : goal.returns-in_ok-rows-in-Select
returns-in_ok-rows-in-Select t c =
    let g = c.args.graph.now in
    let rows = c.in_ok-rows-in-Select.rows in
    let hp : IsSolved g c.in-Select.part rows = subst (λ (p : Pattern). IsSolved g p rows) c.get-in-Select.ensures c.in_ok-rows-in-Select.ensures in
    IfOk-weaker c.selected.result (λ (s : Table). (terms : List Term) → AreNumbers terms rows → IsOutcome terms (Select (HasSolution terms rows) c.in-Select.renames) s) (λ (s : Table). IsSolved g c.args.pattern.now s)
    (λ s h. subst (λ (p : Pattern). IsSolved g p s) (sym c.in-Select.is) (select_solved g c.in-Select.part rows s hp c.in-Select.renames (h g.terms hp.numbers)))
    c.selected.ensures

pub solutions_of-requires : goal.solutions_of-requires
solutions_of-requires t c =
    (search (rules, the_lemmas), (subst IsWellFormed (sym c.get.ensures) ((formed_and c.in-And.left c.in-And.right).0 (subst IsWellFormed c.in-And.is c.requires.formed)).0, c.requires.lawful))

pub solutions_of-requires-in-And : goal.solutions_of-requires-in-And
solutions_of-requires-in-And t c =
    (search (rules, the_lemmas), (subst IsWellFormed (sym c.get-in-And.ensures) ((formed_and c.in-And.left c.in-And.right).0 (subst IsWellFormed c.in-And.is c.requires.formed)).1, c.requires.lawful))

pub solutions_of-requires-in-LeftJoin : goal.solutions_of-requires-in-LeftJoin
solutions_of-requires-in-LeftJoin t c =
    (search (rules, the_lemmas), (subst IsWellFormed (sym c.get-in-LeftJoin.ensures) ((formed_left c.in-LeftJoin.left c.in-LeftJoin.right c.in-LeftJoin.condition).0 (subst IsWellFormed c.in-LeftJoin.is c.requires.formed)).0, c.requires.lawful))

pub solutions_of-requires-in-LeftJoin-2 : goal.solutions_of-requires-in-LeftJoin-2
solutions_of-requires-in-LeftJoin-2 t c =
    (search (rules, the_lemmas), (subst IsWellFormed (sym c.get-in-LeftJoin-2.ensures) ((formed_left c.in-LeftJoin.left c.in-LeftJoin.right c.in-LeftJoin.condition).0 (subst IsWellFormed c.in-LeftJoin.is c.requires.formed)).1, c.requires.lawful))

pub solutions_of-requires-in-Union : goal.solutions_of-requires-in-Union
solutions_of-requires-in-Union t c =
    (search (rules, the_lemmas), (subst IsWellFormed (sym c.get-in-Union.ensures) ((formed_union c.in-Union.left c.in-Union.right).0 (subst IsWellFormed c.in-Union.is c.requires.formed)).0, c.requires.lawful))

pub solutions_of-requires-in-Union-2 : goal.solutions_of-requires-in-Union-2
solutions_of-requires-in-Union-2 t c =
    (search (rules, the_lemmas), (subst IsWellFormed (sym c.get-in-Union-2.ensures) ((formed_union c.in-Union.left c.in-Union.right).0 (subst IsWellFormed c.in-Union.is c.requires.formed)).1, c.requires.lawful))

pub solutions_of-requires-in-Minus : goal.solutions_of-requires-in-Minus
solutions_of-requires-in-Minus t c =
    (search (rules, the_lemmas), (subst IsWellFormed (sym c.get-in-Minus.ensures) ((formed_minus c.in-Minus.left c.in-Minus.right).0 (subst IsWellFormed c.in-Minus.is c.requires.formed)).0, c.requires.lawful))

pub solutions_of-requires-in-Minus-2 : goal.solutions_of-requires-in-Minus-2
solutions_of-requires-in-Minus-2 t c =
    (search (rules, the_lemmas), (subst IsWellFormed (sym c.get-in-Minus-2.ensures) ((formed_minus c.in-Minus.left c.in-Minus.right).0 (subst IsWellFormed c.in-Minus.is c.requires.formed)).1, c.requires.lawful))

pub solutions_of-requires-in-Filter : goal.solutions_of-requires-in-Filter
solutions_of-requires-in-Filter t c =
    (search (rules, the_lemmas), (subst IsWellFormed (sym c.get-in-Filter.ensures) ((formed_filter c.in-Filter.part c.in-Filter.condition).0 (subst IsWellFormed c.in-Filter.is c.requires.formed)), c.requires.lawful))

pub solutions_of-requires-in-Select : goal.solutions_of-requires-in-Select
solutions_of-requires-in-Select t c =
    (search (rules, the_lemmas), (subst IsWellFormed (sym c.get-in-Select.ensures) ((formed_select c.in-Select.part c.in-Select.renames).0 (subst IsWellFormed c.in-Select.is c.requires.formed)).0, c.requires.lawful))

pub selected-requires : goal.selected-requires
selected-requires t c = ((formed_select c.in-Select.part c.in-Select.renames).0 (subst IsWellFormed c.in-Select.is c.requires.formed)).1.1

pub returns-in-Empty : goal.returns-in-Empty
returns-in-Empty t c =
    let g = c.args.graph.now in
    IfOk-weaker c.empty.result (λ (s : Table). (terms : List Term) → IsOutcome terms (λ m. (x : List ℕ) → m x ≡ None) s) (λ (s : Table). IsSolved g c.args.pattern.now s)
    (λ s h. subst (λ (p : Pattern). IsSolved g p s) (sym c.in-Empty.is) (h g.terms)) c.empty.ensures
