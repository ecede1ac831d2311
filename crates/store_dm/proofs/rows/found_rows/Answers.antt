use Rattle.std.proofs.Common.{◌≡◌, ◌↔◌, ◌∙◌, ℕ, List, Contains, filter, length, map, subst, sym}
use Rattle.std.proofs.lemmas.Result.{IfOk-weaker}
use Rattle.solutions_dm.specs.Table.{Table, HasRow}
use Rattle.store_dm.specs.Slots.{AreOnce, IsTripleRow, agrees, slot_columns}
use Rattle.store_dm.specs.Triads.{FitsAll}
use Rattle.store_dm.specs.Turns.{numbers}
use Rattle.store_dm.proofs.RowLemmas.{triple_exact, triple_once}
use Rattle.store_dm.proofs.rows.found_rows.Goals as goal

pub returns-clause-exact : goal.returns-clause-exact
returns-clause-exact c = IfOk-weaker c.table_of.result (λ (t : Table). t ≡ record { columns = slot_columns c.args.s.now c.args.p.now c.args.o.now c.as_slice.result.now; rows = length c.as_slice.result.now }) (λ (t : Table). (m : List ℕ → ℕ) → HasRow t m ↔ IsTripleRow c.args.graph.now c.args.s.now c.args.p.now c.args.o.now m)
    (λ t e m. subst (λ (t : Table). HasRow t m ↔ IsTripleRow c.args.graph.now c.args.s.now c.args.p.now c.args.o.now m) (sym e)
    (triple_exact c.args.graph.now c.args.s.now c.args.p.now c.args.o.now (map (numbers c.find-matches.result.beginning) c.find-matches.result.triads.now) c.as_slice.result.now
    (c.as_slice.ensures.value ∙ c.in_ok-found.ensures ∙ (λ q. filter (agrees (c.is_same_variable.ensures q) (c.is_same_variable-2.ensures q) (c.is_same_variable-3.ensures q)) (map (numbers c.find-matches.result.beginning) c.find-matches.result.triads.now)))
    (c.requires.subject, c.requires.predicate, c.requires.object) (c.requires.subject_bound, c.requires.predicate_bound, c.requires.object_bound)
    (λ x y z. subst (λ (w : ℕ × ℕ × ℕ). Contains (map (numbers c.find-matches.result.beginning) c.find-matches.result.triads.now) (x, y, z) ↔ (Contains c.args.graph.now.triples (record { first = x; second = y; third = z }) × FitsAll (record { first = w.0; second = w.1; third = w.2 }) (record { first = x; second = y; third = z })))
    (λ q. (c.sought.ensures q, c.sought-2.ensures q, c.sought-3.ensures q)) (c.find-matches.ensures.exact x y z)) m))
    c.table_of.ensures

pub returns-clause-once : goal.returns-clause-once
returns-clause-once c = IfOk-weaker c.table_of.result (λ (t : Table). t ≡ record { columns = slot_columns c.args.s.now c.args.p.now c.args.o.now c.as_slice.result.now; rows = length c.as_slice.result.now }) AreOnce
    (λ t e. subst AreOnce (sym e)
    (triple_once c.args.graph.now c.args.s.now c.args.p.now c.args.o.now (map (numbers c.find-matches.result.beginning) c.find-matches.result.triads.now) c.as_slice.result.now
    (c.as_slice.ensures.value ∙ c.in_ok-found.ensures ∙ (λ q. filter (agrees (c.is_same_variable.ensures q) (c.is_same_variable-2.ensures q) (c.is_same_variable-3.ensures q)) (map (numbers c.find-matches.result.beginning) c.find-matches.result.triads.now)))
    (c.requires.subject, c.requires.predicate, c.requires.object) (c.requires.subject_bound, c.requires.predicate_bound, c.requires.object_bound)
    (λ x y z. subst (λ (w : ℕ × ℕ × ℕ). Contains (map (numbers c.find-matches.result.beginning) c.find-matches.result.triads.now) (x, y, z) ↔ (Contains c.args.graph.now.triples (record { first = x; second = y; third = z }) × FitsAll (record { first = w.0; second = w.1; third = w.2 }) (record { first = x; second = y; third = z })))
    (λ q. (c.sought.ensures q, c.sought-2.ensures q, c.sought-3.ensures q)) (c.find-matches.ensures.exact x y z)) c.find-matches.ensures.once))
    c.table_of.ensures
