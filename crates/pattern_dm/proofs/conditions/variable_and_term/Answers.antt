use Rattle.std.proofs.Common.{◌≡◌, ◌≢◌, true, false, Some, refl, length, slice_index, subst}
use Rattle.std.proofs.lemmas.Result.{IfOk-weaker}
use Rattle.std.proofs.lemmas.Bool.{both_ways}
use Rattle.pattern_dm.specs.declared.masks.Masks.{Masks}
use Rattle.pattern_dm.specs.Masks.{AreSplit}
use Rattle.pattern_dm.specs.Says.{AreSame}
use Rattle.pattern_dm.specs.Solved.{mapping_at}
use Rattle.pattern_dm.proofs.ConditionLemmas.{error_left, missing_column, term_column}
use Rattle.pattern_dm.proofs.conditions.variable_and_term.Goals as goal

pub returns-in-None : goal.returns-in-None
returns-in-None c =
    let s = c.args.rows.now in
    let terms = c.args.graph.now.terms in
    IfOk-weaker c.errors.result (λ (k : Masks). AreSplit c.len.result (λ _. ⊥) (λ _. ⊥) k) (λ (k : Masks). AreSplit s.rows (λ i. AreSame true (mapping_at terms s i c.args.name.now) (Some c.args.term.now)) (λ i. AreSame false (mapping_at terms s i c.args.name.now) (Some c.args.term.now)) k)
    (λ k h. error_left terms s c.args.name.now k (λ i. Some c.args.term.now) c.in-None.ensures (subst (λ n. AreSplit n (λ _. ⊥) (λ _. ⊥) k) c.len.ensures h)) c.errors.ensures

pub returns-in-None-id_of : goal.returns-in-None-id_of
returns-in-None-id_of c =
    let s = c.args.rows.now in
    let terms = c.args.graph.now.terms in
    let numbers = c.in-Some.numbers.now in
    IfOk-weaker c.is_missing.result (λ (k : Masks). AreSplit (length numbers) (λ _. ⊥) (λ i. slice_index numbers i ≢ 0) k) (λ (k : Masks). AreSplit s.rows (λ i. AreSame true (mapping_at terms s i c.args.name.now) (Some c.args.term.now)) (λ i. AreSame false (mapping_at terms s i c.args.name.now) (Some c.args.term.now)) k)
    (λ k h. missing_column c.args.graph.now s c.args.name.now k numbers c.args.term.now c.requires.lawful c.requires.numbers c.in-Some.ensures.1 c.in-Some.ensures.2 (λ held. both_ways false refl (c.in-None-id_of.ensures.found.1 held)) h) c.is_missing.ensures

pub returns-in-Some-id_of : goal.returns-in-Some-id_of
returns-in-Some-id_of c =
    let s = c.args.rows.now in
    let terms = c.args.graph.now.terms in
    let numbers = c.in-Some.numbers.now in
    IfOk-weaker c.is_number.result (λ (k : Masks). AreSplit (length numbers) (λ i. slice_index numbers i ≡ c.in-Some-id_of.id) (λ i. (slice_index numbers i ≢ c.in-Some-id_of.id) × (slice_index numbers i ≢ 0)) k) (λ (k : Masks). AreSplit s.rows (λ i. AreSame true (mapping_at terms s i c.args.name.now) (Some c.args.term.now)) (λ i. AreSame false (mapping_at terms s i c.args.name.now) (Some c.args.term.now)) k)
    (λ k h. term_column terms s c.args.name.now k numbers c.in-Some.ensures.1 c.in-Some.ensures.2 c.requires.numbers c.args.term.now c.in-Some-id_of.id c.requires.lawful.apart c.in-Some-id_of.ensures.number h) c.is_number.ensures
