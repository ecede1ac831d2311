use Rattle.std.proofs.Common.{◌≡◌, ◌≢◌, ◌∙◌, true, false, length, slice_index, subst, sym}
use Rattle.std.proofs.lemmas.Result.{IfOk-weaker}
use Rattle.pattern_dm.specs.declared.masks.Masks.{Masks}
use Rattle.pattern_dm.specs.Masks.{AreSplit}
use Rattle.pattern_dm.specs.Says.{AreSame}
use Rattle.pattern_dm.specs.Solved.{mapping_at}
use Rattle.pattern_dm.proofs.ConditionLemmas.{error_left, error_right, same_columns}
use Rattle.pattern_dm.proofs.conditions.variables.Goals as goal

pub returns-in-None : goal.returns-in-None
returns-in-None c =
    let s = c.args.rows.now in
    let terms = c.args.graph.now.terms in
    IfOk-weaker c.errors.result (λ (k : Masks). AreSplit c.len.result (λ _. ⊥) (λ _. ⊥) k) (λ (k : Masks). AreSplit s.rows (λ i. AreSame true (mapping_at terms s i c.args.a.now) (mapping_at terms s i c.args.b.now)) (λ i. AreSame false (mapping_at terms s i c.args.a.now) (mapping_at terms s i c.args.b.now)) k)
    (λ k h. error_left terms s c.args.a.now k (λ i. mapping_at terms s i c.args.b.now) c.in-None.ensures (subst (λ n. AreSplit n (λ _. ⊥) (λ _. ⊥) k) c.len.ensures h)) c.errors.ensures

pub returns-in-None-column : goal.returns-in-None-column
returns-in-None-column c =
    let s = c.args.rows.now in
    let terms = c.args.graph.now.terms in
    IfOk-weaker c.errors-in-None-column.result (λ (k : Masks). AreSplit c.len-in-None-column.result (λ _. ⊥) (λ _. ⊥) k) (λ (k : Masks). AreSplit s.rows (λ i. AreSame true (mapping_at terms s i c.args.a.now) (mapping_at terms s i c.args.b.now)) (λ i. AreSame false (mapping_at terms s i c.args.a.now) (mapping_at terms s i c.args.b.now)) k)
    (λ k h. error_right terms s c.args.b.now k (λ i. mapping_at terms s i c.args.a.now) c.in-None-column.ensures (subst (λ n. AreSplit n (λ _. ⊥) (λ _. ⊥) k) c.len-in-None-column.ensures h)) c.errors-in-None-column.ensures

pub is_same-requires : goal.is_same-requires
is_same-requires c = c.in-Some-column.ensures.1 ∙ sym c.in-Some.ensures.1

pub returns-in-Some-column : goal.returns-in-Some-column
returns-in-Some-column c =
    let s = c.args.rows.now in
    let terms = c.args.graph.now.terms in
    let a = c.in-Some.first.now in
    let b = c.in-Some-column.second.now in
    IfOk-weaker c.is_same.result (λ (k : Masks). AreSplit (length a) (λ i. (slice_index a i ≡ slice_index b i) × ((slice_index a i ≢ 0) × (slice_index b i ≢ 0))) (λ i. (slice_index a i ≢ slice_index b i) × ((slice_index a i ≢ 0) × (slice_index b i ≢ 0))) k)
    (λ (k : Masks). AreSplit s.rows (λ i. AreSame true (mapping_at terms s i c.args.a.now) (mapping_at terms s i c.args.b.now)) (λ i. AreSame false (mapping_at terms s i c.args.a.now) (mapping_at terms s i c.args.b.now)) k)
    (λ k h. same_columns terms s c.args.a.now k c.args.b.now a b c.requires.lawful.apart c.requires.numbers c.in-Some.ensures.1 c.in-Some.ensures.2 c.in-Some-column.ensures.2 h) c.is_same.ensures
