use Rattle.std.proofs.Common.{inl, inr}
use Rattle.std.proofs.lemmas.Result.{err_from_is_err_and}
use Rattle.algebra_dm.specs.Nodes.{nodes}
use Rattle.algebra_dm.proofs.FirstLemmas.{fault_unique, faultless_first}
use Rattle.algebra_dm.proofs.recall.check_query.Goals as goal

pub returns-in_err-_known-clause-only : goal.returns-in_err-_known-clause-only
returns-in_err-_known-clause-only c = λ faultless.
    let error = err_from_is_err_and c.from_residual.result c.from_residual.ensures.1 in
    rw (error.1, error.2) (elim c.in_err-_known.ensures [
      | inl memory ↦ memory
      | inr fault ↦ absurd (faultless_first c.args.schema.now (nodes c.args.query.now) c.in_err-_known.field-0.0 faultless fault)
    ])

pub returns-in_err-_known-clause-first : goal.returns-in_err-_known-clause-first
returns-in_err-_known-clause-first c = λ other first.
    let error = err_from_is_err_and c.from_residual.result c.from_residual.ensures.1 in
    rw (error.1, error.2) (elim c.in_err-_known.ensures [
      | inl memory ↦ inr memory
      | inr fault ↦ inl (fault_unique c.args.schema.now (nodes c.args.query.now) c.in_err-_known.field-0.0 other fault first)
    ])

pub returns-clause-first : goal.returns-clause-first
returns-clause-first c = λ other first. faultless_first c.args.schema.now (nodes c.args.query.now) other c.in_ok-_known.ensures.0 first
