use Rattle.std.proofs.Common.{rules}
use Rattle.std.specs.Prelude.{FitsSigned}
use Rattle.std.specs.Int.{w64}
use Rattle.std.proofs.lemmas.Int.{to_z-of_z}
use Rattle.std.proofs.lemmas.Result.{IfOk-weaker}
use Rattle.value_dm.proofs.Written.{written_form}
use Rattle.value_dm.specs.declared.value.Value.TheVariants as value
use Rattle.value_dm.proofs.canonical.value_form.Goals as goal

pub returns-in-Integer-clause-written : goal.returns-in-Integer-clause-written
returns-in-Integer-clause-written c =
    let fits : FitsSigned w64 c.in-Integer.number = search rules in
    let written = rw (to_z-of_z w64 c.in-Integer.number fits) at c.integer_form.ensures.written in
    rw c.in-Integer.is (IfOk-weaker c.integer_form.result _ _ (λ form e. written_form (value.Integer c.in-Integer.number) fits (λ k. cc k) e) written)

pub returns-in-Decimal-clause-written : goal.returns-in-Decimal-clause-written
returns-in-Decimal-clause-written c =
    rw c.in-Decimal.is (IfOk-weaker c.decimal_form.result _ _ (λ form e. written_form (value.Decimal c.in-Decimal.number) tt (λ k. cc k) e) c.decimal_form.ensures)

pub returns-in-Boolean-clause-written : goal.returns-in-Boolean-clause-written
returns-in-Boolean-clause-written c =
    rw c.in-Boolean.is (IfOk-weaker c.boolean_form.result _ _ (λ form e. written_form (value.Boolean c.in-Boolean.truth) tt (λ k. cc k) e) c.boolean_form.ensures)

pub returns-in-Date-clause-written : goal.returns-in-Date-clause-written
returns-in-Date-clause-written c =
    rw c.in-Date.is (IfOk-weaker c.date_form.result _ _ (λ form e. written_form (value.Date c.in-Date.date) tt (λ k. cc k) e) c.date_form.ensures)

pub returns-in-Time-clause-written : goal.returns-in-Time-clause-written
returns-in-Time-clause-written c =
    rw c.in-Time.is (IfOk-weaker c.time_form.result _ _ (λ form e. written_form (value.Time c.in-Time.time) tt (λ k. cc k) e) c.time_form.ensures)

pub returns-in-DateTime-clause-written : goal.returns-in-DateTime-clause-written
returns-in-DateTime-clause-written c =
    rw c.in-DateTime.is (IfOk-weaker c.date_time_form.result _ _ (λ form e. written_form (value.DateTime c.in-DateTime.both) tt (λ k. cc k) e) c.date_time_form.ensures)

pub returns-in-Binary-clause-written : goal.returns-in-Binary-clause-written
returns-in-Binary-clause-written c =
    rw c.in-Binary.is (IfOk-weaker c.bytes_form.result _ _ (λ form e. written_form (value.Binary c.in-Binary.bytes) c.bytes_form.ensures.lawful (λ k. cc k) e) c.bytes_form.ensures.written)
