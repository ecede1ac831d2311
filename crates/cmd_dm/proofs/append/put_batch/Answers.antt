use Rattle.std.proofs.Common.{subst}
use Rattle.std.proofs.lemmas.Result.{err_from_is_err_and}
use Rattle.table_csv.specs.Databases.{Data}
use Rattle.keys_dm.specs.Violations.{KeepsKeys}
use Rattle.cmd_dm.specs.Questions.{batch_of}
use Rattle.cmd_dm.specs.Script.{write, text_work}
use Rattle.cmd_dm.proofs.Endings.{ends_after, ends_memory, ends_writes, leads_ask}
use Rattle.cmd_dm.proofs.append.put_batch.Goals as goal

pub returns-in_err-check_alone : goal.returns-in_err-check_alone
returns-in_err-check_alone g c =
    let error = err_from_is_err_and c.from_residual.result c.from_residual.ensures.1 in
    λ state. rw (error.1, error.2) (c.in_err-check_alone.ensures.step state _ _ _)

pub returns-in_err-whole : goal.returns-in_err-whole
returns-in_err-whole g c =
    let error = err_from_is_err_and c.from_residual-in_err-whole.result c.from_residual-in_err-whole.ensures.1 in
    λ state. rw (error.1, error.2) (ends_after (c.in_ok-check_alone.ensures.step state _) (ends_memory _ _ _ _))

pub returns-in_err-indexes : goal.returns-in_err-indexes
returns-in_err-indexes g c =
    let error = err_from_is_err_and c.from_residual-in_err-indexes.result c.from_residual-in_err-indexes.ensures.1 in
    λ state. rw (error.1, error.2) (ends_after (c.in_ok-check_alone.ensures.step state _) (ends_memory _ _ _ _))

pub returns-in_err-check_both : goal.returns-in_err-check_both
returns-in_err-check_both g c =
    let error = err_from_is_err_and c.from_residual-in_err-check_both.result c.from_residual-in_err-check_both.ensures.1 in
    λ state. rw (error.1, error.2) (ends_after (c.in_ok-check_alone.ensures.step state _) ((rw c.in_ok-whole.ensures at c.in_err-check_both.ensures.step) state _ _ _))

pub write_batch_by-requires-clause-whole_kept : goal.write_batch_by-requires-clause-whole_kept
write_batch_by-requires-clause-whole_kept g c = subst (λ (D : Data). KeepsKeys D) c.in_ok-whole.ensures c.in_ok-check_both.ensures.kept

pub returns : goal.returns
returns g c =
    let text = c.write_batch_by.ensures.text in
    λ state. ends_after (c.in_ok-check_alone.ensures.step state _) (ends_after ((rw c.in_ok-whole.ensures at c.in_ok-check_both.ensures.step) state _)
    (ends_after (leads_ask (batch_of c.args.base.now c.args.old.now c.args.batch.now) text.text (λ text. write (text_work text)) state text.is_text)
    (rw c.end_of_puts.ensures (ends_writes text.text state _ text.writes))))
