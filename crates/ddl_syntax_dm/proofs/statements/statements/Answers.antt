use Rattle.std.proofs.Common.{sym, ◌∙◌}
use Rattle.ddl_syntax_dm.specs.Reading.{file_at}
use Rattle.ddl_syntax_dm.proofs.Loops.{file_begin, file_on}
use Rattle.ddl_syntax_dm.proofs.statements.statements.Goals as goal

pub statements-init : goal.statements-init
statements-init c = file_begin c.args.tokens.now c.in_ok-first.rest.now c.in_ok-first.first c.new-found.result c.push_present.new.found c.in_ok-first.ensures c.new-found.ensures c.in_ok-push_present.ensures

pub statements-preserved : goal.statements-preserved
statements-preserved c =
    file_on c.statements.found c.push_present-in-statements.new.found c.statements.rest.now c.in_ok-next.after.now c.in_ok-next.next (file_at c.args.tokens.now) c.statements.invariant
    (sym c.starts_with_sign.ensures ∙ c.statements-test.true) c.in_ok-next.ensures c.in_ok-push_present-2.ensures
