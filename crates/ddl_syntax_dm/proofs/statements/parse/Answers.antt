use Rattle.grammar_dm.proofs.Walks.{is_judged}
use Rattle.ddl_syntax_dm.specs.Grammar.{file}
use Rattle.ddl_syntax_dm.specs.Reading.{file_at}
use Rattle.ddl_syntax_dm.proofs.StatementReaders.{file_more, file_reads}
use Rattle.ddl_syntax_dm.proofs.statements.parse.Goals as goal

pub returns : goal.returns
returns c = is_judged file file_more c.args.tokens.now (file_at c.args.tokens.now) c.all_statements.result (file_reads c.args.tokens.now) c.all_statements.ensures
