use Rattle.grammar_dm.proofs.Laws.{no}
use Rattle.grammar_dm.proofs.Walks.{is_judged}
use Rattle.std.proofs.Common.{length}
use Rattle.query_text_dm.specs.Grammar.{query}
use Rattle.query_text_dm.specs.Reading.{query_at}
use Rattle.query_text_dm.proofs.Readers.{query_read}
use Rattle.query_text_dm.proofs.operands.parse.Goals as goal

pub returns : goal.returns
returns c = is_judged query no c.args.tokens.now (query_at (length c.args.tokens.now) c.args.tokens.now) c.all.result (query_read c.args.tokens.now) c.all.ensures
