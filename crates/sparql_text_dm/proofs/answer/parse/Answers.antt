use Rattle.sparql_text_dm.proofs.OneAnswer.{is_parsed}
use Rattle.sparql_text_dm.proofs.answer.parse.Goals as goal

pub returns : goal.returns
returns c = is_parsed c.args.tokens.now c.all.result c.all.ensures
