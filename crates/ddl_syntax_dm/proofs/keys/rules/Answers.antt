use Rattle.ddl_syntax_dm.proofs.Loops.{rules_begin}
use Rattle.ddl_syntax_dm.proofs.keys.rules.Goals as goal

pub rules-init : goal.rules-init
rules-init c = rules_begin c.args.tokens.now
