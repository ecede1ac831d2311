use Rattle.std.proofs.Common.{length}
use Rattle.grammar_dm.proofs.Walks.{SkipWalk}
use Rattle.ddl_syntax_dm.specs.declared.token.Keyword.TheVariants as keywords
use Rattle.ddl_syntax_dm.specs.Reading.{is_word, rule_at, rules_at}
use Rattle.ddl_syntax_dm.proofs.keys.rules.Given as goal

abbrev pub invariant-rules : goal.invariant-rules
invariant-rules l = SkipWalk (is_word keywords.On) rule_at l.rest (rules_at l.tokens)

abbrev pub decreases-rules : goal.decreases-rules
decreases-rules l = length l.rest
