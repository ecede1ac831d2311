use Rattle.std.proofs.Common.{◌≡◌, ◌∙◌}
use Rattle.std.proofs.lemmas.Result.{IfOk-weaker}
use Rattle.pattern_dm.specs.declared.pattern.Pattern.{Pattern}
use Rattle.pattern_dm.specs.declared.pattern.Pattern.TheVariants as patterns
use Rattle.keeping_dm.specs.Guards.{same_names}
use Rattle.table_patterns_dm.specs.TablePatterns.{relation_pattern}
use Rattle.table_translation_dm.proofs.RelationLemmas.{left_named, left_there, relation_made, right_named, right_there}
use Rattle.table_translation_dm.proofs.relations.relation_pattern.Goals as goal

pub relation_name-requires-clause-left : goal.relation_name-requires-clause-left
relation_name-requires-clause-left c = left_there c.args.tables.now c.requires.schema c.args.place c.requires.place c.args.sides c.requires.relation

pub relation_name-requires-clause-right : goal.relation_name-requires-clause-right
relation_name-requires-clause-right c = right_there c.args.tables.now c.requires.schema c.args.place c.requires.place c.args.sides c.requires.relation

pub with_left-requires-clause-named : goal.with_left-requires-clause-named
with_left-requires-clause-named c = left_named c.args.tables.now c.requires.schema c.args.place c.requires.place c.args.sides c.requires.relation c.in_ok-name.name c.in_ok-name.ensures

pub with_right-requires-clause-named : goal.with_right-requires-clause-named
with_right-requires-clause-named c = right_named c.args.tables.now c.requires.schema c.args.place c.requires.place c.args.sides c.requires.relation c.in_ok-name.name c.in_ok-name.ensures

pub returns : goal.returns
returns c =
    IfOk-weaker c.projected.result (λ (p : Pattern). p ≡ patterns.Select c.in_ok-all.all (same_names c.args.attributes.now))
    (λ (p : Pattern). p ≡ relation_pattern c.args.base.now c.args.tables.now c.args.place c.args.sides c.args.attributes.now)
    (λ p e. e ∙ relation_made c.args.base.now c.args.tables.now c.args.place c.args.sides c.args.attributes.now c.in_ok-name.name c.key_at-left.result.now c.key_at-right.result.now
    c.in_ok-link.link c.in_ok-pair.pair c.in_ok-all.all
    c.in_ok-name.ensures c.key_at-left.ensures.value c.key_at-right.ensures.value c.in_ok-link.ensures c.in_ok-pair.ensures c.in_ok-all.ensures)
    c.projected.ensures
